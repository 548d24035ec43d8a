-- Which fault is the first, and what the answer of an exchange says of it.
use Rattle.std.proofs.Common.{◌≡◌, ℕ, List, Result, Ok, Err, Option, Some, None, ap, ap₂, refl, sym, ◌∙◌}
use Rattle.std.specs.Prelude.{◌↔◌, IsErrAnd, option_map}
use Rattle.std.specs.Option.{option_or}
use Rattle.node_core.specs.Node.{NodeState}
use Rattle.bsp_exchange.specs.declared.fault.ExchangeFault.{ExchangeFault}
use Rattle.bsp_exchange.specs.declared.fault.ExchangeFault.TheVariants.{TagMismatch, SlotMismatch}
use Rattle.bsp_exchange.specs.declared.fault.ExchangeError.{ExchangeError}
use Rattle.bsp_exchange.specs.declared.fault.ExchangeError.TheVariants.{Fault, NoMemory}
use Rattle.bsp_exchange.specs.Issued.{issued}
use Rattle.bsp_exchange.specs.Faults.{disagreeing, have_same_tag_size, have_same_shape, first_outside, exchange_fault, NamesFault}

-- the first fault is one of the tag sizes, or else one of the registrations, or else one of the requests
pub fault_of_tags : (nodes : List NodeState) (rank : ℕ) → disagreeing have_same_tag_size nodes ≡ Some rank
    → Some (TagMismatch rank) ≡ exchange_fault nodes
fault_of_tags nodes rank tags =
    let others : Option ExchangeFault =
    option_or (option_map SlotMismatch (disagreeing have_same_shape nodes)) (first_outside nodes (issued nodes)) in
    ap (λ (o : Option ℕ). option_or (option_map TagMismatch o) others) (sym tags)

pub fault_of_slots : (nodes : List NodeState) (rank : ℕ) → disagreeing have_same_tag_size nodes ≡ None
    → disagreeing have_same_shape nodes ≡ Some rank → Some (SlotMismatch rank) ≡ exchange_fault nodes
fault_of_slots nodes rank tags slots =
    ap₂ (λ (o p : Option ℕ). option_or (option_map TagMismatch o)
    (option_or (option_map SlotMismatch p) (first_outside nodes (issued nodes)))) (sym tags) (sym slots)

pub fault_of_requests : (nodes : List NodeState) → disagreeing have_same_tag_size nodes ≡ None
    → disagreeing have_same_shape nodes ≡ None → first_outside nodes (issued nodes) ≡ exchange_fault nodes
fault_of_requests nodes tags slots =
    ap₂ (λ (o p : Option ℕ). option_or (option_map TagMismatch o)
    (option_or (option_map SlotMismatch p) (first_outside nodes (issued nodes)))) (sym tags) (sym slots)

pub NamesFault-some : {T : Type 0} (fault : Option ExchangeFault) (e : ExchangeFault) → fault ≡ Some e
    → NamesFault {T = T} (Err (Fault e)) fault
NamesFault-some fault e is f = (λ same. cc, λ same. cc)

pub NamesFault-made : {T : Type 0} (x : T) (fault : Option ExchangeFault) → fault ≡ None → NamesFault (Ok x) fault
NamesFault-made x fault none f = (λ is. absurd cc, λ is. absurd cc)

pub NamesFault-refused : {T : Type 0} (r : Result T ExchangeError) (fault : Option ExchangeFault) → IsErrAnd r (λ e. e ≡ NoMemory)
    → fault ≡ None → NamesFault r fault
NamesFault-refused (Ok x) fault is none f = absurd is
NamesFault-refused (Err e) fault is none f = (λ same. absurd cc, λ some. absurd cc)

abbrev error_or : {T : Type 0} → ExchangeError → Result T ExchangeError → ExchangeError
error_or d (Ok x) = d
error_or d (Err e) = e

same_error : {T : Type 0} (a b : ExchangeError) (r s : Result T ExchangeError) → r ≡ Err a → s ≡ Err b → r ≡ s → a ≡ b
same_error a b r s first second same = sym (ap (error_or a) first) ∙ ap (error_or a) same ∙ ap (error_or a) second

-- an error names the same fault as an answer of whatever call
pub NamesFault-handed : {T U : Type 0} (e : ExchangeError) (fault : Option ExchangeFault) → NamesFault {T = T} (Err e) fault
    → NamesFault {T = U} (Err e) fault
NamesFault-handed {T} {U} e fault names f = (
  λ is. (names f).0 (ap (λ (x : ExchangeError). Err x) (same_error e (Fault f) _ _ refl refl is)),
  λ some. ap (λ (x : ExchangeError). Err x) (same_error e (Fault f) _ _ refl refl ((names f).1 some)),
)

-- an error that says which fault there is names it as an answer
pub NamesFault-told : {T : Type 0} (e : ExchangeError) (fault : Option ExchangeFault)
    → ((f : ExchangeFault) → (e ≡ Fault f) ↔ (fault ≡ Some f)) → NamesFault {T = T} (Err e) fault
NamesFault-told {T} e fault says f = (
  λ is. (says f).0 (same_error e (Fault f) _ _ refl refl is),
  λ some. ap (λ (x : ExchangeError). Err x) ((says f).1 some),
)
