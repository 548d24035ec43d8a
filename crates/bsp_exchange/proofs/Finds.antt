-- What is found in nodes is found in their states.
use Rattle.std.proofs.Common.{◌≡◌, ℕ, ◌+◌, ◌<◌, ◌≤◌, zero, suc, Bool, true, false, not, cond, List, [], ◌∷◌, map, drop, length, get_or}
use Rattle.std.proofs.Common.{refl, sym, ap, ◌∙◌, Option, Some, None, arith}
use Rattle.std.specs.Prelude.{find, option_map, option_and_then, slice_get, unwrap_or}
use Rattle.std.specs.List.{enumerate_from}
use Rattle.std.specs.Option.{is_some, option_or}
use Rattle.std.proofs.lemmas.Bool.{false≢true}
use Rattle.std.proofs.lemmas.Option.{none-some, slice_get-map, slice_get_read}
use Rattle.std.proofs.lemmas.List.{drop_all, length-map}
use Rattle.std.proofs.lemmas.List.Folds.{find-append}
use Rattle.bsp_slots.specs.declared.area.Area.{Area}
use Rattle.bsp_requests.specs.declared.request.Request.{Request}
use Rattle.bsp_requests.specs.Request.{Asked, asked}
use Rattle.node_core.specs.Node.{NodeState, PreparedNode}
use Rattle.bsp_exchange.specs.declared.fault.ExchangeFault.{ExchangeFault}
use Rattle.bsp_exchange.specs.declared.fault.ExchangeFault.TheVariants.{OutsideArea}
use Rattle.bsp_exchange.specs.Areas.{area_at}
use Rattle.bsp_exchange.specs.Exchange.{states}
use Rattle.bsp_exchange.specs.Faults.{disagreeing, leaves_area, fault_of, first_outside}
use Rattle.bsp_exchange.specs.Issued.{Issued, issued_as, issued_by, issued}

-- a choice moves out of a map of options
option_map-cond : {X Y : Type 0} (f : X → Y) (b : Bool) (x : X) (o : Option X)
    → option_map f (cond b (Some x) o) ≡ cond b (Some (f x)) (option_map f o)
option_map-cond f true x o = refl
option_map-cond f false x o = refl

find-map : {X Y : Type 0} (f : X → Y) (p : Y → Bool) (xs : List X) → find p (map f xs) ≡ option_map f (find (λ x. p (f x)) xs)
find-map f p [] = refl
find-map f p (x ∷ xs) = ap (cond (p (f x)) (Some (f x))) (find-map f p xs) ∙ sym (option_map-cond f (p (f x)) x (find (λ y. p (f y)) xs))

abbrev areas_of : ℕ → PreparedNode → Option Area
areas_of slot p = slice_get p.node.hart.communication.registrations.in_effect slot

option_map-twice : {X Y Z : Type 0} (f : Y → Z) (g : X → Y) (o : Option X) → option_map f (option_map g o) ≡ option_map (λ x. f (g x)) o
option_map-twice f g None = refl
option_map-twice f g (Some x) = refl

option_and_then-map : {X Y Z : Type 0} (f : Y → Option Z) (g : X → Y) (o : Option X)
    → option_and_then f (option_map g o) ≡ option_and_then (λ x. f (g x)) o
option_and_then-map f g None = refl
option_and_then-map f g (Some x) = refl

area_at-states : (ps : List PreparedNode) (rank slot : ℕ)
    → area_at (states ps) rank slot ≡ option_and_then (areas_of slot) (slice_get ps rank)
area_at-states ps rank slot =
    ap (option_and_then (λ (n : NodeState). slice_get n.hart.communication.registrations.in_effect slot))
    (slice_get-map (λ (p : PreparedNode). p.node) ps rank)
    ∙ option_and_then-map (λ (n : NodeState). slice_get n.hart.communication.registrations.in_effect slot) (λ (p : PreparedNode). p.node)
    (slice_get ps rank)

-- there is no area where there is no node
pub no_area : (ps : List PreparedNode) (rank slot : ℕ) → slice_get ps rank ≡ None → area_at (states ps) rank slot ≡ None
no_area ps rank slot none = area_at-states ps rank slot ∙ ap (option_and_then (areas_of slot)) none

-- the area is in the list of the rank's node
pub area_of : (ps : List PreparedNode) (rank slot : ℕ) (p : PreparedNode) → slice_get ps rank ≡ Some p
    → area_at (states ps) rank slot ≡ slice_get p.node.hart.communication.registrations.in_effect slot
area_of ps rank slot p found = area_at-states ps rank slot ∙ ap (option_and_then (areas_of slot)) found

-- no node disagrees where there is none
pub none_disagrees : (agree : NodeState → NodeState → Bool) (ps : List PreparedNode) → slice_get ps 0 ≡ None
    → disagreeing agree (states ps) ≡ None
none_disagrees agree [] none = refl
none_disagrees agree (p ∷ ps) none = absurd (none-some p (sym none))

-- the disagreeing node's rank
pub who_disagrees : (agree : NodeState → NodeState → Bool) (ps : List PreparedNode) (first : PreparedNode)
    (found who : Option PreparedNode) → slice_get ps 0 ≡ Some first → found ≡ find (λ (p : PreparedNode). not (agree first.node p.node)) ps
    → found ≡ who → disagreeing agree (states ps) ≡ option_map (λ (p : PreparedNode). p.node.hart.rank) who
who_disagrees agree [] first found who is was same = absurd (none-some first is)
who_disagrees agree (p ∷ ps) first found who is was same =
    let head : p ≡ first = ap (λ (o : Option PreparedNode). unwrap_or o first) is in
    ap (option_map (λ (n : NodeState). n.hart.rank)) (find-map (λ (q : PreparedNode). q.node) (λ n. not (agree p.node n)) (p ∷ ps))
    ∙ option_map-twice (λ (n : NodeState). n.hart.rank) (λ (q : PreparedNode). q.node)
    (find (λ (q : PreparedNode). not (agree p.node q.node)) (p ∷ ps))
    ∙ ap (λ (x : PreparedNode). option_map (λ (q : PreparedNode). q.node.hart.rank)
    (find (λ (q : PreparedNode). not (agree x.node q.node)) (p ∷ ps))) head
    ∙ ap (option_map (λ (q : PreparedNode). q.node.hart.rank)) (sym was ∙ same)

-- what is left of a list from one of its elements on
pub drop_from : {X : Type 0} (xs : List X) (i : ℕ) (x : X) → slice_get xs i ≡ Some x → drop i xs ≡ x ∷ drop (i + 1) xs
drop_from [] i x is = absurd (none-some x is)
drop_from (y ∷ xs) zero x is = ap (λ o. unwrap_or o x ∷ xs) is
drop_from (y ∷ xs) (suc i) x is =
    let next : suc (i + 1) ≡ suc i + 1 = omega arith in
    drop_from xs i x is ∙ ap (λ n. x ∷ drop n (y ∷ xs)) next

-- the requests of a node from number i on
abbrev pub issued_from : NodeState → ℕ → List Issued
issued_from n i = map (issued_as n.hart.rank) (enumerate_from i (drop i n.hart.communication.requests.requests))

-- the fault of the next request, or else that of those after it
pub next_request : (nodes : List NodeState) (n : NodeState) (i : ℕ) (r : Asked)
    → slice_get n.hart.communication.requests.requests i ≡ Some r
    → first_outside nodes (issued_from n i)
    ≡ cond (leaves_area nodes r) (Some (OutsideArea n.hart.rank i)) (first_outside nodes (issued_from n (i + 1)))
next_request nodes n i r is =
    ap (λ (rs : List Asked). first_outside nodes (map (issued_as n.hart.rank) (enumerate_from i rs)))
    (drop_from n.hart.communication.requests.requests i r is)
    ∙ option_map-cond fault_of (leaves_area nodes r) (issued_as n.hart.rank (i, r))
    (find (λ (q : Issued). leaves_area nodes q.request) (issued_from n (i + 1)))

-- no request is left
pub no_request_left : (nodes : List NodeState) (n : NodeState) (i : ℕ) → length n.hart.communication.requests.requests ≤ i
    → first_outside nodes (issued_from n i) ≡ None
no_request_left nodes n i past =
    ap (λ (rs : List Asked). first_outside nodes (map (issued_as n.hart.rank) (enumerate_from i rs)))
    (drop_all i n.hart.communication.requests.requests past)

option_map-or : {X Y : Type 0} (f : X → Y) (a b : Option X) → option_map f (option_or a b) ≡ option_or (option_map f a) (option_map f b)
option_map-or f None b = refl
option_map-or f (Some x) b = refl

-- the fault of the next node's requests, or else that of the nodes after it
pub next_node : (nodes : List NodeState) (ps : List PreparedNode) (i : ℕ) (p : PreparedNode) → slice_get ps i ≡ Some p
    → first_outside nodes (issued (drop i (states ps)))
    ≡ option_or (first_outside nodes (issued_by p.node)) (first_outside nodes (issued (drop (i + 1) (states ps))))
next_node nodes ps i p is =
    ap (λ (ns : List NodeState). first_outside nodes (issued ns))
    (drop_from (states ps) i p.node (slice_get-map (λ (q : PreparedNode). q.node) ps i ∙ ap (option_map (λ (q : PreparedNode). q.node)) is))
    ∙ ap (option_map fault_of)
    (find-append (λ (q : Issued). leaves_area nodes q.request) (issued_by p.node) (issued (drop (i + 1) (states ps))))
    ∙ option_map-or fault_of (find (λ (q : Issued). leaves_area nodes q.request) (issued_by p.node))
    (find (λ (q : Issued). leaves_area nodes q.request) (issued (drop (i + 1) (states ps))))

-- no node is left
pub no_node_left : (nodes : List NodeState) (ps : List PreparedNode) (i : ℕ) → length ps ≤ i
    → first_outside nodes (issued (drop i (states ps))) ≡ None
no_node_left nodes ps i past = ap (λ (ns : List NodeState). first_outside nodes (issued ns)) (drop_all i (states ps) (rw length-map past))

-- a request that leaves its area is the one that is looked for
pub leaves_here : (nodes : List NodeState) (n : NodeState) (i : ℕ) (r : Asked)
    → slice_get n.hart.communication.requests.requests i ≡ Some r → leaves_area nodes r ≡ true
    → first_outside nodes (issued_from n i) ≡ Some (OutsideArea n.hart.rank i)
leaves_here nodes n i r is leaves =
    next_request nodes n i r is ∙ ap (λ b. cond b (Some (OutsideArea n.hart.rank i)) (first_outside nodes (issued_from n (i + 1)))) leaves

-- past a request that keeps to its area, those after it are looked at
pub keeps_here : (nodes : List NodeState) (n : NodeState) (i : ℕ) (r : Asked)
    → slice_get n.hart.communication.requests.requests i ≡ Some r → leaves_area nodes r ≡ false
    → first_outside nodes (issued_from n i) ≡ first_outside nodes (issued_from n (i + 1))
keeps_here nodes n i r is keeps =
    next_request nodes n i r is ∙ ap (λ b. cond b (Some (OutsideArea n.hart.rank i)) (first_outside nodes (issued_from n (i + 1)))) keeps

-- a request that is lent from a place is the one that is asked there
pub asked_here : {A : Type 0} (rs : List Asked) (lent : List (Request A)) (i : ℕ) (r : Request A) → map asked lent ≡ rs
    → i < length lent → r ≡ get_or lent i r → slice_get rs i ≡ Some (asked r)
asked_here rs lent i r same within is =
    ap (λ (qs : List Asked). slice_get qs i) (sym same)
    ∙ slice_get-map asked lent i
    ∙ ap (option_map asked) (slice_get_read lent (length lent) i r refl within is)

-- and none is asked past those that are lent
pub asked_all : {A : Type 0} (rs : List Asked) (lent : List (Request A)) (i : ℕ) → map asked lent ≡ rs → length lent ≤ i → length rs ≤ i
asked_all rs lent i same past = rw (ap length (sym same) ∙ length-map lent asked) past

-- there is no element only past the end
pub past_end : {X : Type 0} (xs : List X) (i : ℕ) → slice_get xs i ≡ None → length xs ≤ i
past_end [] i none = omega arith
past_end (x ∷ xs) zero none = absurd (none-some x (sym none))
past_end (x ∷ xs) (suc i) none = omega (arith, past_end xs i none)

pub none_tested : {X : Type 0} (o : Option X) → is_some o ≡ false → o ≡ None
none_tested None none = refl
none_tested (Some x) none = absurd (false≢true (sym none))

or_some : {X : Type 0} (o rest : Option X) → is_some o ≡ true → option_or o rest ≡ o
or_some None rest some = absurd (false≢true some)
or_some (Some x) rest some = refl

or_none : {X : Type 0} (o rest : Option X) → is_some o ≡ false → option_or o rest ≡ rest
or_none None rest none = refl
or_none (Some x) rest none = absurd (false≢true (sym none))

from_here : (nodes : List NodeState) (ps : List PreparedNode) (i : ℕ) (p : PreparedNode) (fault : Option ExchangeFault) → i < length ps
    → p ≡ get_or ps i p → fault ≡ first_outside nodes (issued_by p.node)
    → first_outside nodes (issued (drop i (states ps))) ≡ option_or fault (first_outside nodes (issued (drop (i + 1) (states ps))))
from_here nodes ps i p fault within is found =
    next_node nodes ps i p (slice_get_read ps (length ps) i p refl within is)
    ∙ ap (λ o. option_or o (first_outside nodes (issued (drop (i + 1) (states ps))))) (sym found)

-- the fault of a node is the one that is looked for
pub fault_here : (nodes : List NodeState) (ps : List PreparedNode) (i : ℕ) (p : PreparedNode) (fault : Option ExchangeFault)
    → i < length ps → p ≡ get_or ps i p → fault ≡ first_outside nodes (issued_by p.node) → is_some fault ≡ true
    → first_outside nodes (issued (drop i (states ps))) ≡ fault
fault_here nodes ps i p fault within is found some = from_here nodes ps i p fault within is found ∙ or_some fault _ some

-- past a node without a fault, those after it are looked at
pub no_fault_here : (nodes : List NodeState) (ps : List PreparedNode) (i : ℕ) (p : PreparedNode) (fault : Option ExchangeFault)
    → i < length ps → p ≡ get_or ps i p → fault ≡ first_outside nodes (issued_by p.node) → is_some fault ≡ false
    → first_outside nodes (issued (drop i (states ps))) ≡ first_outside nodes (issued (drop (i + 1) (states ps)))
no_fault_here nodes ps i p fault within is found none = from_here nodes ps i p fault within is found ∙ or_none fault _ none
