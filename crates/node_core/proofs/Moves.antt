-- What `move` does, by what it has read: the first message, and the bytes of it that it stores.
use Rattle.std.proofs.Common.{◌≡◌, ℕ, ◌<◌, Bool, true, false, List, [], length, take, drop, Option, Some, None, refl, sym, subst, ap, ap₂}
use Rattle.std.proofs.Common.{◌∙◌, arith}
use Rattle.std.specs.Prelude.{min, nat_lt, if◌then◌else◌}
use Rattle.std.specs.Option.{option_map_or}
use Rattle.std.proofs.lemmas.Bool.{lt-ltb}
use Rattle.std.proofs.lemmas.List.{length-take}
use Rattle.node_memory.specs.Bytes.{fits, with_bytes}
use Rattle.bsp_requests.specs.Message.{Message}
use Rattle.node_core.specs.declared.call.Call.TheVariants.{Move}
use Rattle.node_core.specs.declared.state.Fault.TheVariants.{RangeOutside}
use Rattle.node_core.specs.Hart.{Hart, advanced, goes_on, faults}
use Rattle.node_core.specs.Calls.{MayRefuseCall, HaveNoFault, call_effect, checked, move_checks, move_effect, first_message, moved, a0, a1}

pub move-none : (h : Hart) → first_message h ≡ None → call_effect Move [] h ≡ goes_on (advanced h)
move-none h none = ap (λ (first : Option Message). checked (move_checks first h) h (move_effect first h)) none

-- the message, and the bytes that go to `addr`
pub record IsMove (h : Hart) (m : Message) (addr : ℕ) (bytes : List ℕ) : Type 0 where
  pub first : first_message h ≡ Some m
  pub at : addr ≡ a0 h
  pub bytes_are : bytes ≡ take (moved (a1 h) m) m.payload
  pub count : length bytes ≡ moved (a1 h) m

pub IsMove-read : (h : Hart) (m : Message) (addr most count : ℕ) (payload : List ℕ) → first_message h ≡ Some m → addr ≡ a0 h
    → most ≡ a1 h → payload ≡ m.payload → count ≡ min (length payload) most → IsMove h m addr (take count payload)
IsMove-read h m addr most count payload first at asked is least =
    let len = ap length is in
    let same : count ≡ moved (a1 h) m = omega arith in
    record { first = first; at = at; bytes_are = ap₂ take same is; count = omega (arith, length-take count payload) }

module _ (h : Hart) (m : Message) (addr : ℕ) (bytes : List ℕ) (move : IsMove h m addr bytes) where
  effect : call_effect Move [] h ≡ checked (move_checks (Some m) h) h (move_effect (Some m) h)
  effect = ap (λ (first : Option Message). checked (move_checks first h) h (move_effect first h)) move.first

  fit : (b : Bool) → fits (length h.memory) addr (length bytes) ≡ b → fits (length h.memory) (a0 h) (moved (a1 h) m) ≡ b
  fit b is = rw (← move.at, ← move.count) is

  pub move-outside : fits (length h.memory) addr (length bytes) ≡ false → call_effect Move [] h ≡ faults RangeOutside h
  move-outside out = effect ∙ ap (λ (b : Bool). if b then move_effect (Some m) h else faults RangeOutside h) (fit false out)

  pub move-refuses : fits (length h.memory) addr (length bytes) ≡ true → 0 < length bytes → MayRefuseCall Move [] h
  move-refuses in' some = record {
    may_ask =
        ap (λ (first : Option Message). option_map_or (λ (x : Message). nat_lt 0 (moved (a1 h) x)) first false) move.first
        ∙ lt-ltb 0 (moved (a1 h) m) (rw (← move.count) some);
    no_fault = subst (λ (first : Option Message). HaveNoFault (move_checks first h)) (sym move.first) (fit true in', tt);
  }

  pub move-done : fits (length h.memory) addr (length bytes) ≡ true → (stored : List ℕ) (queue : List Message)
      → stored ≡ with_bytes h.memory addr bytes → queue ≡ drop 1 h.communication.queue
      → call_effect Move [] h ≡ goes_on (advanced (record h { memory = stored; communication = record h.communication { queue = queue } }))
  move-done in' stored queue is rest =
      let stores : with_bytes h.memory (a0 h) (take (moved (a1 h) m) m.payload) ≡ stored = rw (is, move.at, move.bytes_are) refl in
      effect ∙ ap (λ (b : Bool). if b then move_effect (Some m) h else faults RangeOutside h) (fit true in')
      ∙ ap₂ (λ (bytes : List ℕ) (queue : List Message). goes_on
      (advanced (record h { memory = bytes; communication = record h.communication { queue = queue } }))) stores (sym rest)
