-- What an environment call keeps of a hart.
use Rattle.std.proofs.Common.{◌≡◌, ℕ, ◌+◌, ◌-◌, ◌<◌, ◌≤◌, ◌^◌, Bool, true, false, not, List, [], ◌∷◌, length, take, drop, Option, Some}
use Rattle.std.proofs.Common.{None, refl, ◌∙◌, arith}
use Rattle.std.specs.Prelude.{IsTrue, is_some, unwrap_or, min, if◌then◌else◌}
use Rattle.std.specs.Int.{w32, to_le_bytes}
use Rattle.std.proofs.lemmas.Grind.{common_steps}
use Rattle.std.proofs.lemmas.Bool.Decides.{nat_tests}
use Rattle.node_memory.specs.Bytes.{fits, bytes_at, with_bytes, word_at}
use Rattle.node_memory.proofs.Writes.{length-with_bytes}
use Rattle.bsp_slots.specs.declared.area.Area.{Area}
use Rattle.bsp_slots.specs.Area.{last_position}
use Rattle.bsp_slots.specs.Registrations.{next_list}
use Rattle.bsp_slots.proofs.Positions.{IsLastEntry-from}
use Rattle.bsp_requests.specs.Message.{Message}
use Rattle.bsp_requests.specs.Request.{asks_put, asks_get, asks_send, size_of}
use Rattle.bsp_requests.specs.Inbox.{payload_bytes}
use Rattle.node_core.specs.declared.call.Call.{Call}
use Rattle.node_core.specs.declared.call.Call.TheVariants.{End, Nprocs, Pid, Sync, PushReg, PopReg, Put, Get, Hpput, Hpget, SetTagsize}
use Rattle.node_core.specs.declared.call.Call.TheVariants.{Send, Qsize, GetTag, Move, Abort, Write, Read}
use Rattle.node_core.specs.declared.state.State.{State}
use Rattle.node_core.specs.declared.state.State.TheVariants.{Running, Aborted}
use Rattle.node_core.specs.Communication.{IsWellAddressed, max_tag_size}
use Rattle.node_core.specs.Hart.{Hart, After, with_reg, with_memory, with_nothing_reserved, advanced}
use Rattle.node_core.specs.Calls.{Check, HaveNoFault, checked, checks, performed, call_effect, ecall_effect, a0, a1, a2, a3, a4, put_checks}
use Rattle.node_core.specs.Calls.{get_checks, send_checks, get_tag_checks, move_checks, output_checks, put_effect, get_effect, send_effect}
use Rattle.node_core.specs.Calls.{get_tag_effect, move_effect, output_effect, set_tagsize_effect, qsize_effect, taken, moved, first_message}
use Rattle.node_core.specs.Calls.{place, with_word}
use Rattle.node_memory.proofs.Bytes.{fits-le, length-bytes_at}
use Rattle.node_core.proofs.Harts.{Keeps, Keeps-same, Keeps-then, Keeps-pc, Keeps-cursor, Keeps-reg, Keeps-unreserved, Keeps-memory}
use Rattle.node_core.proofs.Harts.{Keeps-pushed, Keeps-popped, Keeps-requested, Keeps-written, Keeps-taken, Keeps-sized}

-- a choice keeps what both of its sides keep
pub Keeps-if : (h : Hart) (b : Bool) (x y : After) → (IsTrue b → Keeps h x.hart) → Keeps h y.hart → Keeps h (if b then x else y).hart
Keeps-if h true x y if_so else_so = if_so refl
Keeps-if h false x y if_so else_so = else_so

Keeps-checked : (h : Hart) (checks : List Check) (after : After) → (HaveNoFault checks → Keeps h after.hart)
    → Keeps h (checked checks h after).hart
Keeps-checked h [] after keeps = keeps tt
Keeps-checked h (check ∷ rest) after keeps =
    Keeps-if h check.passes (checked rest h after) _ (λ passes. Keeps-checked h rest after (λ more. keeps (passes, more)))
    (Keeps-same h)

-- the same, where the instruction goes on afterwards
pub Keeps-advanced : (h next : Hart) → Keeps h next → Keeps h (advanced next)
Keeps-advanced h next keeps =
    Keeps-then h next (advanced next) keeps
    (Keeps-then next (with_nothing_reserved next) (advanced next) (Keeps-unreserved next) (Keeps-pc (with_nothing_reserved next) _))

length-stored : (m : List ℕ) (addr : ℕ) (bytes : List ℕ) → fits (length m) addr (length bytes) ≡ true
    → length (with_bytes m addr bytes) ≡ length m
length-stored m addr bytes fit = length-with_bytes m addr bytes (fits-le (length m) addr (length bytes) fit)

-- an area that is registered has a place
some_value : (o : Option ℕ) → is_some o ≡ true → o ≡ Some (unwrap_or o 0)
some_value None some = absurd (cc)
some_value (Some n) some = refl

found : (areas : List Area) (addr : ℕ) → is_some (last_position areas addr) ≡ true → last_position areas addr ≡ Some (place areas addr)
found areas addr some = some_value (last_position areas addr) some

not-true : (b : Bool) → IsTrue (not b) → b ≡ false
not-true false holds = refl
not-true true holds = absurd (cc)

module _ (h : Hart) where
  Keeps-put : Keeps h (checked (put_checks h) h (put_effect h)).hart
  Keeps-put = Keeps-checked h (put_checks h) (put_effect h) (λ pass.
      let areas = h.communication.registrations.in_effect in
      let bytes = bytes_at h.memory (a1 h) (a4 h) in
      let slot = (IsLastEntry-from areas (a2 h) (place areas (a2 h)) (found areas (a2 h) pass.1.1.0)).within in
      let target : a0 h < h.nprocs = grind (arith, nat_tests, pass.0) in
      let request = asks_put (record { target = a0 h; slot = place areas (a2 h); offset = a3 h; bytes = bytes }) in
      let met : IsWellAddressed h.nprocs (length areas) (length h.memory) request = (target, slot) in
      Keeps-advanced h _ (Keeps-requested h request (a4 h) (length-bytes_at h.memory (a1 h) (a4 h) pass.1.0) (not-true _ pass.1.1.1.0) met))

  Keeps-get : Keeps h (checked (get_checks h) h (get_effect h)).hart
  Keeps-get = Keeps-checked h (get_checks h) (get_effect h) (λ pass.
      let areas = h.communication.registrations.in_effect in
      let slot = (IsLastEntry-from areas (a1 h) (place areas (a1 h)) (found areas (a1 h) pass.1.1.0)).within in
      let target : a0 h < h.nprocs = grind (arith, nat_tests, pass.0) in
      let request = asks_get (record { target = a0 h; slot = place areas (a1 h); offset = a2 h; dst = a3 h; len = a4 h }) in
      let met : IsWellAddressed h.nprocs (length areas) (length h.memory) request = (target, slot, pass.1.0) in
      Keeps-advanced h _ (Keeps-requested h request (a4 h) refl (not-true _ pass.1.1.1.0) met))

  Keeps-send : Keeps h (checked (send_checks h) h (send_effect h)).hart
  Keeps-send = Keeps-checked h (send_checks h) (send_effect h) (λ pass.
      let tag_size = h.communication.tag_size in
      let target : a0 h < h.nprocs = grind (arith, nat_tests, pass.0) in
      let request =
      asks_send (record { target = a0 h; tag = bytes_at h.memory (a1 h) tag_size; payload = bytes_at h.memory (a2 h) (a3 h) }) in
      let counts : size_of request ≡ tag_size + a3 h =
      omega (arith, length-bytes_at h.memory (a1 h) tag_size pass.1.0, length-bytes_at h.memory (a2 h) (a3 h) pass.1.1.0) in
      Keeps-advanced h _ (Keeps-requested h request (tag_size + a3 h) counts (not-true _ pass.1.1.1.0) target))

  Keeps-set_tagsize : (input : List ℕ) → Keeps h (call_effect SetTagsize input h).hart
  Keeps-set_tagsize input = Keeps-checked h (checks SetTagsize input h) (set_tagsize_effect h) (λ pass.
      let size = word_at h.memory (a0 h) in
      let fits : size ≤ max_tag_size = grind (arith, nat_tests, pass.1.0) in
      let sized = record h { communication = record h.communication { next_tag_size = size } } in
      let len = length-stored h.memory (a0 h) (to_le_bytes w32 h.communication.tag_size) pass.0 in
      Keeps-advanced h _
      (Keeps-then h sized _ (Keeps-sized h size fits) (Keeps-memory sized (with_word h.memory (a0 h) h.communication.tag_size) len)))

  -- two ranges are stored, the second over the first
  length-stored_twice : (addr addr' : ℕ) (bytes bytes' : List ℕ) → fits (length h.memory) addr (length bytes) ≡ true
      → fits (length h.memory) addr' (length bytes') ≡ true
      → length (with_bytes (with_bytes h.memory addr bytes) addr' bytes') ≡ length h.memory
  length-stored_twice addr addr' bytes bytes' fit fit' =
      let len = length-stored h.memory addr bytes fit in
      let still : fits (length (with_bytes h.memory addr bytes)) addr' (length bytes') ≡ true = rw len fit' in
      length-stored (with_bytes h.memory addr bytes) addr' bytes' still ∙ len

  Keeps-qsize : (input : List ℕ) → Keeps h (call_effect Qsize input h).hart
  Keeps-qsize input = Keeps-checked h (checks Qsize input h) (qsize_effect h) (λ pass.
      Keeps-advanced h _ (Keeps-memory h _
      (length-stored_twice (a0 h) (a1 h) (to_le_bytes w32 (min (length h.communication.queue) (2 ^ 32 - 1)))
      (to_le_bytes w32 (min (payload_bytes h.communication.queue) (2 ^ 32 - 1))) pass.0 pass.1.0)))

  Keeps-get_tag : (first : Option Message) → Keeps h (checked (get_tag_checks first h) h (get_tag_effect first h)).hart
  Keeps-get_tag None = Keeps-checked h (get_tag_checks None h) (get_tag_effect None h) (λ pass.
      Keeps-advanced h _ (Keeps-memory h _ (length-stored h.memory (a0 h) (to_le_bytes w32 (2 ^ 32 - 1)) pass.0)))
  Keeps-get_tag (Some m) = Keeps-checked h (get_tag_checks (Some m) h) (get_tag_effect (Some m) h) (λ pass.
      Keeps-advanced h _ (Keeps-memory h _ (length-stored_twice (a0 h) (a1 h) (to_le_bytes w32 (length m.payload)) m.tag pass.0 pass.1.0)))

  Keeps-move : (first : Option Message) → Keeps h (checked (move_checks first h) h (move_effect first h)).hart
  Keeps-move None = Keeps-advanced h h (Keeps-same h)
  Keeps-move (Some m) = Keeps-checked h (move_checks (Some m) h) (move_effect (Some m) h) (λ pass.
      let bytes = take (moved (a1 h) m) m.payload in
      let rest = record h { communication = record h.communication { queue = drop 1 h.communication.queue } } in
      let len : length bytes ≡ moved (a1 h) m = grind (arith, common_steps) in
      let fit : fits (length h.memory) (a0 h) (length bytes) ≡ true = rw len pass.0 in
      Keeps-advanced h _ (Keeps-then h rest _ (Keeps-taken h)
      (Keeps-memory rest (with_bytes h.memory (a0 h) bytes) (length-stored h.memory (a0 h) bytes fit))))

  Keeps-output : (state : State) → Keeps h (checked (output_checks h) h (output_effect state h)).hart
  Keeps-output state = Keeps-checked h (output_checks h) (output_effect state h) (λ pass.
      Keeps-advanced h _
      (Keeps-written h (bytes_at h.memory (a0 h) (a1 h)) (a1 h) (length-bytes_at h.memory (a0 h) (a1 h) pass.0) (not-true _ pass.1.0)))

  Keeps-read : (input : List ℕ) → Keeps h (call_effect Read input h).hart
  Keeps-read input = Keeps-checked h (checks Read input h) (performed Read input h) (λ pass.
      let k = taken input (a1 h) h in
      let bytes = take k (drop h.cursor input) in
      let len : length bytes ≡ k = grind (arith, common_steps) in
      let fit : fits (length h.memory) (a0 h) (length bytes) ≡ true = rw len pass.0 in
      let stored = with_memory (with_bytes h.memory (a0 h) bytes) h in
      let read = record stored { cursor = h.cursor + k } in
      Keeps-advanced h _ (Keeps-then h stored _
      (Keeps-memory h (with_bytes h.memory (a0 h) bytes) (length-stored h.memory (a0 h) bytes fit))
      (Keeps-then stored read _ (Keeps-cursor stored (h.cursor + k)) (Keeps-reg read 10 k))))

  pub Keeps-call : (call : Call) (input : List ℕ) → Keeps h (call_effect call input h).hart
  Keeps-call End input = Keeps-advanced h h (Keeps-same h)
  Keeps-call Nprocs input = Keeps-advanced h (with_reg 10 h.nprocs h) (Keeps-reg h 10 h.nprocs)
  Keeps-call Pid input = Keeps-advanced h (with_reg 10 h.rank h) (Keeps-reg h 10 h.rank)
  Keeps-call Sync input = Keeps-advanced h h (Keeps-same h)
  Keeps-call PushReg input =
      Keeps-checked h (checks PushReg input h) (performed PushReg input h)
      (λ pass. Keeps-advanced h _ (Keeps-pushed h (record { addr = a0 h; size = a1 h }) (not-true _ pass.1.0) pass.0))
  Keeps-call PopReg input =
      Keeps-checked h (checks PopReg input h) (performed PopReg input h)
      (λ pass. Keeps-advanced h _
      (Keeps-popped h (a0 h) (place (next_list h.communication.registrations) (a0 h))
      (found (next_list h.communication.registrations) (a0 h) pass.0)))
  Keeps-call Put input = Keeps-put
  Keeps-call Get input = Keeps-get
  Keeps-call Hpput input = Keeps-put
  Keeps-call Hpget input = Keeps-get
  Keeps-call SetTagsize input = Keeps-set_tagsize input
  Keeps-call Send input = Keeps-send
  Keeps-call Qsize input = Keeps-qsize input
  Keeps-call GetTag input = Keeps-get_tag (first_message h)
  Keeps-call Move input = Keeps-move (first_message h)
  Keeps-call Abort input = Keeps-output Aborted
  Keeps-call Write input = Keeps-output Running
  Keeps-call Read input = Keeps-read input

  pub Keeps-ecall : (call : Option Call) (input : List ℕ) → Keeps h (ecall_effect call input h).hart
  Keeps-ecall None input = Keeps-same h
  Keeps-ecall (Some call) input = Keeps-call call input
