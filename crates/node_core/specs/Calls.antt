-- The environment calls: what an ECALL does. A table has a row for each call (`row`): its number, its checks in their order, what it does
-- where they all pass, and whether it may ask for memory. The number stands in a7 (x17), and operands from a0 (x10) on, in the order in
-- which the row's comment names them. The clock's call has no row: a node that has a clock answers it (Clock.antt).
-- Calls are after BSPlib's functions of their names (Hill and others 1998). Own rules: `write` and `read`; numbers, checks
-- and limits; that `hpput` and `hpget` are `put` and `get`, and copy their bytes at the call; that `abort` stops its own node
-- alone; that pc goes on at `end`, `sync` and `abort` too; that of two stores of one call that overlap the later named lands
-- over the earlier.
use Rattle.std.specs.Prelude.{◌≡◌, ℕ, ◌+◌, ◌-◌, ◌^◌, ◌==◌, Bool, true, false, not, List, [], ◌∷◌, length, min, nat_lt, nat_le, take, drop}
use Rattle.std.specs.Prelude.{find, IsTrue, slice_get, Option, Some, None, is_some, unwrap_or, if◌then◌else◌}
use Rattle.std.specs.Int.{w32, to_le_bytes}
use Rattle.std.specs.Option.{option_map_or}
use Rattle.node_memory.specs.Bytes.{fits, bytes_at, with_bytes, word_at}
use Rattle.bsp_slots.specs.declared.area.Area.{Area}
use Rattle.bsp_slots.specs.Area.{last_position}
use Rattle.bsp_slots.specs.Registrations.{next_list, is_full, pushed, popped}
use Rattle.bsp_requests.specs.Inbox.{payload_bytes}
use Rattle.bsp_requests.specs.Message.{Message}
use Rattle.bsp_requests.specs.Request.{Asked, asks_put, asks_get, asks_send}
use Rattle.bsp_requests.specs.Requests.{with_request, with_output, are_too_many, is_full_for}
use Rattle.node_core.specs.declared.call.Call.{Call}
use Rattle.node_core.specs.declared.call.Call.TheVariants.{End, Nprocs, Pid, Sync, PushReg, PopReg, Put, Get, Hpput, Hpget, SetTagsize}
use Rattle.node_core.specs.declared.call.Call.TheVariants.{Send, Qsize, GetTag, Move, Abort, Write, Read}
use Rattle.node_core.specs.declared.state.State.{State}
use Rattle.node_core.specs.declared.state.State.TheVariants.{Running, Synced, Ended, Aborted}
use Rattle.node_core.specs.declared.state.Fault.{Fault}
use Rattle.node_core.specs.declared.state.Fault.TheVariants.{UnknownCall, BadRank, RangeOutside, NotRegistered, TooMuch, BadSize}
use Rattle.node_core.specs.Communication.{max_tag_size}
use Rattle.node_core.specs.Hart.{Hart, After, reg, with_reg, with_memory, with_registrations, with_requests, advanced, goes_on, faults}

abbrev pub a0 : Hart → ℕ
a0 h = reg h 10

abbrev pub a1 : Hart → ℕ
a1 h = reg h 11

abbrev pub a2 : Hart → ℕ
a2 h = reg h 12

abbrev pub a3 : Hart → ℕ
a3 h = reg h 13

abbrev pub a4 : Hart → ℕ
a4 h = reg h 14

-- a test of a call, and the fault of the call where it does not pass
pub record Check : Type 0 where
  pub passes : Bool
  pub fault : Fault

-- none of the checks has a fault
abbrev pub HaveNoFault : List Check → Type 0
HaveNoFault [] = Unit {0}
HaveNoFault (check ∷ rest) = IsTrue check.passes × HaveNoFault rest

-- the fault of the first check that does not pass, or else the effect
abbrev pub checked : List Check → Hart → After → After
checked [] h effect = effect
checked (check ∷ rest) h effect = if check.passes then checked rest h effect else faults check.fault h

-- n bytes from `addr` on lie in the memory
abbrev pub range : ℕ → ℕ → Hart → Check
range addr n h = record { passes = fits (length h.memory) addr n; fault = RangeOutside }

-- a node has this rank
abbrev pub ranked : ℕ → Hart → Check
ranked pid h = record { passes = nat_lt pid h.nprocs; fault = BadRank }

-- an area of this address stands in a list of registered ones
abbrev pub registered : ℕ → List Area → Check
registered addr areas = record { passes = is_some (last_position areas addr); fault = NotRegistered }

-- one push more, a request of n bytes, or n bytes of output keep to the limits of a superstep
abbrev pub room_for_push : Hart → Check
room_for_push h = record { passes = not (is_full h.communication.registrations); fault = TooMuch }

abbrev pub room_for_request : ℕ → Hart → Check
room_for_request n h = record { passes = not (is_full_for h.communication.requests n); fault = TooMuch }

abbrev pub room_for_output : ℕ → Hart → Check
room_for_output n h = record { passes = not (are_too_many h.communication.requests n); fault = TooMuch }

-- a number of bytes may be a tag's size
abbrev pub tag_sized : ℕ → Check
tag_sized n = record { passes = nat_le n max_tag_size; fault = BadSize }

-- the first message of the queue
abbrev pub first_message : Hart → Option Message
first_message h = slice_get h.communication.queue 0

-- how many bytes of a message a move of n takes: at most those of its payload
abbrev pub moved : ℕ → Message → ℕ
moved n m = min n (length m.payload)

-- how many bytes a read of n takes: at most those of the input from the cursor on
abbrev pub taken : List ℕ → ℕ → Hart → ℕ
taken input n h = min n (length input - h.cursor)

-- put(pid, src, dst, offset, n)
abbrev pub put_checks : Hart → List Check
put_checks h =
    ranked (a0 h) h ∷ range (a1 h) (a4 h) h
    ∷ registered (a2 h) h.communication.registrations.in_effect ∷ room_for_request (a4 h) h ∷ []

-- get(pid, src, offset, dst, n)
abbrev pub get_checks : Hart → List Check
get_checks h =
    ranked (a0 h) h ∷ range (a3 h) (a4 h) h
    ∷ registered (a1 h) h.communication.registrations.in_effect ∷ room_for_request (a4 h) h ∷ []

-- send(pid, tag, payload, n)
abbrev pub send_checks : Hart → List Check
send_checks h =
    ranked (a0 h) h ∷ range (a1 h) h.communication.tag_size h ∷ range (a2 h) (a3 h) h
    ∷ room_for_request (h.communication.tag_size + a3 h) h ∷ []

-- get_tag(status, tag), with the first message, if there is one
abbrev pub get_tag_checks : Option Message → Hart → List Check
get_tag_checks None h = range (a0 h) 4 h ∷ []
get_tag_checks (Some m) h = range (a0 h) 4 h ∷ range (a1 h) (length m.tag) h ∷ []

-- move(addr, n), likewise
abbrev pub move_checks : Option Message → Hart → List Check
move_checks None h = []
move_checks (Some m) h = range (a0 h) (moved (a1 h) m) h ∷ []

-- abort(addr, n), write(addr, n)
abbrev pub output_checks : Hart → List Check
output_checks h = range (a0 h) (a1 h) h ∷ room_for_output (a1 h) h ∷ []

-- a call that answers a value in a0
abbrev pub answers : ℕ → Hart → After
answers value h = goes_on (advanced (with_reg 10 value h))

-- the place of the area that an address names: that of the last one registered with it (0 where none is, which a check
-- keeps out)
abbrev pub place : List Area → ℕ → ℕ
place areas addr = unwrap_or (last_position areas addr) 0

-- the area of `size` bytes at `addr` is registered from the next superstep on
abbrev pub push_effect : Hart → After
push_effect h = goes_on (advanced (with_registrations (pushed h.communication.registrations (record { addr = a0 h; size = a1 h })) h))

-- the last registration of `addr` in the next list goes
abbrev pub pop_effect : Hart → After
pop_effect h =
    let r = h.communication.registrations in
    goes_on (advanced (with_registrations (popped r (a0 h) (place (next_list r) (a0 h))) h))

-- a call that makes a request, issued after those before it
abbrev pub issues : Asked → Hart → After
issues request h = goes_on (advanced (with_requests (with_request h.communication.requests request) h))

-- a put of the n bytes at `src`, as they are at the call, to the rank's area that `dst` names
abbrev pub put_effect : Hart → After
put_effect h =
    issues (asks_put (record {
      target = a0 h;
      slot = place h.communication.registrations.in_effect (a2 h);
      offset = a3 h;
      bytes = bytes_at h.memory (a1 h) (a4 h);
    })) h

-- a get of n bytes of the rank's area that `src` names, to `dst`
abbrev pub get_effect : Hart → After
get_effect h =
    issues (asks_get (record {
      target = a0 h;
      slot = place h.communication.registrations.in_effect (a1 h);
      offset = a2 h;
      dst = a3 h;
      len = a4 h;
    })) h

-- a message of the tag and the n bytes of payload, as they are at the call
abbrev pub send_effect : Hart → After
send_effect h =
    issues (asks_send (record {
      target = a0 h;
      tag = bytes_at h.memory (a1 h) h.communication.tag_size;
      payload = bytes_at h.memory (a2 h) (a3 h);
    })) h

-- a memory with a word at `addr`
abbrev pub with_word : List ℕ → ℕ → ℕ → List ℕ
with_word m addr word = with_bytes m addr (to_le_bytes w32 word)

-- the word at `addr` is the next tag size, so that the last call of a superstep counts; the size in effect takes its place,
-- at a second call too (own rule)
abbrev pub set_tagsize_effect : Hart → After
set_tagsize_effect h = goes_on (advanced (record h {
  memory = with_word h.memory (a0 h) h.communication.tag_size;
  communication = record h.communication { next_tag_size = word_at h.memory (a0 h) };
}))

-- the number of messages in the queue, and then, over it, the sum of their payloads' lengths; 2 ^ 32 - 1 for each of them that is
-- greater (own rule)
abbrev pub qsize_effect : Hart → After
qsize_effect h =
    let packets = with_word h.memory (a0 h) (min (length h.communication.queue) (2 ^ 32 - 1)) in
    goes_on (advanced (with_memory (with_word packets (a1 h) (min (payload_bytes h.communication.queue) (2 ^ 32 - 1))) h))

-- the length of the first message's payload, and then, over it, its tag; all ones where the queue is empty
abbrev pub get_tag_effect : Option Message → Hart → After
get_tag_effect None h = goes_on (advanced (with_memory (with_word h.memory (a0 h) (2 ^ 32 - 1)) h))
get_tag_effect (Some m) h = goes_on (advanced (with_memory (with_bytes (with_word h.memory (a0 h) (length m.payload)) (a1 h) m.tag) h))

-- the first k bytes of the first message's payload, and the message leaves the queue
abbrev pub move_effect : Option Message → Hart → After
move_effect None h = goes_on (advanced h)
move_effect (Some m) h = goes_on (advanced (record h {
  memory = with_bytes h.memory (a0 h) (take (moved (a1 h) m) m.payload);
  communication = record h.communication { queue = drop 1 h.communication.queue };
}))

-- n bytes from `addr` on go to the end of the output, and the node is in `state` then
abbrev pub output_effect : State → Hart → After
output_effect state h = record {
  hart = advanced (with_requests (with_output h.communication.requests (bytes_at h.memory (a0 h) (a1 h))) h);
  state = state;
}

-- the next k bytes of the input go to `addr`, and k is the call's answer
abbrev pub read_effect : List ℕ → ℕ → Hart → After
read_effect input k h =
    answers k (record h { memory = with_bytes h.memory (a0 h) (take k (drop h.cursor input)); cursor = h.cursor + k })

-- a call: its number, its checks in their order, what it does where they all pass, and whether it may ask for memory: to note a push, a
-- pop or a request; for the bytes that it copies, also where these are none; or for copies of the pages into which it stores some
pub record CallRow : Type 0 where
  pub number : ℕ
  pub checks : List ℕ → Hart → List Check
  pub effect : List ℕ → Hart → After
  pub may_ask : List ℕ → Hart → Bool

-- the row of a call that tests nothing and asks for nothing
abbrev pub plain_row : ℕ → (Hart → After) → CallRow
plain_row number effect = record { number = number; checks = λ input h. []; effect = λ input h. effect h; may_ask = λ input h. false }

-- that of one that may ask for memory, whatever its operands are
abbrev pub asking_row : ℕ → (Hart → List Check) → (Hart → After) → CallRow
asking_row number checks effect =
    record { number = number; checks = λ input h. checks h; effect = λ input h. effect h; may_ask = λ input h. true }

abbrev pub row : Call → CallRow
-- end()
row End = plain_row 1 (λ h. record { hart = advanced h; state = Ended })
-- nprocs()
row Nprocs = plain_row 2 (λ h. answers h.nprocs h)
-- pid()
row Pid = plain_row 3 (λ h. answers h.rank h)
-- sync()
row Sync = plain_row 4 (λ h. record { hart = advanced h; state = Synced })
-- push_reg(addr, size)
row PushReg = asking_row 5 (λ h. range (a0 h) (a1 h) h ∷ room_for_push h ∷ []) push_effect
-- pop_reg(addr)
row PopReg = asking_row 6 (λ h. registered (a0 h) (next_list h.communication.registrations) ∷ []) pop_effect
-- put(pid, src, dst, offset, n)
row Put = asking_row 7 put_checks put_effect
-- get(pid, src, offset, dst, n)
row Get = asking_row 8 get_checks get_effect
-- hpput(pid, src, dst, offset, n)
row Hpput = asking_row 9 put_checks put_effect
-- hpget(pid, src, offset, dst, n)
row Hpget = asking_row 10 get_checks get_effect
-- set_tagsize(addr)
row SetTagsize = asking_row 11 (λ h. range (a0 h) 4 h ∷ tag_sized (word_at h.memory (a0 h)) ∷ []) set_tagsize_effect
-- send(pid, tag, payload, n)
row Send = asking_row 12 send_checks send_effect
-- qsize(packets, bytes)
row Qsize = asking_row 13 (λ h. range (a0 h) 4 h ∷ range (a1 h) 4 h ∷ []) qsize_effect
-- get_tag(status, tag)
row GetTag = asking_row 14 (λ h. get_tag_checks (first_message h) h) (λ h. get_tag_effect (first_message h) h)
-- move(addr, n)
row Move = record {
  number = 15;
  checks = λ input h. move_checks (first_message h) h;
  effect = λ input h. move_effect (first_message h) h;
  may_ask = λ input h. option_map_or (λ m. nat_lt 0 (moved (a1 h) m)) (first_message h) false;
}
-- abort(addr, n)
row Abort = asking_row 16 output_checks (output_effect Aborted)
-- write(addr, n)
row Write = asking_row 17 output_checks (output_effect Running)
-- read(addr, n)
row Read = record {
  number = 18;
  checks = λ input h. range (a0 h) (taken input (a1 h) h) h ∷ [];
  effect = λ input h. read_effect input (taken input (a1 h) h) h;
  may_ask = λ input h. nat_lt 0 (taken input (a1 h) h);
}

-- all calls
abbrev pub all_calls : List Call
all_calls =
    End ∷ Nprocs ∷ Pid ∷ Sync ∷ PushReg ∷ PopReg ∷ Put ∷ Get ∷ Hpput ∷ Hpget
    ∷ SetTagsize ∷ Send ∷ Qsize ∷ GetTag ∷ Move ∷ Abort ∷ Write ∷ Read ∷ []

-- the call of a number
abbrev pub call_of : ℕ → Option Call
call_of n = find (λ call. (row call).number == n) all_calls

-- the call that an ECALL makes
abbrev pub named_call : Hart → Option Call
named_call h = call_of (reg h 17)

abbrev pub checks : Call → List ℕ → Hart → List Check
checks call = (row call).checks

-- what a call does where its checks pass
abbrev pub performed : Call → List ℕ → Hart → After
performed call = (row call).effect

-- the effect of a call
abbrev pub call_effect : Call → List ℕ → Hart → After
call_effect call input h = checked (checks call input h) h (performed call input h)

-- the effect of an ECALL
abbrev pub ecall_effect : Option Call → List ℕ → Hart → After
ecall_effect None input h = faults UnknownCall h
ecall_effect (Some call) input h = call_effect call input h

-- a call that may be refused memory: it may ask for some, and has no fault
pub record MayRefuseCall (call : Call) (input : List ℕ) (h : Hart) : Type 0 where
  pub may_ask : (row call).may_ask input h ≡ true
  pub no_fault : HaveNoFault (checks call input h)

-- likewise an ECALL
abbrev pub MayRefuseEcall : Option Call → List ℕ → Hart → Type 0
MayRefuseEcall None input h = ⊥
MayRefuseEcall (Some call) input h = MayRefuseCall call input h
