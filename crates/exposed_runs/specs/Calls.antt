-- The calls of a superstep, each with the bytes that it reads and writes: from its request, and from what was noted as it was made.
use Rattle.std.specs.Prelude.{ℕ, ◌+◌, List, [], ◌∷◌, length, flat_map, Option, Some, slice_get}
use Rattle.std.specs.Option.{option_map_or}
use Rattle.bsp_requests.specs.Put.{Put}
use Rattle.bsp_requests.specs.Request.{Asked, asks_put, asks_get, asks_send}
use Rattle.bsp_requests.specs.declared.request.Get.{Get}
use Rattle.node_core.specs.declared.call.Call.{Call as MachineCall}
use Rattle.node_core.specs.declared.call.Call.TheVariants.{Hpput, Hpget}
use Rattle.node_core.specs.Calls.{call_of}
use Rattle.node_core.specs.Node.{NodeState}
use Rattle.bsp_exchange.specs.Landings.{area_start}
use Rattle.exposed_bytes.specs.declared.call.Call.{Call}
use Rattle.exposed_bytes.specs.declared.call.Sort.{Sort}
use Rattle.exposed_bytes.specs.declared.call.Sort.TheVariants as sort
use Rattle.exposed_runs.specs.declared.note.Note.{Note}

-- a put by hpput is unbuffered, and so is a get by hpget
abbrev pub put_sort : Option MachineCall → Sort
put_sort (Some Hpput) = sort.HpPut
put_sort _ = sort.Put

abbrev pub get_sort : Option MachineCall → Sort
get_sort (Some Hpget) = sort.HpGet
get_sort _ = sort.Get

-- put(pid, src, dst, offset, n) and hpput: from src on in the memory of the caller, to the area of the target that dst names
abbrev pub put_call : List NodeState → Note → Put → Call
put_call nodes note p = record {
  caller = note.caller;
  number = note.issue;
  sort = put_sort (call_of note.number);
  place = note.pc;
  len = length p.bytes;
  source_rank = note.caller;
  source = note.a1;
  target_rank = p.target;
  target = area_start nodes p.target p.slot + p.offset;
}

-- get(pid, src, offset, dst, n) and hpget: from the area of the target that src names, to dst in the memory of the caller
abbrev pub get_call : List NodeState → Note → Get → Call
get_call nodes note g = record {
  caller = note.caller;
  number = note.issue;
  sort = get_sort (call_of note.number);
  place = note.pc;
  len = g.len;
  source_rank = g.target;
  source = area_start nodes g.target g.slot + g.offset;
  target_rank = note.caller;
  target = g.dst;
}

-- send(pid, tag, payload, n) reads n bytes of payload and as many of tag as a tag has, which is two calls with one number. A message comes
-- into a queue, and so into no memory
abbrev pub send_call : Note → (from len : ℕ) → Call
send_call note from len = record {
  caller = note.caller;
  number = note.issue;
  sort = sort.Send;
  place = note.pc;
  len = len;
  source_rank = note.caller;
  source = from;
  target_rank = 0;
  target = 0;
}

-- the calls of a request of a node
abbrev pub calls_of : List NodeState → NodeState → Note → Asked → List Call
calls_of nodes n note (asks_put p) = put_call nodes note p ∷ []
calls_of nodes n note (asks_get g) = get_call nodes note g ∷ []
calls_of nodes n note (asks_send m) =
    send_call note note.a1 n.hart.communication.tag_size ∷ send_call note note.a2 note.a3 ∷ []

-- those of the request that a note is of
abbrev pub calls_of_node : List NodeState → Note → NodeState → List Call
calls_of_node nodes note n = option_map_or (calls_of nodes n note) (slice_get n.hart.communication.requests.requests note.issue) []

abbrev pub calls_noted : List NodeState → Note → List Call
calls_noted nodes note = option_map_or (calls_of_node nodes note) (slice_get nodes note.caller) []

-- those of all notes
abbrev pub calls : List NodeState → List Note → List Call
calls nodes notes = flat_map (calls_noted nodes) notes
