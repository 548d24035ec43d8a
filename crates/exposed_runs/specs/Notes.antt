-- Which calls make the requests of a superstep. A request says what is to be moved, but not whether the call is unbuffered, nor where a put
-- and a message read. The registers say so as the call is made (`Calls` of node_core: the number stands in a7, the operands from a0 on).
use Rattle.std.specs.Prelude.{ℕ, zero, suc, ◌-◌, nat_lt, List, [], ◌∷◌, ◌++◌, length, flat_map, if◌then◌else◌}
use Rattle.node_core.specs.Calls.{a1, a2, a3}
use Rattle.node_core.specs.Hart.{reg}
use Rattle.node_core.specs.Node.{NodeState, local_step}
use Rattle.machine_core.specs.Machine.{MachineState}
use Rattle.exposed_runs.specs.declared.note.Note.{Note}

-- how many requests a node has made in the superstep
abbrev pub count : NodeState → ℕ
count n = length n.hart.communication.requests.requests

-- the note of the next request of a node: whose it is, its number, the number of the call, operands, and where the call is made
abbrev pub note_of : NodeState → Note
note_of n = record {
  caller = n.hart.rank;
  issue = count n;
  number = reg n.hart 17;
  a1 = a1 n.hart;
  a2 = a2 n.hart;
  a3 = a3 n.hart;
  pc = n.hart.pc;
}

-- what is noted of a step, from the node before it and the node after it: it made a request, or it did not. A call makes one at most
abbrev pub noted : (before after : NodeState) → List Note
noted before after = if nat_lt (count before) (count after) then note_of before ∷ [] else []

-- what is noted of the next k steps of a node. One that does not run stays as it is, and makes no request
unfoldable pub next_notes : List ℕ → ℕ → NodeState → List Note
next_notes input zero n = []
next_notes input (suc k) n = noted n (local_step input n) ++ next_notes input k (local_step input n)

-- of its local part of the superstep, in which it steps until it does not run. It has no more ticks left than these
abbrev pub notes_of : List ℕ → NodeState → List Note
notes_of input n = next_notes input (n.limit - n.ticks) n

-- of the local parts of all nodes of a machine, from where they stand
unfoldable pub all_notes : MachineState → List Note
all_notes m = flat_map (notes_of m.input) m.nodes
