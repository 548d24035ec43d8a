-- What was appended is the range's first `done` bytes, and there is room for those that are left.
use Rattle.std.proofs.Common.{◌≡◌, ◌+◌, ◌-◌, ◌≤◌, ◌++◌, vec_len, vec_capacity}
use Rattle.node_memory.specs.Bytes.{bytes_at}
use Rattle.node_memory.proofs.memory.Memory.append_pages.Given as goal

abbrev pub invariant-loop-done : goal.invariant-loop-done
invariant-loop-done g l =
    (l.bytes.items ≡ l.fn.bytes.items ++ bytes_at l.self.bytes l.addr l.done) × (l.done ≤ l.len)
    × (vec_len l.bytes + (l.len - l.done) ≤ vec_capacity l.bytes)

abbrev pub decreases-loop-done : goal.decreases-loop-done
decreases-loop-done g l = l.len - l.done
