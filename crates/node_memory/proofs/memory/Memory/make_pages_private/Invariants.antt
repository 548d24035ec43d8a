-- No byte has changed, and the pages from the range's first up to this one are private.
use Rattle.std.proofs.Common.{◌≡◌, ◌/◌}
use Rattle.node_memory.proofs.Owned.{PrivateUpTo}
use Rattle.node_memory.proofs.memory.Memory.make_pages_private.Given as goal

abbrev pub invariant-loop-page : goal.invariant-loop-page
invariant-loop-page g l = (l.self.bytes ≡ l.fn.self.bytes) × PrivateUpTo l.fn.self.private l.self.private (l.addr / 4096) l.page
