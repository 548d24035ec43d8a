-- The pages from the range's first up to this one are private.
use Rattle.std.proofs.Common.{◌/◌}
use Rattle.node_memory.proofs.Owned.{PrivateUpTo}
use Rattle.node_memory.proofs.memory.Memory.owns.Given as goal

abbrev pub invariant-loop-page : goal.invariant-loop-page
invariant-loop-page g l = PrivateUpTo l.self.private l.self.private (l.addr / 4096) l.page
