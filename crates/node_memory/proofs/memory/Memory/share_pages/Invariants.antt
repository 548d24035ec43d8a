-- No byte has changed, and the pages up to this one are shared.
use Rattle.std.proofs.Common.{◌≡◌}
use Rattle.node_memory.proofs.Owned.{SharedUpTo}
use Rattle.node_memory.proofs.memory.Memory.share_pages.Given as goal

abbrev pub invariant-loop-page : goal.invariant-loop-page
invariant-loop-page g l = (l.self.bytes ≡ l.fn.self.bytes) × SharedUpTo l.fn.self.private l.self.private l.page
