-- The range is zeros up to the page, shared pages are zeros still, and there are as many pages as before.
use Rattle.std.proofs.Common.{◌≡◌, length, replicate}
use Rattle.node_memory.specs.Bytes.{with_bytes}
use Rattle.node_memory.specs.Pages.{SharesZeros}
use Rattle.node_memory.proofs.Zeros.{below_page}
use Rattle.node_memory.proofs.memory.Memory.clear.Given as goal

abbrev pub invariant-loop-page : goal.invariant-loop-page
invariant-loop-page g l =
    (l.self.bytes ≡ with_bytes l.fn.self.bytes l.addr (replicate (below_page l.addr l.len l.page) 0))
    × SharesZeros l.self
    × (length l.self.private ≡ length l.fn.self.private)
