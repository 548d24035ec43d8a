-- The pages made so far are shared, and show nothing but zeros.
use Rattle.std.proofs.Common.{◌≡◌, ◌*◌, replicate}
use Rattle.node_memory.specs.Table.{page_bytes, is_private}
use Rattle.node_memory.proofs.Shown.{AllShared}
use Rattle.node_memory.proofs.memory.Memory.zeros.Given as goal

abbrev pub invariant-loop : goal.invariant-loop
invariant-loop g l =
    (page_bytes l.zeros ≡ replicate 4096 0) × AllShared page_bytes is_private l.pages.items (replicate (l.counter * 4096) 0) l.counter
