-- The pages made so far are shared, and show the bytes of the pages that were passed.
use Rattle.std.proofs.Common.{take}
use Rattle.std.specs.List.{flat_map}
use Rattle.node_memory.specs.Table.{page_bytes, is_private}
use Rattle.node_memory.proofs.Shown.{AllShared}
use Rattle.node_memory.proofs.memory.Memory.share.Given as goal

abbrev pub invariant-loop-page : goal.invariant-loop-page
invariant-loop-page g l = AllShared page_bytes is_private l.pages.items (flat_map page_bytes (take l.page-index l.page-items)) l.page-index
