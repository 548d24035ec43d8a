-- The node is as it was, and the pages of the patches before this one are private.
use Rattle.std.proofs.Common.{◌≡◌, take}
use Rattle.node_memory.specs.Pages.{KeepsPrivate}
use Rattle.bsp_exchange.specs.Parts.{OwnsEach}
use Rattle.bsp_exchange.proofs.patch_list.prepare.Given as goal

abbrev pub invariant-loop-place : goal.invariant-loop-place
invariant-loop-place g l = record {
  node : l.node.node ≡ l.initial.node.node;
  ready : l.node.ready ≡ l.initial.node.ready;
  private : KeepsPrivate l.initial.node.private l.node.private;
  owned : OwnsEach l.node.private (take l.place (g.P.PatchList.patches l.patches));
}
