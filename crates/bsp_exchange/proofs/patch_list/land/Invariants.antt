-- Landing the patches that are left leads to the same end.
use Rattle.std.proofs.Common.{◌≡◌, drop}
use Rattle.node_core.specs.declared.state.State.TheVariants.{Synced}
use Rattle.bsp_exchange.specs.Parts.{OwnsEach, with_patches}
use Rattle.bsp_exchange.proofs.patch_list.land.Given as goal

abbrev pub invariant-loop-place : goal.invariant-loop-place
invariant-loop-place g l = record {
  synced : l.node.node.state ≡ Synced;
  private : OwnsEach l.node.private (drop l.place (g.P.PatchList.patches l.patches));
  same : record l.node { node = with_patches (drop l.place (g.P.PatchList.patches l.patches)) l.node.node }
      ≡ record l.initial.node { node = with_patches (g.P.PatchList.patches l.patches) l.initial.node.node };
}
