-- The patches before this one lie within the span, which ends in the memory.
use Rattle.std.proofs.Common.{◌≤◌}
use Rattle.bsp_exchange.proofs.Spans.{AreSpannedBelow}
use Rattle.bsp_exchange.proofs.patch_list.span_of.Given as goal

abbrev pub invariant-loop-place : goal.invariant-loop-place
invariant-loop-place g l = record {
  spanned : AreSpannedBelow l.span (g.P.PatchList.patches l.patches) l.place;
  end : l.span.end ≤ l.size;
}
