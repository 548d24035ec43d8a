-- The text and the points that are left make all lines; each pass adds the line of the next point.
use Rattle.std.proofs.Common.{refl}
use Rattle.std.proofs.lemmas.List.{drop_all, drop_more}
use Rattle.debug_lines.specs.Shown.{point_line}
use Rattle.debug_lines.proofs.Rows.{none-left, one-more}
use Rattle.debug_lines.proofs.shown.point_lines.Goals as goal

pub loop-point-init : goal.loop-point-init
loop-point-init g c = rw c.new-text.ensures.bytes refl

pub loop-point-preserved : goal.loop-point-preserved
loop-point-preserved g c =
    one-more point_line _ _ _ _ _ _ (drop_more _ _ _ c.loop-point-test.true) (c.in_ok-add_point.ensures {u = tt}) c.loop-point.invariant

pub returns : goal.returns
returns g c = none-left point_line _ _ _ (drop_all _ _ c.loop-point-test.false) c.loop-point.invariant
