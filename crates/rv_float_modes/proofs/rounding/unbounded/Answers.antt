-- The pattern is the truncated one, or the next one if the mode goes up; it is inexact if there is a rest.
use Rattle.std.proofs.Common.{◌%◌, nat_eq, ◌∙◌}
use Rattle.rv_float_modes.specs.Modes.{goes_up, rest, step, truncated}
use Rattle.rv_float_modes.proofs.Roundings.{goes, stops}
use Rattle.rv_float_modes.proofs.rounding.unbounded.Goals as goal
use Rattle.rv_float_modes.proofs.rounding.unbounded.Goals.{then-goes_up, else-goes_up}

pub returns : goal.returns
returns c f r s e =
    let k = c.cut_off-cut.ensures.cut f r s e in
    let g = goes_up c.args.mode c.args.negative (nat_eq (truncated f r % 2) 1) (rest f r) (step f r) in (
      elim c.if-goes_up.branch [
        | then-goes_up w ↦
            goes c.goes_up.result g c.cut_off-cut.result.pattern (truncated f r) c.if-goes_up.pattern
            (c.goes_up.ensures f r k) w.if-goes_up.true k.pattern w.pattern-is
        | else-goes_up w ↦
            stops c.goes_up.result g c.cut_off-cut.result.pattern (truncated f r) c.if-goes_up.pattern
            (c.goes_up.ensures f r k) w.if-goes_up.false k.pattern w.pattern-is
      ],
      c.is_inexact.ensures ∙ k.inexact,
    )
