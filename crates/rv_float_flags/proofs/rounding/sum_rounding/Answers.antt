-- A sum underflows if it is inexact and tiny, and overflows if no finite magnitude is nearest.
use Rattle.std.proofs.Common.{◌≡◌, ◌&&◌, sym, ◌∙◌}
use Rattle.rv_float_flags.specs.Exact.{is_inexact, is_tiny}
use Rattle.rv_float_flags.proofs.Roundings.{flags, overflow, when_exact, when_inexact}
use Rattle.rv_float_flags.proofs.rounding.sum_rounding.Goals.{then-inexact, else-inexact}
use Rattle.rv_float_flags.proofs.rounding.sum_rounding.Goals as goal

pub returns : goal.returns
returns c f r l g h =
    let x = c.is_sum_inexact-inexact.ensures f r g h in
    let u : c.if-inexact.underflow ≡ is_tiny f r && is_inexact f r =
    elim c.if-inexact.branch [
      | then-inexact w ↦ when_inexact _ _ _ _ w.underflow-is (sym x ∙ w.if-inexact.true) (w.is_sum_tiny-underflow.ensures f r l g)
      | else-inexact w ↦ when_exact _ _ (is_tiny f r) (w.underflow-is ∙ x) (sym x ∙ w.if-inexact.false)
    ]
    in
    flags f r _ _ _ (overflow f r c.args.nearest _ c.is_none.ensures h) u x
