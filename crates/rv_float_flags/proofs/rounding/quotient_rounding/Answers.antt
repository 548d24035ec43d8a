-- A quotient underflows if it is inexact and below the limit, and overflows if no finite magnitude is nearest.
use Rattle.std.proofs.Common.{Bool, ◌≡◌, ◌*◌, ◌+◌, ◌^◌, ◌&&◌, ap, sym, ◌∙◌}
use Rattle.rv_float_flags.specs.Exact.{is_inexact, is_tiny}
use Rattle.rv_float_flags.specs.Scaled.{amount}
use Rattle.rv_float_flags.proofs.Roundings.{flags, overflow, underflow, when_exact, when_inexact}
use Rattle.rv_float_flags.proofs.rounding.quotient_rounding.Goals.{then-inexact, else-inexact}
use Rattle.rv_float_flags.proofs.rounding.quotient_rounding.Goals as goal

pub returns : goal.returns
returns c f r l g h =
    let x = c.is_quotient_inexact-inexact.ensures f r g h in
    let t = underflow f r c.args.limit (c.args.x.digits * 2 ^ (c.args.x.place + 2148)) (amount c.args.y) l g in
    let u : c.if-inexact.underflow ≡ is_tiny f r && is_inexact f r =
    elim c.if-inexact.branch [
      | then-inexact w ↦
          when_inexact _ _ (is_inexact f r) _ w.underflow-is (sym x ∙ w.if-inexact.true)
          (ap (λ (b : Bool). is_inexact f r && b) w.is_quotient_below-underflow.ensures ∙ sym t)
      | else-inexact w ↦ when_exact _ _ (is_tiny f r) (w.underflow-is ∙ x) (sym x ∙ w.if-inexact.false)
    ]
    in
    flags f r _ _ _ (overflow f r c.args.nearest _ c.is_none.ensures h) u x
