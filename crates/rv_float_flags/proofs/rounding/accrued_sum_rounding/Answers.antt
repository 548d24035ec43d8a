-- If NX is set and the sum would not be tiny, overflow is all that can add a flag.
use Rattle.std.proofs.Common.{◌≡◌, ◌&&◌, false, sym, ap, ◌∙◌}
use Rattle.rv_float_flags.specs.Exact.{is_inexact, is_tiny}
use Rattle.rv_float_flags.specs.Flags.{accrued}
use Rattle.rv_float_flags.proofs.Roundings.{no_and, overflow, raised_beside}
use Rattle.rv_float_flags.proofs.rounding.accrued_sum_rounding.Goals as goal

pub returns-then-not-is_sum_tiny : goal.returns-then-not-is_sum_tiny
returns-then-not-is_sum_tiny c f r l g h =
    let tiny : is_tiny f r && is_inexact f r ≡ false = sym (c.if-not-is_sum_tiny.ensures f r l g) ∙ no_and (is_inexact f r) in
    c.bitor.ensures ∙ ap (accrued c.args.flags) c.overflow_if.ensures
    ∙ raised_beside c.args.flags _ _ _ _ c.if-flags.true (overflow f r c.args.nearest _ c.is_none.ensures h) tiny
