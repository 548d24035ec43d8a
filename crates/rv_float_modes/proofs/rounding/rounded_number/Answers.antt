-- The number 0 is rounded to a zero without flags, and any other as the magnitude by `exactly`.
use Rattle.rv_float_modes.proofs.Exactly.{encloses}
use Rattle.rv_float_modes.proofs.Roundings.{zero_rounding}
use Rattle.rv_float_modes.proofs.rounding.rounded_number.Goals as goal

pub returns-then-digits-eq0 : goal.returns-then-digits-eq0
returns-then-digits-eq0 c f r s h =
    zero_rounding c.args.mode c.args.negative f r c.args.digits c.args.place _ _ h c.if-digits-eq0.true
    (c.with_sign.ensures f s) c.none.ensures

pub returns-else-digits-eq0 : goal.returns-else-digits-eq0
returns-else-digits-eq0 c f r s h =
    c.rounded.ensures f r s (encloses r c.args.digits c.args.place c.exactly.result h c.exactly.ensures.value c.exactly.ensures.whole)
