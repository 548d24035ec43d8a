-- The pattern of the magnitude, and that of twice the magnitude for tininess, give the result and the flags of the definition.
use Rattle.std.proofs.Common.{refl}
use Rattle.rv_float_modes.specs.Modes.{twice}
use Rattle.rv_float_modes.proofs.Exactly.{twice_encloses}
use Rattle.rv_float_modes.proofs.Roundings.{rounding_is}
use Rattle.rv_float_modes.proofs.rounding.rounded.Goals as goal

pub returns : goal.returns
returns c f r s e =
    let a = c.unbounded-pattern.ensures f r s e in
    let b = c.unbounded.ensures f (twice r) s (twice_encloses r c.args.exact _ e refl) in
    rounding_is c.args.mode c.args.negative f r c.args.shape _ _ _ _ _ _ s a.0 a.1 b.0 (c.bounded.ensures.value f s)
    (c.with_sign.ensures f s) c.rounding_flags.ensures
