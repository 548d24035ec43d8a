-- A finite double is rounded by its magnitude.
use Rattle.std.proofs.Common.{◌∙◌, Bool, ap, refl}
use Rattle.rv_float_flags.specs.Exact.{exact_value}
use Rattle.rv_float_flags.proofs.Fractions.{raised_amount, value_fraction}
use Rattle.rv_float_modes.specs.Modes.{rounding_in}
use Rattle.rv_float_modes.proofs.Exactly.{number_of_fraction}
use Rattle.rv_float_modes.proofs.Roundings.{of_one}
use Rattle.rv_float_modes.proofs.convert.d_to_s_in.Goals as goal
use lib.Ieee.{binary32, binary64, of_bits}

pub returns-in-Some : goal.returns-in-Some
returns-in-Some c =
    let x = of_bits binary64 c.args.a in
    let r = exact_value x in
    let q = c.raised-p.result in
    of_one _ _ _ _ _ c.in-Some.ensures.finite
    (c.rounded_number.ensures binary32 r c.shape_of.ensures.shape
    (number_of_fraction r _ q.digits q.place
    (value_fraction binary64 x c.in-Some.p _ c.in-Some.ensures (raised_amount c.in-Some.p q c.raised-p.ensures)) refl)
    ∙ ap (λ (z : Bool). rounding_in c.args.mode z binary32 r) c.is_negative.ensures)
