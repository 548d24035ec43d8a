-- A word is rounded by its size.
use Rattle.std.proofs.Common.{ap, ◌∙◌, refl}
use Rattle.std.proofs.Math.Facts.{to_z-of_z}
use Rattle.std.specs.Prelude.{int_lt, nat_abs, pos}
use Rattle.rv_float_flags.specs.Conversions.{exact_word}
use Rattle.rv_float_modes.specs.Modes.{rounding_in}
use Rattle.rv_float_modes.proofs.Exactly.{whole_number}
use Rattle.rv_float_modes.proofs.convert.word_to_s_in.Goals as goal
use lib.IntN.{ℤ}
use lib.Ieee.{binary32}

pub returns : goal.returns
returns c =
    let r = exact_word c.args.word in
    c.rounded_number.ensures binary32 r c.shape_of.ensures.shape
    (whole_number r (nat_abs c.args.word) _ refl (c.unsigned_abs.ensures.value ∙ ap nat_abs (to_z-of_z c.ranges.word)))
    ∙ ap (λ (n : ℤ). rounding_in c.args.mode (int_lt n (pos 0)) binary32 r) (to_z-of_z c.ranges.word)
