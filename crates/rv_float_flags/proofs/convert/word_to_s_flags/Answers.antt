-- The flags of a word are those of its rounding to a single.
use Rattle.std.proofs.Common.{◌∙◌, ap}
use Rattle.std.proofs.Math.Facts.{to_z-of_z}
use Rattle.std.specs.Prelude.{nat_abs}
use Rattle.rv_float_flags.proofs.Operations.{of_word}
use Rattle.rv_float_flags.proofs.convert.word_to_s_flags.Goals as goal
use lib.Ieee.{binary32, of_int, to_bits}
use lib.IntN.{ℤ}

pub returns : goal.returns
returns c =
    of_word binary32 c.args.word c.unsigned_abs.result _ _ _ (c.unsigned_abs.ensures.value ∙ ap nat_abs (to_z-of_z c.ranges.word))
    (c.of_word.ensures ∙ ap (λ (n : ℤ). to_bits binary32 (of_int binary32 n)) (to_z-of_z c.ranges.word)) c.magnitude_of.ensures
    (λ r. c.sum_rounding.ensures binary32 r c.limit.ensures.limit)
