-- The flags of a word are those of its rounding to a single.
use Rattle.std.proofs.Common.{refl}
use Rattle.rv_float_flags.proofs.Operations.{of_word}
use Rattle.rv_float_flags.proofs.convert.word_unsigned_to_s_flags.Goals as goal
use lib.IntN.{pos}
use lib.Ieee.{binary32}

pub returns : goal.returns
returns c =
    of_word binary32 (pos c.args.word) c.args.word _ _ _ refl c.of_unsigned_word.ensures c.magnitude_of.ensures
    (λ r. c.sum_rounding.ensures binary32 r c.limit.ensures.limit)
