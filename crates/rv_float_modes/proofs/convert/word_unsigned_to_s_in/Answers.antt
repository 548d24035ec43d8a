-- A word is rounded by its size.
use Rattle.std.proofs.Common.{Bool, ap, sym, ◌∙◌, pos, arith, refl}
use Rattle.std.proofs.lemmas.Bool.{le-ltb}
use Rattle.rv_float_flags.specs.Conversions.{exact_word}
use Rattle.rv_float_modes.specs.Modes.{rounding_in}
use Rattle.rv_float_modes.proofs.Exactly.{whole_number}
use Rattle.rv_float_modes.proofs.convert.word_unsigned_to_s_in.Goals as goal
use lib.Ieee.{binary32}

pub returns : goal.returns
returns c =
    c.rounded_number.ensures binary32 (exact_word (pos c.args.word)) c.shape_of.ensures.shape (whole_number _ _ _ refl refl)
    ∙ ap (λ (z : Bool). rounding_in c.args.mode z binary32 (exact_word (pos c.args.word))) (sym (le-ltb c.args.word 0 (omega arith)))
