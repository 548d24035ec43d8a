-- The value is that of the word's number, or the limit where it is more, and 0 for another word.
use Rattle.std.proofs.Common.{◌≡◌, ◌∙◌, ℕ, min, Option, Some, None, unwrap_or, ap, refl, arith}
use Rattle.std.specs.Option.{option_map}
use Rattle.std.proofs.lemmas.Int.{ints}
use Rattle.numerals.specs.Numbers.{number_value}
use Rattle.asm_syntax.specs.declared.number.TheConstants.{LIMIT}
use Rattle.asm_syntax.proofs.operand.magnitude.Goals as goal

limited : (o : Option ℕ) → unwrap_or (option_map (λ n. min n LIMIT) o) 0 ≡ min (unwrap_or o 0) LIMIT
limited None = refl
limited (Some n) = refl

pub returns : goal.returns
returns c =
    let value : c.unwrap_or.result ≡ min (unwrap_or (number_value c.args.word.now) 0) LIMIT =
    c.unwrap_or.ensures ∙ ap (λ o. unwrap_or o 0) c.number_value.ensures ∙ limited (number_value c.args.word.now) in
    rw value (omega (arith, ints))
