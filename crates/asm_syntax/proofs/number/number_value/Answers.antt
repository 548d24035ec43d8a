-- A number that 64 bits do not hold is above the limit, so the limit stands for it.
use Rattle.std.proofs.Common.{◌≡◌, ◌^◌, ℕ, true, min, Option, Some, None, unwrap_or, arith, rules}
use Rattle.std.specs.Prelude.{is_some}
use Rattle.std.specs.Option.{option_and_then, option_map}
use Rattle.std.proofs.lemmas.Grind.{common_steps}
use Rattle.numerals.specs.Numbers.{below, number_value}
use Rattle.asm_syntax.specs.declared.number.TheConstants.{LIMIT}
use Rattle.asm_syntax.proofs.number.number_value.Goals as goal

-- a number that 64 bits do not hold is above the limit
limited : (o : Option ℕ) → is_some o ≡ true → Some (min (unwrap_or (option_and_then (below (2 ^ 64)) o) LIMIT) LIMIT)
    ≡ option_map (λ n. min n LIMIT) o
limited None some = cc
limited (Some n) some = grind (arith, common_steps)

pub returns : goal.returns
returns c = rw (c.min.ensures, c.unwrap_or.ensures, c.u64_of.ensures) (limited (number_value c.args.word.now) (search rules))
