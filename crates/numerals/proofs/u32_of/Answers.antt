-- A number that 64 bits hold, or do not, in 32 bits.
use Rattle.std.proofs.Common.{◌∙◌, ◌^◌, Some, sym, ap}
use Rattle.numerals.specs.Numbers.{number_value}
use Rattle.numerals.proofs.Values.{narrower, narrower_none, below-some, below-none_past}
use Rattle.numerals.proofs.u32_of.Goals as goal

pub returns-in_err-u64_of : goal.returns-in_err-u64_of
returns-in_err-u64_of c =
    c.from_residual.ensures ∙ sym (narrower_none (number_value c.args.word.now) (sym c.u64_of.ensures ∙ c.in_err-u64_of.was {u = tt}))

pub returns-in-Ok : goal.returns-in-Ok
returns-in-Ok c =
    let fits = c.in-Ok.ensures {u = tt} in
    ap Some fits.1
    ∙ sym (narrower (number_value c.args.word.now) c.in_ok-u64_of.field-0 (sym c.u64_of.ensures ∙ c.in_ok-u64_of.was {u = tt})
    ∙ below-some (2 ^ 32) c.in_ok-u64_of.field-0 fits.0)

pub returns-in-Err : goal.returns-in-Err
returns-in-Err c =
    sym (narrower (number_value c.args.word.now) c.in_ok-u64_of.field-0 (sym c.u64_of.ensures ∙ c.in_ok-u64_of.was {u = tt})
    ∙ below-none_past (2 ^ 32) c.in_ok-u64_of.field-0 (c.in-Err.ensures {u = tt}))
