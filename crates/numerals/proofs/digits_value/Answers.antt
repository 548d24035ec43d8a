-- Where some first digits are too much for 64 bits, all of them are; and where none is left, the value is that of all.
use Rattle.std.proofs.Common.{◌≡◌, ◌∙◌, drop, sym, ap, None, ◌^◌}
use Rattle.std.proofs.lemmas.List.{drop_all}
use Rattle.std.specs.Str.Parse.{digits_value, digits_value_after}
use Rattle.numerals.specs.Numbers.{below}
use Rattle.numerals.proofs.Values.{too_much, below-some}
use Rattle.numerals.proofs.digits_value.Goals as goal

-- the digits so far are too much
pub returns-in_err-value : goal.returns-in_err-value
returns-in_err-value c =
    let radix = c.args.radix in
    let rest = drop c.loop-digit.digit-index c.args.digits.now in
    let none : c.with_digit.result ≡ None = c.in_err-value.was in
    let all : below (2 ^ 64) (digits_value_after radix c.loop-digit.value rest) ≡ None =
    too_much radix c.loop-digit.value c.loop-digit.digit-index (2 ^ 64) c.args.digits.now c.requires c.loop-digit-test.true
    (rw (sym c.digit_value.ensures) (sym c.with_digit.ensures ∙ none)) in
    c.from_residual.ensures ∙ sym (ap (below (2 ^ 64)) (sym c.loop-digit.invariant.1) ∙ all)

-- no digit is left
pub returns : goal.returns
returns c =
    let none_left = drop_all c.loop-digit.digit-index c.args.digits.now c.loop-digit-test.false in
    let value : c.loop-digit.value ≡ digits_value c.args.radix c.args.digits.now =
    sym (ap (digits_value_after c.args.radix c.loop-digit.value) none_left) ∙ c.loop-digit.invariant.1 in
    sym (ap (below (2 ^ 64)) (sym value) ∙ below-some (2 ^ 64) c.loop-digit.value c.loop-digit.invariant.0)
