-- The digits read so far have a value of 64 bits, and the digits that are left carry it on to the value of all.
use Rattle.std.proofs.Common.{◌≡◌, ◌<◌, ◌^◌, drop}
use Rattle.std.specs.Str.Parse.{digits_value, digits_value_after}
use Rattle.numerals.proofs.digits_value.Given as goal

abbrev pub invariant-loop-digit : goal.invariant-loop-digit
invariant-loop-digit l =
    (l.value < 2 ^ 64) × (digits_value_after l.radix l.value (drop l.digit-index l.digits) ≡ digits_value l.radix l.digits)
