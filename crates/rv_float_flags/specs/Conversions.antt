-- The flags of conversions (RISC-V Unprivileged ISA 20191213, sections 11.7 and 12.5; IEEE 754-2008, sections 5.8, 7.1 and 7.6).
use Rattle.std.specs.Prelude.{ℕ, Bool, not, ◌&&◌, ℤ, nat_abs, if◌then◌else◌}
use Rattle.std.specs.Float.{float_is_finite, minus_one, minus_two_to, two_to}
use Rattle.rv_floats.specs.declared.rounding.Rounding.{Rounding}
use Rattle.rv_floats.specs.Conversions.{rounded_whole}
use Rattle.rv_floats.specs.Classes.{is_signaling}
use Rattle.rv_float_flags.specs.declared.flags.Flags.{Flags}
use Rattle.rv_float_flags.specs.Exact.{Ratio, exact_value}
use Rattle.rv_float_flags.specs.Flags.{no_flags, invalid, invalid_if, inexact_if, rounding_flags}
use lib.Ieee.{Float, Format, binary32, binary64, eq, le, lt, of_bits}

-- a whole number is one of a signed word; of an unsigned one
abbrev pub is_signed_word : Float → Bool
is_signed_word x = le (minus_two_to 31) x && lt x (two_to 31)

abbrev pub is_unsigned_word : Float → Bool
is_unsigned_word x = lt minus_one x && lt x (two_to 32)

-- FCVT.W, FCVT.WU: invalid where the rounded value is no such word, as a NaN is none, and else inexact where rounding changed it
abbrev pub word_flags : (Float → Bool) → Rounding → Format → Float → Flags
word_flags is_word mode f x =
    if is_word (rounded_whole mode f x) then inexact_if (not (eq (rounded_whole mode f x) x)) else invalid

-- FCVT.S.W, FCVT.S.WU: the exact value is a whole number. A double has each word.
abbrev pub exact_word : ℤ → Ratio
exact_word n = record { numerator = nat_abs n; denominator = 1 }

-- FCVT.S.D
abbrev pub narrowing_flags : ℕ → Flags
narrowing_flags a =
    if is_signaling binary64 a then invalid else
    if float_is_finite (of_bits binary64 a) then rounding_flags binary32 (exact_value (of_bits binary64 a)) else no_flags

-- FCVT.D.S, which is exact
abbrev pub widening_flags : ℕ → Flags
widening_flags a = invalid_if (is_signaling binary32 a)
