-- The sign of a pattern, and sign injection (RISC-V Unprivileged ISA 20191213, section 11.7 "Single-Precision Floating-Point
-- Conversion and Move Instructions" and section 12.5; IEEE 754-2008, section 5.5.1). They move bits, a NaN's too.
use Rattle.std.specs.Prelude.{ℕ, ◌+◌, ◌%◌, Bool, not, nat_le, if◌then◌else◌}
use lib.Ieee.{Format, top, unlike}

-- whether the sign bit is set, which is the highest one
abbrev pub sign : Format → ℕ → Bool
sign f a = nat_le (top f) a

-- the pattern with its sign bit set or cleared
abbrev pub with_sign : Format → Bool → ℕ → ℕ
with_sign f negative a = (if negative then top f else 0) + a % top f

-- FSGNJ, FSGNJN, FSGNJX: the first pattern with the sign of the second, with the opposite of that sign, with the exclusive or of
-- both signs
abbrev pub sign_injected : Format → ℕ → ℕ → ℕ
sign_injected f a b = with_sign f (sign f b) a

abbrev pub sign_negated : Format → ℕ → ℕ → ℕ
sign_negated f a b = with_sign f (not (sign f b)) a

abbrev pub sign_xored : Format → ℕ → ℕ → ℕ
sign_xored f a b = with_sign f (unlike (sign f a) (sign f b)) a
