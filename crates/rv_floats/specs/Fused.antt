-- The fused multiply-adds (RISC-V Unprivileged ISA 20191213, section 11.6; IEEE 754-2008, section 5.4.1): the exact product and the
-- addend are added, and the sum is rounded once.
use Rattle.std.specs.Float.{float_mul_add}
use lib.Ieee.{Float, Format, neg}

-- FMADD: x * y + z
abbrev pub multiply_add : Format → Float → Float → Float → Float
multiply_add f x y z = float_mul_add f x y z

-- FMSUB: x * y - z
abbrev pub multiply_subtract : Format → Float → Float → Float → Float
multiply_subtract f x y z = float_mul_add f x y (neg z)

-- FNMSUB: -(x * y) + z
abbrev pub negated_multiply_subtract : Format → Float → Float → Float → Float
negated_multiply_subtract f x y z = float_mul_add f (neg x) y z

-- FNMADD: -(x * y) - z
abbrev pub negated_multiply_add : Format → Float → Float → Float → Float
negated_multiply_add f x y z = float_mul_add f (neg x) y (neg z)
