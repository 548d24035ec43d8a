-- Minimum and maximum (RISC-V Unprivileged ISA 20191213, section 11.6 "Single-Precision Floating-Point Computational
-- Instructions" and section 12.4): the minimumNumber and maximumNumber of IEEE 754-201x.
use Rattle.std.specs.Prelude.{Bool, not, ◌&&◌, ◌||◌, is_nan, if◌then◌else◌}
use Rattle.std.specs.Float.{is_sign_negative}
use lib.Ieee.{Float, lt, eq}

-- x is below y, where -0 is below +0
abbrev pub is_before : Float → Float → Bool
is_before x y = lt x y || (eq x y && is_sign_negative x && not (is_sign_negative y))

-- FMIN, FMAX: where one operand is a NaN, the other one; where both are, a NaN
abbrev pub minimum : Float → Float → Float
minimum x y = if is_nan x then y else if is_nan y then x else if is_before y x then y else x

abbrev pub maximum : Float → Float → Float
maximum x y = if is_nan x then y else if is_nan y then x else if is_before x y then y else x
