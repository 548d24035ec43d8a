-- A register's signed value is that of the machine's own signed type, and a product of two has the bits of the product
-- without sign. A product of 32 bits by 32 bits fits 64.
use Rattle.std.proofs.Common.{◌≡◌, ℕ, ◌*◌, ◌%◌, ◌^◌, ◌<◌, ◌≤◌, ◌∙◌, ap, sym, pos, negsuc, ℤ, ◌*ℤ◌, arith}
use Rattle.std.specs.Prelude.{FitsSigned, unsigned_abs}
use Rattle.std.specs.Int.{w32, w64, cast_signed, cast_unsigned, int_wrap}
use Rattle.std.proofs.lemmas.Int.{ints, wrapping_mul-bits, of_z-to_z, to_z-of_z, fits_signed_from_abs, fits_signed_mul}
use Rattle.rv_values.specs.Arithmetic.{signed, modulo}

pub signed-is : (a : ℕ) → a < 2 ^ 32 → signed a ≡ cast_signed w32 a
signed-is a fits = grind (arith, ints)

pub modulo-lt : (z : ℤ) → modulo z < 2 ^ 32
modulo-lt (pos n) = omega arith
modulo-lt (negsuc n) = omega arith

pub modulo-mul : (a b : ℕ) → a < 2 ^ 32 → b < 2 ^ 32 → a * b % 2 ^ 32 ≡ modulo (signed a *ℤ signed b)
unfolding int_wrap
modulo-mul a b a_fits b_fits =
    let below : a * b % 2 ^ 32 < 2 ^ 32 = omega arith in
    rw (signed-is a a_fits, signed-is b b_fits)
    (sym (of_z-to_z w32 (a * b % 2 ^ 32) below) ∙ ap (cast_unsigned w32) (wrapping_mul-bits w32 a b a_fits b_fits)
    ∙ of_z-to_z w32 (modulo (cast_signed w32 a *ℤ cast_signed w32 b)) (modulo-lt (cast_signed w32 a *ℤ cast_signed w32 b)))

signed-abs : (a : ℕ) → a < 2 ^ 32 → unsigned_abs (cast_signed w32 a) ≤ 2 ^ 31
signed-abs a fits = grind (arith, ints)

-- `i64::from` of a register's signed value
pub widened-abs : (a : ℕ) (z wide : ℤ) → a < 2 ^ 32 → z ≡ cast_signed w32 a → wide ≡ cast_signed w32 (cast_unsigned w32 z)
    → unsigned_abs wide ≤ 2 ^ 31
widened-abs a z wide fits z_is wide_is = rw (wide_is, z_is, of_z-to_z w32 a fits) (signed-abs a fits)

pub product-fits : (x y : ℤ) → unsigned_abs x ≤ 2 ^ 31 → unsigned_abs y < 2 ^ 32
    → FitsSigned w64 (cast_signed w64 (cast_unsigned w64 x) *ℤ cast_signed w64 (cast_unsigned w64 y))
product-fits x y x_abs y_abs =
    let x_fits = fits_signed_from_abs w64 x (omega arith) in
    let y_fits = fits_signed_from_abs w64 y (omega arith) in
    let below : unsigned_abs y ≤ 4294967295 = omega arith in
    rw (to_z-of_z w64 x x_fits, to_z-of_z w64 y y_fits) (fits_signed_mul w64 x y (2 ^ 31) 4294967295 x_abs below (omega arith))
