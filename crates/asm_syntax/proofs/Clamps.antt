-- Numbers up to a limit.
use Rattle.std.proofs.Common.{◌≡◌, ℕ, zero, suc, ◌<◌, min, pos, neg_ℤ, arith, refl}
use Rattle.std.proofs.Math.Nat.{zero-min}
use native.Mathlib.Numerals.{unary_clauses}
use Rattle.asm_syntax.specs.Limits.{clamped}

pub clamped-neg : (m n : ℕ) → 0 < m → clamped m (neg_ℤ (pos n)) ≡ neg_ℤ (pos (min n m))
clamped-neg zero n h = absurd (omega arith)
clamped-neg (suc m) zero h = rw (zero-min (suc m)) refl
clamped-neg (suc m) (suc n) h = simp unary_clauses

pub ruleset clamps = (clamped-neg)
