-- The value of a word below zero is that of its size, with a minus.
use Rattle.std.proofs.Common.{rules, ◌≡◌, ℕ, zero, suc, ◌+◌, ◌*◌, ◌^◌, Bool, true, false, cond, ℤ, pos, ◌<ℤ◌, sym, ap, ◌∙◌, refl}
use Rattle.std.specs.Prelude.{unsigned_abs}
use lib.Dec.{ltb}
use lib.IntN.{negsuc}
use lib.Ieee.{Format, inf, emax, low, neg, odd, of_int, prec, round, units}
use lib.Ieee.Fits.{round_is}

odd_below : (d q k l : ℕ) → neg (odd d false q k l) ≡ odd d true q k l
unfolding neg odd
odd_below d zero k l = refl
odd_below d (suc q) k l = refl

kept_below : (f : Format) (b : Bool) (q k : ℕ)
    → neg (cond b (odd (suc (prec f)) false q k (low f)) (inf false)) ≡ cond b (odd (suc (prec f)) true q k (low f)) (inf true)
unfolding neg
kept_below f true q k = odd_below (suc (prec f)) q k (low f)
kept_below f false q k = refl

units_below : (f : Format) (q k : ℕ) → neg (units f false q k) ≡ units f true q k
unfolding units
units_below f q k = kept_below f (ltb (q * 2 ^ k) (2 ^ (low f + suc (emax f)))) q k

round_below : (f : Format) (a c : ℕ) → neg (round f false a c) ≡ round f true a c
round_below f a c = ap neg (round_is f false a c) ∙ units_below f _ _ ∙ sym (round_is f true a c)

pub word_below : (f : Format) (z : ℤ) → z <ℤ pos 0 → neg (of_int f (pos (unsigned_abs z))) ≡ of_int f z
unfolding of_int
word_below f (pos n) h = absurd (search rules)
word_below f (negsuc n) h = round_below f (suc n) 1
