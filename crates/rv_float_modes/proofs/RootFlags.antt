-- To the nearest, ties to even, the flags of a root are those of `rv_float_flags`: it neither overflows nor underflows, and it is inexact
-- just where its square is another number.
use Rattle.std.proofs.Common.{◌≡◌, ℕ, zero, suc, ◌+◌, ◌-◌, ◌*◌, ◌/◌, ◌%◌, ◌^◌, ◌<◌, ◌≤◌, Bool, true, false, cond, not, ◌&&◌, if◌then◌else◌}
use Rattle.std.proofs.Common.{nat_eq, nat_lt, sym, ap, ◌∙◌, refl, arith, inl, inr}
use Rattle.std.proofs.Math.Nat.{eq_of_mul-eq-mul_right, mul-div_cancel, mul-le-mul, mul-le-mul_right, mul-lt-mul_of_pos_right, mul-pos}
use Rattle.std.proofs.Math.Nat.{pow-succ', zero-mul}
use Rattle.std.proofs.Math.Pow.{pow_mono}
use Rattle.std.proofs.lemmas.Bool.{cases_lt, eq-eqb, eqb-true, le-ltb, true≢false}
use Rattle.std.proofs.lemmas.Nat.{pow-add, pow_pos}
use Rattle.std.specs.Float.{float_is_finite, float_zero, is_sign_negative}
use Rattle.rv_float_flags.specs.Exact.{Ratio, is_exactly, is_inexact, is_tiny, overflows, rounded}
use Rattle.rv_float_flags.specs.Flags.{inexact_if, invalid, no_flags, rounding_flags}
use Rattle.rv_float_flags.specs.Operations.{is_root, root_flags}
use Rattle.rv_float_flags.specs.Scaled.{IsLimit, amount}
use Rattle.rv_float_flags.specs.declared.scaled.Scaled.{Scaled}
use Rattle.rv_float_flags.proofs.FiniteResults.{finite_below}
use Rattle.rv_float_flags.proofs.Numbers.{same_eq}
use Rattle.rv_float_flags.proofs.Roundings.{either, no_and, underflow}
use Rattle.rv_float_modes.specs.Operations.{exact_root}
use Rattle.rv_float_modes.proofs.Nearest.{emax_pos}
use Rattle.rv_float_modes.proofs.Roots.{one_more, squares, squares_lt, twice_is}
use lib.Dec.{T, eqb→eq, leb, leb→le, ltb→lt}
use lib.IntN.{ℤ, pos, negsuc}
use lib.Ieee.{Float, Format, nan, inf, fin, binary32, binary64, down, emax, fits, low, lt, prec, root_below, root_twice, size, sqrt, up}
use lib.Ieee.Fits.{and_l, and_r, round-fits, up_pos}
use lib.Ieee.Positive.{den, den_pos, num}
use lib.Ieee.Root.{whole_part}

-- ---- the denominator of a value goes into that of the smallest positive value

pub record Divides (d n : ℕ) : Type 0 where
  pub times : ℕ
  pub nonzero : 0 < times
  pub value : d * times ≡ n

power_divides : (e : ℤ) (L : ℕ) → down e ≤ 2 ^ L → Divides (down e) (2 ^ L)
power_divides (pos k) L h = record { times = 2 ^ L; nonzero = pow_pos L; value = omega arith }
power_divides (negsuc k) L h =
    let l : suc k ≤ L = elim (cases_lt L (suc k)) [
      | inl g ↦ let m : 2 ^ suc L ≤ 2 ^ suc k = pow_mono g in let s : 2 ^ suc L ≡ 2 * 2 ^ L = pow-succ' 2 L in
          absurd (omega (arith, m, s, h, pow_pos L))
      | inr g ↦ g
    ] in
    record {
      times = 2 ^ (L - suc k);
      nonzero = pow_pos (L - suc k);
      value = sym (pow-add 2 (suc k) (L - suc k)) ∙ ap (λ (z : ℕ). 2 ^ z) (let s : suc k + (L - suc k) ≡ L = omega (arith, l) in s);
    }

divides : (f : Format) (x : Float) → T (fits f x) → Divides (den x) (2 ^ low f)
unfolding fits
divides f nan t = record { times = 2 ^ low f; nonzero = pow_pos (low f); value = omega arith }
divides f (inf s) t = record { times = 2 ^ low f; nonzero = pow_pos (low f); value = omega arith }
divides f (fin s zero e) t =
    let a : up e * down e ≡ 1 = eqb→eq _ _ t in
    let b : 1 * down e ≤ up e * down e = mul-le-mul_right (down e) (up_pos e) in
    power_divides e (low f) (omega (arith, a, b, pow_pos (low f)))
divides f (fin s (suc m) e) t =
    let narrow : Bool = nat_eq (suc m % 2) 1 && nat_lt (suc m) (2 ^ prec f) in
    let coarse : Bool = leb (down e) (2 ^ low f) in
    power_divides e (low f)
    (leb→le (down e) (2 ^ low f) (and_r narrow coarse (and_l (narrow && coarse) (nat_lt (suc m * up e) (2 ^ suc (emax f) * down e)) t)))

-- what a format holds is below 2 ^ (emax + 1)
below_top : (f : Format) (x : Float) → T (fits f x) → num x < 2 ^ suc (emax f) * den x
unfolding fits
below_top f nan t = let a = pow_pos (suc (emax f)) in omega (arith, a)
below_top f (inf s) t = let a = pow_pos (suc (emax f)) in omega (arith, a)
below_top f (fin s zero e) t = let a = mul-pos (pow_pos (suc (emax f))) (den_pos (fin s zero e)) in omega (arith, a, zero-mul (up e))
below_top f (fin s (suc m) e) t =
    let small : Bool = nat_eq (suc m % 2) 1 && nat_lt (suc m) (2 ^ prec f) && leb (down e) (2 ^ low f) in
    ltb→lt (suc m * up e) (2 ^ suc (emax f) * down e) (and_r small (nat_lt (suc m * up e) (2 ^ suc (emax f) * down e)) t)

-- ---- numbers of the formats

low_small : (f : Format) → low f ≤ 2146
low_small binary32 = omega arith
low_small binary64 = omega arith

emax_small : (f : Format) → 2272 - emax f + (2272 - emax f) ≤ 4542 - low f
emax_small binary32 = omega arith
emax_small binary64 = omega arith

limit_small : (f : Format) → prec f + 1 + (2146 - low f) + 2272 ≤ suc (2272 - emax f) + 2148
limit_small binary32 = omega arith
limit_small binary64 = omega arith

-- ---- how large a root is

root_upper : (E N R : ℕ) → 0 < E → R * R ≤ N → N < 2 ^ (E + 4543) → R < 2 ^ (E + 2271)
root_upper E N R p h l = elim (cases_lt R (2 ^ (E + 2271))) [
  | inl g ↦ g
  | inr g ↦
      let m : 2 ^ (E + 2271) * 2 ^ (E + 2271) ≤ R * R = mul-le-mul g g in
      let s : 2 ^ (E + 2271 + (E + 2271)) ≡ 2 ^ (E + 2271) * 2 ^ (E + 2271) = pow-add 2 (E + 2271) (E + 2271) in
      let k : 2 ^ (E + 4543) ≤ 2 ^ (E + 2271 + (E + 2271)) = pow_mono (let q : E + 4543 ≤ E + 2271 + (E + 2271) = omega (arith, p) in q) in
      absurd (omega (arith, m, s, k, h, l))
]

root_lower : (a N R : ℕ) → 2 ^ (a + a) ≤ N → N < (R + 1) * (R + 1) → 2 ^ a ≤ R
root_lower a N R h l = elim (cases_lt R (2 ^ a)) [
  | inr g ↦ g
  | inl g ↦
      let k : R + 1 ≤ 2 ^ a = omega (arith, g) in
      let m : (R + 1) * (R + 1) ≤ 2 ^ a * 2 ^ a = mul-le-mul k k in
      let s : 2 ^ (a + a) ≡ 2 ^ a * 2 ^ a = pow-add 2 a a in
      absurd (omega (arith, m, s, h, l))
]

-- the root of x, of which 2 ^ 2272 is 1
pub record IsSized (f : Format) (root : ℕ) : Type 0 where
  pub least : 2 ^ suc (2272 - emax f) ≤ root
  pub most : root < 2 ^ (emax f + 2272)

-- ---- the number whose root is looked for, by the multiples of the smallest positive value

whole_is : (n d c L : ℕ) → 0 < d → L ≤ 4542 → d * c ≡ 2 ^ L → n * 2 ^ 4542 / d ≡ n * c * 2 ^ (4542 - L)
whole_is n d c L p l h =
    let s : 2 ^ 4542 ≡ 2 ^ L * 2 ^ (4542 - L) =
    ap (λ (z : ℕ). 2 ^ z) (let q : 4542 ≡ L + (4542 - L) = omega (arith, l) in q) ∙ pow-add 2 L (4542 - L) in
    let v : n * 2 ^ 4542 ≡ n * c * 2 ^ (4542 - L) * d =
    ap (λ (z : ℕ). n * z) s ∙ ap (λ (z : ℕ). n * (z * 2 ^ (4542 - L))) (sym h) ∙ regroup n d c (2 ^ (4542 - L)) in
    ap (λ (z : ℕ). z / d) v ∙ mul-div_cancel (n * c * 2 ^ (4542 - L)) p
  where
    regroup : (n d c u : ℕ) → n * (d * c * u) ≡ n * c * u * d
    regroup n d c u = omega arith

sized : (f : Format) (x : Float) → T (fits f x) → 0 < num x → IsSized f (root_twice (num x * 2 ^ 4542 / den x))
sized f x t p =
    let v = divides f x t in
    let E = emax f in
    let L = low f in
    let c = v.times in
    let u = 2 ^ (4542 - L) in
    let N = num x * 2 ^ 4542 / den x in
    let l : L ≤ 2146 = low_small f in
    let n : N ≡ num x * c * u = whole_is (num x) (den x) c L (den_pos x) (omega (arith, l)) v.value in
    let R = root_below (size N) N in
    let r = whole_part N in
    let w : root_twice N ≡ 2 * R + cond (nat_eq (R * R) N) 0 1 = twice_is N in
    let o : cond (nat_eq (R * R) N) 0 1 ≤ 1 = one_more (nat_eq (R * R) N) in
    let some : 1 * u ≤ num x * c * u = mul-le-mul_right u (mul-pos p v.nonzero) in
    let few : 2 ^ (2272 - E + (2272 - E)) ≤ u = pow_mono (emax_small f) in
    let least : 2 ^ (2272 - E) ≤ R = root_lower (2272 - E) N R (omega (arith, few, some, n)) r.1 in
    let top : num x * c < 2 ^ suc E * 2 ^ L = units_below (num x) (den x) c (2 ^ suc E) (2 ^ L) v.nonzero (below_top f x t) v.value in
    let less : num x * c * u < 2 ^ suc E * 2 ^ L * u = mul-lt-mul_of_pos_right top (pow_pos (4542 - L)) in
    let all : 2 ^ suc E * 2 ^ L * u ≡ 2 ^ (E + 4543) =
    ap (λ (z : ℕ). z * u) (sym (pow-add 2 (suc E) L))
    ∙ sym (pow-add 2 (suc E + L) (4542 - L))
    ∙ ap (λ (z : ℕ). 2 ^ z) (let q : suc E + L + (4542 - L) ≡ E + 4543 = omega (arith, l) in q)
    in
    let most : R < 2 ^ (E + 2271) = root_upper E N R (emax_pos f) r.0 (omega (arith, n, less, all)) in
    let a : 2 ^ suc (2272 - E) ≡ 2 * 2 ^ (2272 - E) = pow-succ' 2 (2272 - E) in
    let b : 2 ^ (E + 2272) ≡ 2 * 2 ^ (E + 2271) =
    ap (λ (z : ℕ). 2 ^ z) (let q : E + 2272 ≡ suc (E + 2271) = omega arith in q) ∙ pow-succ' 2 (E + 2271) in
    record { least = omega (arith, least, w, a); most = omega (arith, most, w, o, b) }
  where
    units_below : (n d c t l : ℕ) → 0 < c → n < t * d → d * c ≡ l → n * c < t * l
    units_below n d c t l p h e =
        let m : n * c < t * d * c = mul-lt-mul_of_pos_right h p in
        let s : t * d * c ≡ t * l = (let q : t * d * c ≡ t * (d * c) = omega arith in q) ∙ ap (λ (z : ℕ). t * z) e in
        omega (arith, m, s)

-- ---- it is finite, and not tiny

finite_root : (f : Format) (r : Ratio) → r.denominator ≡ 2 ^ 2272 → IsSized f r.numerator → float_is_finite (rounded f r) ≡ true
finite_root f r d h =
    let E = emax f in
    let L = low f in
    let a : r.numerator * 2 ^ L < 2 ^ (E + 2272) * 2 ^ L = mul-lt-mul_of_pos_right h.most (pow_pos L) in
    let b : 2 ^ (E + 2272) ≡ 2 ^ E * 2 ^ 2272 = pow-add 2 E 2272 in
    let c : 2 ^ (L + E) ≡ 2 ^ L * 2 ^ E = pow-add 2 L E in
    let s : 2 ^ (E + 2272) * 2 ^ L ≡ 2 ^ (L + E) * r.denominator =
    ap (λ (z : ℕ). z * 2 ^ L) b ∙ regroup (2 ^ E) (2 ^ 2272) (2 ^ L) ∙ ap (λ (z : ℕ). z * 2 ^ 2272) (sym c)
    ∙ ap (λ (z : ℕ). 2 ^ (L + E) * z) (sym d)
    in
    let p : 0 < 2 ^ 2272 = pow_pos 2272 in
    finite_below f r (omega (arith, d, p)) (omega (arith, a, s))
  where
    regroup : (a b c : ℕ) → a * b * c ≡ c * a * b
    regroup a b c = omega arith

limit : Format → Scaled
limit f = record { digits = 2 ^ (prec f + 1) - 1; place = 2146 - low f }

is_limit : (f : Format) → IsLimit f (limit f)
unfolding limit
is_limit f = let l : low f ≤ 2146 = low_small f in record { digits = refl; place = omega (arith, l) }

above_limit : (f : Format) (root : ℕ) → IsSized f root → amount (limit f) * 2 ^ 2272 ≤ root * 2 ^ 2148
unfolding limit
above_limit f root h =
    let P = prec f + 1 in
    let i = 2146 - low f in
    let k = suc (2272 - emax f) in
    let a : (2 ^ P - 1) * (2 ^ i * 2 ^ 2272) ≤ 2 ^ P * (2 ^ i * 2 ^ 2272) =
    mul-le-mul_right (2 ^ i * 2 ^ 2272) (let q : 2 ^ P - 1 ≤ 2 ^ P = omega arith in q) in
    let b : 2 ^ (P + i + 2272) ≡ 2 ^ P * 2 ^ i * 2 ^ 2272 = pow-add 2 (P + i) 2272 ∙ ap (λ (z : ℕ). z * 2 ^ 2272) (pow-add 2 P i) in
    let c : 2 ^ (P + i + 2272) ≤ 2 ^ (k + 2148) = pow_mono (limit_small f) in
    let d : 2 ^ (k + 2148) ≡ 2 ^ k * 2 ^ 2148 = pow-add 2 k 2148 in
    let e : 2 ^ k * 2 ^ 2148 ≤ root * 2 ^ 2148 = mul-le-mul_right (2 ^ 2148) h.least in
    ordered (2 ^ P - 1) (2 ^ P) (2 ^ i) (2 ^ 2272) (2 ^ (P + i + 2272)) (2 ^ (k + 2148)) (2 ^ k * 2 ^ 2148) (root * 2 ^ 2148) a b c d e
  where
    ordered : (q p i w m n o r : ℕ) → q * (i * w) ≤ p * (i * w) → m ≡ p * i * w → m ≤ n → n ≡ o → o ≤ r → q * i * w ≤ r
    ordered q p i w m n o r a b c d e = omega (arith, a, b, c, d, e)

no_underflow : (f : Format) (r : Ratio) → r.denominator ≡ 2 ^ 2272 → IsSized f r.numerator → is_tiny f r && is_inexact f r ≡ false
no_underflow f r d h =
    let p : 0 < 2 ^ 2272 = pow_pos 2272 in
    let q : 0 < r.denominator = omega (arith, d, p) in
    let n = r.numerator * 2 ^ 2148 in
    let g : amount (limit f) * r.denominator ≤ n = let a : amount (limit f) * 2 ^ 2272 ≤ n = above_limit f r.numerator h in
    let b : amount (limit f) * r.denominator ≡ amount (limit f) * 2 ^ 2272 = ap (λ (z : ℕ). amount (limit f) * z) d in
    omega (arith, a, b) in
    underflow f r (limit f) n r.denominator (is_limit f) (record { nonzero = q; divisor = q; value = refl })
    ∙ ap (λ (b : Bool). is_inexact f r && b) (le-ltb n (amount (limit f) * r.denominator) g)
    ∙ no_and (is_inexact f r)

no_overflow : (f : Format) (r : Ratio) → r.denominator ≡ 2 ^ 2272 → IsSized f r.numerator → overflows f r ≡ false
no_overflow f r d h = either f false r.numerator r.denominator ∙ ap not (finite_root f r d h)

-- ---- it is exact just where its square is the number

-- The root of a / d is looked for, and is p / q: both are multiples of 1 / l. One is 2 * l * h in the terms of the root, and R is the whole
-- root of N.
pub record Terms (a d p q l h N R o : ℕ) : Type 0 where
  pub number : Divides d l
  pub root : Divides q l
  pub d_nonzero : 0 < d
  pub q_nonzero : 0 < q
  pub h_nonzero : 0 < h
  pub value : N ≡ a * number.times * (l * (h * h))
  pub low : R * R ≤ N
  pub high : N < (R + 1) * (R + 1)
  pub more : o ≡ cond (nat_eq (R * R) N) 0 1

-- the square of p / q in these terms
square_is : (a d p q l h N R o : ℕ) (t : Terms a d p q l h N R o) → p * p * d ≡ a * (q * q)
    → p * t.root.times * h * (p * t.root.times * h) ≡ N
square_is a d p q l h N R o t e =
    let c = t.number.times in
    let b = t.root.times in
    let s : p * b * (p * b) * d ≡ a * c * l * d = scaled a d p q l c b t.number.value t.root.value e in
    let u : p * b * (p * b) ≡ a * c * l = eq_of_mul-eq-mul_right d t.d_nonzero (p * b * (p * b)) (a * c * l) s in
    squared (p * b) (a * c * l) h u ∙ regroup (a * c) l (h * h) ∙ sym t.value
  where
    scaled : (a d p q l c b : ℕ) → d * c ≡ l → q * b ≡ l → p * p * d ≡ a * (q * q) → p * b * (p * b) * d ≡ a * c * l * d
    scaled a d p q l c b f g e =
        let k : p * b * (p * b) * d ≡ p * p * d * (b * b) = omega arith in
        let m : a * (q * q) * (b * b) ≡ a * (q * b) * (q * b) = omega arith in
        let n : a * (d * c) * l ≡ a * c * l * d = omega arith in
        k ∙ ap (λ (z : ℕ). z * (b * b)) e ∙ m ∙ ap (λ (z : ℕ). a * z * z) g ∙ ap (λ (z : ℕ). a * z * l) (sym f) ∙ n

    squared : (s w h : ℕ) → s * s ≡ w → s * h * (s * h) ≡ w * (h * h)
    squared s w h e = (let k : s * h * (s * h) ≡ s * s * (h * h) = omega arith in k) ∙ ap (λ (z : ℕ). z * (h * h)) e

    regroup : (w l u : ℕ) → w * l * u ≡ w * (l * u)
    regroup w l u = omega arith

-- and back
is_square : (a d p q l h N R o : ℕ) (t : Terms a d p q l h N R o) → p * t.root.times * h * (p * t.root.times * h) ≡ N
    → p * p * d ≡ a * (q * q)
is_square a d p q l h N R o t e =
    let c = t.number.times in
    let b = t.root.times in
    let s : p * p * (b * b) * (h * h) ≡ a * c * (q * b) * (h * h) =
    (let k : p * p * (b * b) * (h * h) ≡ p * b * h * (p * b * h) = omega arith in k) ∙ e ∙ t.value
    ∙ ap (λ (z : ℕ). a * c * (z * (h * h))) (sym t.root.value)
    ∙ (let k : a * c * (q * b * (h * h)) ≡ a * c * (q * b) * (h * h) = omega arith in k)
    in
    let u : p * p * (b * b) ≡ a * c * (q * b) =
    eq_of_mul-eq-mul_right (h * h) (mul-pos t.h_nonzero t.h_nonzero) (p * p * (b * b)) (a * c * (q * b)) s in
    let v : d * c ≡ q * b = t.number.value ∙ sym t.root.value in
    eq_of_mul-eq-mul_right (c * (b * b)) (mul-pos t.number.nonzero (mul-pos t.root.nonzero t.root.nonzero)) (p * p * d) (a * (q * q))
    (scaled a d p q c b u v)
  where
    scaled : (a d p q c b : ℕ) → p * p * (b * b) ≡ a * c * (q * b) → d * c ≡ q * b → p * p * d * (c * (b * b)) ≡ a * (q * q) * (c * (b * b))
    scaled a d p q c b u v =
        let k : p * p * d * (c * (b * b)) ≡ p * p * (b * b) * (d * c) = omega arith in
        let m : a * c * (q * b) * (q * b) ≡ a * (q * q) * (c * (b * b)) = omega arith in
        k ∙ ap (λ (z : ℕ). z * (d * c)) u ∙ ap (λ (z : ℕ). a * c * (q * b) * z) v ∙ m

-- the whole root is the root of a square
whole_root : (S N R : ℕ) → S * S ≡ N → R * R ≤ N → N < (R + 1) * (R + 1) → R ≡ S
whole_root S N R e h l =
    let a : R ≤ S = squares R S (omega (arith, e, h)) in
    let b : S < R + 1 = squares_lt S (R + 1) (omega (arith, e, l)) in
    omega (arith, a, b)

exact_test : (a d p q l h N R o : ℕ) → Terms a d p q l h N R o
    → nat_eq (p * (2 * (l * h))) ((2 * R + o) * q) ≡ nat_eq (p * p * d) (a * (q * q))
exact_test a d p q l h N R o t =
    same_eq (p * (2 * (l * h))) ((2 * R + o) * q) (p * p * d) (a * (q * q)) (to_square (nat_eq (R * R) N) refl) from_square
  where
    S : ℕ
    S = p * t.root.times * h

    unit : p * (2 * (l * h)) ≡ 2 * S * q
    unit = ap (λ (z : ℕ). p * (2 * (z * h))) (sym t.root.value)
        ∙ (let b : ℕ = t.root.times in let k : p * (2 * (q * b * h)) ≡ 2 * (p * b * h) * q = omega arith in k)

    to_square : (w : Bool) → nat_eq (R * R) N ≡ w → p * (2 * (l * h)) ≡ (2 * R + o) * q → p * p * d ≡ a * (q * q)
    to_square true e g =
        let n : R * R ≡ N = eqb-true (R * R) N e in
        let z : o ≡ 0 = t.more ∙ ap (λ (x : Bool). cond x 0 1) e in
        let s : 2 * S ≡ 2 * R + o = eq_of_mul-eq-mul_right q t.q_nonzero (2 * S) (2 * R + o) (sym unit ∙ g) in
        let r : S ≡ R = omega (arith, s, z) in
        is_square a d p q l h N R o t (ap (λ (x : ℕ). x * x) r ∙ n)
    to_square false e g =
        let z : o ≡ 1 = t.more ∙ ap (λ (x : Bool). cond x 0 1) e in
        let s : 2 * S ≡ 2 * R + o = eq_of_mul-eq-mul_right q t.q_nonzero (2 * S) (2 * R + o) (sym unit ∙ g) in
        absurd (omega (arith, s, z))

    from_square : p * p * d ≡ a * (q * q) → p * (2 * (l * h)) ≡ (2 * R + o) * q
    from_square e =
        let s : S * S ≡ N = square_is a d p q l h N R o t e in
        let r : R ≡ S = whole_root S N R s t.low t.high in
        let n : R * R ≡ N = ap (λ (x : ℕ). x * x) r ∙ s in
        let z : o ≡ 0 = t.more ∙ ap (λ (x : Bool). cond x 0 1) (eq-eqb (R * R) N n) in
        unit ∙ ap (λ (x : ℕ). x * q) (let k : 2 * S ≡ 2 * R + o = omega (arith, r, z) in k)

-- ---- in the terms of values

exactly_root : (f : Format) (x z : Float) → T (fits f x) → T (fits f z) → is_exactly z (exact_root x) ≡ is_root z x
exactly_root f x z t v =
    let L = low f in
    let h = 2 ^ (2271 - L) in
    let N = num x * 2 ^ 4542 / den x in
    let R = root_below (size N) N in
    let o : ℕ = cond (nat_eq (R * R) N) 0 1 in
    let r = whole_part N in
    let l : L ≤ 2146 = low_small f in
    let g = divides f x t in
    let s : 2 ^ (4542 - L) ≡ 2 ^ L * (h * h) =
    ap (λ (y : ℕ). 2 ^ y) (let q : 4542 - L ≡ L + (2271 - L + (2271 - L)) = omega (arith, l) in q)
    ∙ pow-add 2 L (2271 - L + (2271 - L))
    ∙ ap (λ (y : ℕ). 2 ^ L * y) (pow-add 2 (2271 - L) (2271 - L))
    in
    let one : 2 ^ 2272 ≡ 2 * (2 ^ L * h) =
    pow-succ' 2 2271 ∙ ap (λ (y : ℕ). 2 * 2 ^ y) (let q : 2271 ≡ L + (2271 - L) = omega (arith, l) in q)
    ∙ ap (λ (y : ℕ). 2 * y) (pow-add 2 L (2271 - L))
    in
    let k : Terms (num x) (den x) (num z) (den z) (2 ^ L) h N R o = record {
      number = g;
      root = divides f z v;
      d_nonzero = den_pos x;
      q_nonzero = den_pos z;
      h_nonzero = pow_pos (2271 - L);
      value = whole_is (num x) (den x) g.times L (den_pos x) (omega (arith, l)) g.value ∙ ap (λ (y : ℕ). num x * g.times * y) s;
      low = r.0;
      high = r.1;
      more = refl;
    } in
    ap (λ (b : Bool). float_is_finite z && b)
    (ap (λ (y : ℕ). nat_eq (num z * y) (root_twice N * den z)) one
    ∙ ap (λ (y : ℕ). nat_eq (num z * (2 * (2 ^ L * h))) (y * den z)) (twice_is N)
    ∙ exact_test (num x) (den x) (num z) (den z) (2 ^ L) h N R o k)

not_below_zero : (x : Float) → float_is_finite x ≡ true → is_sign_negative x ≡ false → lt x float_zero ≡ false
unfolding lt float_is_finite is_sign_negative
not_below_zero nan h g = absurd (true≢false (sym h))
not_below_zero (inf s) h g = absurd (true≢false (sym h))
not_below_zero (fin true m e) h g = absurd (true≢false g)
not_below_zero (fin false m e) h g = le-ltb _ _ (let z : 0 * 1 * down e ≡ 0 = zero-mul (down e) in omega (arith, z))

-- the flags of an inexact or exact result that neither overflows nor underflows
only_inexact : (o u x y : Bool) → o ≡ false → u ≡ false → x ≡ y → record { nv = false; dz = false; of = o; uf = u; nx = x } ≡ inexact_if y
only_inexact o u x y h g e = rw (h, g, e) refl

pub root_flags_are : (f : Format) (x : Float) → T (fits f x) → float_is_finite x ≡ true → 0 < num x → is_sign_negative x ≡ false
    → sqrt f x ≡ rounded f (exact_root x)
    → rounding_flags f (exact_root x) ≡ root_flags f x
root_flags_are f x t finite p above e =
    let r = exact_root x in
    let h = sized f x t p in
    let raised = if float_is_finite x then inexact_if (not (is_root (sqrt f x) x)) else no_flags in
    let inexact : is_inexact f r ≡ not (is_root (sqrt f x) x) =
    ap not (exactly_root f x (rounded f r) t (round-fits f false r.numerator r.denominator) ∙ ap (λ (z : Float). is_root z x) (sym e))
    in
    only_inexact _ _ _ _ (no_overflow f r refl h) (no_underflow f r refl h) inexact
    ∙ sym
    (ap (λ (b : Bool). if b then invalid else raised) (not_below_zero x finite above)
    ∙ ap (λ (b : Bool). if b then inexact_if (not (is_root (sqrt f x) x)) else no_flags) finite)
