-- A magnitude cut off for a format: the digits that it drops, what it keeps, and how the rest compares with the half.
use Rattle.std.proofs.Common.{◌≡◌, ℕ, suc, ◌+◌, ◌-◌, ◌*◌, ◌/◌, ◌%◌, ◌^◌, ◌<◌, ◌≤◌, Bool, true, false, not, ◌&&◌, ◌||◌, nat_eq, nat_le}
use Rattle.std.proofs.Common.{nat_lt, min, sym, ap, ◌∙◌, refl, arith, inl, inr}
use Rattle.std.proofs.Math.Nat.{div-add-mod', div-div-eq-div-mul, div-eq_of_lt, div-lt_iff_lt-mul, eq-zero-or-pos, le-div_iff_mul-le}
use Rattle.std.proofs.Math.Nat.{le_of_mul-le-mul_right, lt_of_mul-lt-mul_right, eq_of_mul-eq-mul_right, mod-eq_of_lt, mul-le-mul_right}
use Rattle.std.proofs.Math.Nat.{mul-pos, pow-succ'}
use Rattle.std.proofs.Math.Pow.{pow_mono}
use Rattle.std.proofs.Math.Arith.{digits_div, digits_mod}
use Rattle.std.proofs.lemmas.Bool.{cases_lt, eq-eqb, le-leb, le-ltb, lt-leb, lt-ltb, ne_eqb, eqb-true, eqb-false, true≢false}
use Rattle.std.proofs.lemmas.Nat.{leading_top, mod_below, pow-add, pow_pos}
use Rattle.std.proofs.Math.Pow.{shr_lt}
use Rattle.rv_float_flags.specs.Exact.{Ratio}
use Rattle.rv_float_modes.specs.Enclosed.{Encloses, IsCut, IsShape, IsWide}
use Rattle.rv_float_modes.specs.Modes.{dropped, rest, step}
use Rattle.rv_float_modes.specs.declared.magnitude.Magnitude.{Magnitude}
use Rattle.rv_float_modes.specs.declared.rounding.Shape.{Shape}
use lib.Count.{count_leading_zeros}
use lib.Ieee.{Format, hid, low, prec, size}
use lib.Ieee.Digits.{size-le, size-lt}

-- ---- X = (Q * 2 + b) * (p * W) + (e * W + t), where D = X / W is cut at p, and is halved once more

pub record Halved (X W p Q b r : ℕ) : Type 0 where
  pub quotient : X / (W * (2 * p)) ≡ Q
  pub rest : X % (W * (2 * p)) ≡ b * (p * W) + r
  pub low : r < p * W

halved_at : (X W p D t H e Q b : ℕ) → 0 < p → D * W + t ≡ X → t < W → H * p + e ≡ D → e < p → Q * 2 + b ≡ H → b < 2
    → Halved X W p Q b (e * W + t)
halved_at X W p D t H e Q b P h T g E k B =
    let s : (Q * 2 + b) * p * W + e * W ≡ D * W = omega (arith, ap (λ (z : ℕ). z * W) g, ap (λ (z : ℕ). z * p * W) k) in
    let x : Q * (W * (2 * p)) + (b * (p * W) + (e * W + t)) ≡ X = omega (arith, s, h) in
    let m : (e + 1) * W ≤ p * W = mul-le-mul_right W (let y : e + 1 ≤ p = omega (arith, E) in y) in
    let l : e * W + t < p * W = omega (arith, m, T) in
    let n : b * (p * W) ≤ 1 * (p * W) = mul-le-mul_right (p * W) (let y : b ≤ 1 = omega (arith, B) in y) in
    let v : b * (p * W) + (e * W + t) < W * (2 * p) = omega (arith, n, l) in
    record {
      quotient = sym (ap (λ (z : ℕ). z / (W * (2 * p))) x) ∙ digits_div Q v;
      rest = sym (ap (λ (z : ℕ). z % (W * (2 * p))) x) ∙ digits_mod Q v;
      low = l;
    }

halved : (X W p : ℕ) → 0 < W → 0 < p → Halved X W p (X / W / p / 2) (X / W / p % 2) (X / W % p * W + X % W)
halved X W p w h =
    halved_at X W p (X / W) (X % W) (X / W / p) (X / W % p) (X / W / p / 2) (X / W / p % 2) h (div-add-mod' X W) (mod_below X W w)
    (div-add-mod' (X / W) p) (mod_below (X / W) p h) (div-add-mod' (X / W / p) 2) (mod_below (X / W / p) 2 (omega arith))

-- ---- the same of n and the step T, of which X and W * (2 * p) are S times as much

pub record Scaled (n T S Q b r : ℕ) : Type 0 where
  pub quotient : n / T ≡ Q
  pub rest : n % T * 2 * S ≡ b * (T * S) + 2 * r
  pub low : 2 * r < T * S

scaled_down : (n T S X W p Q b r : ℕ) → 0 < T → 0 < S → n * S ≡ X → T * S ≡ W * (2 * p) → Halved X W p Q b r → Scaled n T S Q b r
scaled_down n T S X W p Q b r t s e g h =
    let q = n / T in
    let m = n % T in
    let k : q * T + m ≡ n = div-add-mod' n T in
    let l : m < T = mod_below n T t in
    let x : q * (T * S) + m * S ≡ X = omega (arith, ap (λ (z : ℕ). z * S) k, e) in
    let y : q * (W * (2 * p)) + m * S ≡ X = omega (arith, ap (λ (z : ℕ). q * z) g, x) in
    let v : (m + 1) * S ≤ T * S = mul-le-mul_right S (let u : m + 1 ≤ T = omega (arith, l) in u) in
    let w : m * S < W * (2 * p) = omega (arith, v, g, s) in
    let a : X / (W * (2 * p)) ≡ q = sym (ap (λ (z : ℕ). z / (W * (2 * p))) y) ∙ digits_div q w in
    let c : X % (W * (2 * p)) ≡ m * S = sym (ap (λ (z : ℕ). z % (W * (2 * p))) y) ∙ digits_mod q w in
    let f : b * (T * S) ≡ b * (W * (2 * p)) = ap (λ (z : ℕ). b * z) g in
    record {
      quotient = sym a ∙ h.quotient;
      rest = omega (arith, c, h.rest, f);
      low = omega (arith, h.low, g);
    }

-- ---- the tests of the rest

pub record Tests (h m : Bool) (rest step : ℕ) : Type 0 where
  pub half : h ≡ nat_le step (rest * 2)
  pub tie : (h && not m) ≡ nat_eq (rest * 2) step
  pub above : (h && m) ≡ nat_lt step (rest * 2)
  pub inexact : (h || m) ≡ nat_lt 0 rest

over : (R T S r : ℕ) → R * 2 * S ≡ 1 * (T * S) + 2 * r → 0 < r → T < R * 2
over R T S r e h = lt_of_mul-lt-mul_right S (let k : T * S < R * 2 * S = omega (arith, e, h) in k)

at : (R T S r : ℕ) → 0 < S → R * 2 * S ≡ 1 * (T * S) + 2 * r → r ≡ 0 → R * 2 ≡ T
at R T S r s e h = eq_of_mul-eq-mul_right S s (R * 2) T (omega (arith, e, h))

below : (R T S r : ℕ) → R * 2 * S ≡ 0 * (T * S) + 2 * r → 2 * r < T * S → R * 2 < T
below R T S r e h = lt_of_mul-lt-mul_right S (let k : R * 2 * S < T * S = omega (arith, e, h) in k)

some : (R T S r : ℕ) → R * 2 * S ≡ 0 * (T * S) + 2 * r → 0 < r → 0 < R
some R T S r e h = elim (eq-zero-or-pos R) [
  | inl z ↦ let k : R * 2 * S ≡ 0 = ap (λ (x : ℕ). x * 2 * S) z ∙ (let q : 0 * 2 * S ≡ 0 = omega arith in q) in
      absurd (omega (arith, k, e, h))
  | inr l ↦ l
]

none : (R T S r : ℕ) → 0 < S → R * 2 * S ≡ 0 * (T * S) + 2 * r → r ≡ 0 → R ≡ 0
none R T S r s e h = let k : R * 2 ≡ 0 = eq_of_mul-eq-mul_right S s (R * 2) 0 (omega (arith, e, h)) in omega (arith, k)

pub tests : (half more : Bool) (R T S b r : ℕ) → 0 < T → 0 < S → R * 2 * S ≡ b * (T * S) + 2 * r → 2 * r < T * S
    → (half ≡ true → b ≡ 1) → (half ≡ false → b ≡ 0) → (more ≡ true → 0 < r) → (more ≡ false → r ≡ 0) → Tests half more R T
tests true true R T S b r t s e l h g k i =
    let f : R * 2 * S ≡ 1 * (T * S) + 2 * r = e ∙ ap (λ (z : ℕ). z * (T * S) + 2 * r) (h refl) in
    let o : T < R * 2 = over R T S r f (k refl) in
    record {
      half = sym (le-leb T (R * 2) (omega (arith, o)));
      tie = sym (ne_eqb (R * 2) T (λ z. absurd (omega (arith, z, o))));
      above = sym (lt-ltb T (R * 2) o);
      inexact = sym (lt-ltb 0 R (omega (arith, o)));
    }
tests true false R T S b r t s e l h g k i =
    let f : R * 2 * S ≡ 1 * (T * S) + 2 * r = e ∙ ap (λ (z : ℕ). z * (T * S) + 2 * r) (h refl) in
    let o : R * 2 ≡ T = at R T S r s f (i refl) in
    record {
      half = sym (le-leb T (R * 2) (omega (arith, o)));
      tie = sym (eq-eqb (R * 2) T o);
      above = sym (le-ltb T (R * 2) (omega (arith, o)));
      inexact = sym (lt-ltb 0 R (omega (arith, o, t)));
    }
tests false true R T S b r t s e l h g k i =
    let f : R * 2 * S ≡ 0 * (T * S) + 2 * r = e ∙ ap (λ (z : ℕ). z * (T * S) + 2 * r) (g refl) in
    let o : R * 2 < T = below R T S r f l in
    record {
      half = sym (lt-leb T (R * 2) o);
      tie = sym (ne_eqb (R * 2) T (λ z. absurd (omega (arith, z, o))));
      above = sym (le-ltb T (R * 2) (omega (arith, o)));
      inexact = sym (lt-ltb 0 R (some R T S r f (k refl)));
    }
tests false false R T S b r t s e l h g k i =
    let f : R * 2 * S ≡ 0 * (T * S) + 2 * r = e ∙ ap (λ (z : ℕ). z * (T * S) + 2 * r) (g refl) in
    let o : R * 2 < T = below R T S r f l in
    let z : R ≡ 0 = none R T S r s f (i refl) in
    record {
      half = sym (lt-leb T (R * 2) o);
      tie = sym (ne_eqb (R * 2) T (λ z. absurd (omega (arith, z, o))));
      above = sym (le-ltb T (R * 2) (omega (arith, o)));
      inexact = sym (le-ltb 0 R (omega (arith, z)));
    }

-- ---- the digits dropped of n / c, where D = n * 2 ^ L / (c * 2 ^ i) has j + 1 digits

upper : (n c L i j D : ℕ) → 0 < c → D ≡ n * 2 ^ L / (c * 2 ^ i) → D < 2 ^ suc j → n * 2 ^ L < 2 ^ (suc j + i) * c
upper n c L i j D h e l =
    let W = c * 2 ^ i in
    let w : 0 < W = mul-pos h (pow_pos i) in
    let a : n * 2 ^ L < 2 ^ suc j * W = (div-lt_iff_lt-mul w).0 (let k : n * 2 ^ L / W < 2 ^ suc j = omega (arith, e, l) in k) in
    let b : 2 ^ (suc j + i) * c ≡ 2 ^ suc j * 2 ^ i * c = ap (λ (z : ℕ). z * c) (pow-add 2 (suc j) i) in
    omega (arith, a, b)

lower : (n c L i j D : ℕ) → 0 < c → D ≡ n * 2 ^ L / (c * 2 ^ i) → 2 ^ j ≤ D → 2 ^ (j + i) * c ≤ n * 2 ^ L
lower n c L i j D h e l =
    let W = c * 2 ^ i in
    let w : 0 < W = mul-pos h (pow_pos i) in
    let a : 2 ^ j * W ≤ n * 2 ^ L = (le-div_iff_mul-le w).0 (let k : 2 ^ j ≤ n * 2 ^ L / W = omega (arith, e, l) in k) in
    let b : 2 ^ (j + i) * c ≡ 2 ^ j * 2 ^ i * c = ap (λ (z : ℕ). z * c) (pow-add 2 j i) in
    omega (arith, a, b)

-- with the power of two taken off both
upper_off : (n c L a b : ℕ) → a ≤ b + L → n * 2 ^ L < 2 ^ a * c → n < 2 ^ b * c
upper_off n c L a b h l =
    let m : 2 ^ a * c ≤ 2 ^ (b + L) * c = mul-le-mul_right c (pow_mono h) in
    let e : 2 ^ (b + L) * c ≡ 2 ^ b * 2 ^ L * c = ap (λ (z : ℕ). z * c) (pow-add 2 b L) in
    lt_of_mul-lt-mul_right (2 ^ L) (let k : n * 2 ^ L < 2 ^ b * c * 2 ^ L = omega (arith, l, m, e) in k)

lower_off : (n c L a b : ℕ) → b + L ≤ a → 2 ^ a * c ≤ n * 2 ^ L → 2 ^ b * c ≤ n
lower_off n c L a b h l =
    let m : 2 ^ (b + L) * c ≤ 2 ^ a * c = mul-le-mul_right c (pow_mono h) in
    let e : 2 ^ (b + L) * c ≡ 2 ^ b * 2 ^ L * c = ap (λ (z : ℕ). z * c) (pow-add 2 b L) in
    le_of_mul-le-mul_right (let k : 2 ^ b * c * 2 ^ L ≤ n * 2 ^ L = omega (arith, l, m, e) in k) (pow_pos L)

pub size_at_least : (w b : ℕ) → 2 ^ b ≤ w → b < size w
size_at_least w b h = elim (cases_lt b (size w)) [
  | inl l ↦ l
  | inr g ↦ let m : 2 ^ size w ≤ 2 ^ b = pow_mono g in let l : w < 2 ^ size w = size-lt w in absurd (omega (arith, m, l, h))
]

pub drops : (n c L i j D p : ℕ) → 0 < c → D ≡ n * 2 ^ L / (c * 2 ^ i) → 2 ^ j ≤ D → D < 2 ^ suc j → size (n / c) - p ≡ suc j + i - (p + L)
drops n c L i j D p h e l g =
    let k = suc j + i - (p + L) in
    let a : n < 2 ^ (p + k) * c = upper_off n c L (suc j + i) (p + k) (omega arith) (upper n c L i j D h e g) in
    let b : n / c < 2 ^ (p + k) = (div-lt_iff_lt-mul h).1 a in
    let s : size (n / c) ≤ p + k = size-le (n / c) (p + k) b in
    elim (eq-zero-or-pos k) [
      | inl z ↦ omega (arith, s, z)
      | inr q ↦
          let y : p + k - 1 + L ≤ j + i = omega (arith, q) in
          let d : 2 ^ (p + k - 1) * c ≤ n = lower_off n c L (j + i) (p + k - 1) y (lower n c L i j D h e l) in
          let f : 2 ^ (p + k - 1) ≤ n / c = (le-div_iff_mul-le h).1 d in
          let t : p + k - 1 < size (n / c) = size_at_least (n / c) (p + k - 1) f in
          omega (arith, s, t, q)
    ]

-- ---- digits below 2 ^ 127 are cut at 2 ^ 127 as anywhere above
pub far_cut : (D d : ℕ) → D < 2 ^ 127 → (D / 2 ^ min d 127 ≡ D / 2 ^ d) × (D % 2 ^ min d 127 ≡ D % 2 ^ d)
far_cut D d h = elim (cases_lt d 127) [
  | inl l ↦ let e : min d 127 ≡ d = omega (arith, l) in (ap (λ (z : ℕ). D / 2 ^ z) e, ap (λ (z : ℕ). D % 2 ^ z) e)
  | inr g ↦
      let e : min d 127 ≡ 127 = omega (arith, g) in
      let m : 2 ^ 127 ≤ 2 ^ d = pow_mono g in
      let l : D < 2 ^ d = omega (arith, m, h) in (
        ap (λ (z : ℕ). D / 2 ^ z) e ∙ div-eq_of_lt h ∙ sym (div-eq_of_lt l),
        ap (λ (z : ℕ). D % 2 ^ z) e ∙ mod-eq_of_lt h ∙ sym (mod-eq_of_lt l),
      )
]

-- ---- the digits kept

kept_below : (D z i P L k d : ℕ) → D < 2 ^ z → k ≡ z + i - (P + L) → d ≡ k + L - i - 1 → i + 1 ≤ k + L → D / 2 ^ d / 2 < 2 ^ P
kept_below D z i P L k d h e g l =
    let y : z ≤ P + suc d = omega (arith, e, g, l) in
    let m : 2 ^ z ≤ 2 ^ (P + suc d) = pow_mono y in
    let q : D < 2 ^ (P + suc d) = omega (arith, m, h) in
    let w : D / 2 ^ suc d < 2 ^ P = shr_lt P (suc d) q in
    let v : 2 ^ suc d ≡ 2 ^ d * 2 = let u : 2 ^ suc d ≡ 2 * 2 ^ d = pow-succ' 2 d in omega (arith, u) in
    let x : D / 2 ^ d / 2 ≡ D / 2 ^ suc d = div-div-eq-div-mul D (2 ^ d) 2 ∙ ap (λ (a : ℕ). D / a) (sym v) in
    omega (arith, w, x)

-- how many digits there are
pub record HasSize (D j : ℕ) : Type 0 where
  pub size : 128 - count_leading_zeros 128 D ≡ suc j
  pub reaches : 2 ^ j ≤ D
  pub below : D < 2 ^ suc j
  pub many : 63 ≤ j
  pub few : j < 127

pub size_of : (D : ℕ) → 2 ^ 63 ≤ D → D < 2 ^ 127 → (j : ℕ) × HasSize D j
size_of D h l =
    let t = leading_top 128 D (omega (arith, h)) (omega (arith, l)) in
    let j = t.0 in
    let e : count_leading_zeros 128 D + suc j ≡ 128 = t.1 in (
      j,
      record {
        size = omega (arith, e);
        reaches = t.2;
        below = t.3;
        many = elim (cases_lt j 63) [ inl g ↦ let m : 2 ^ suc j ≤ 2 ^ 63 = pow_mono g in absurd (omega (arith, m, h, t.3)) | inr g ↦ g ];
        few = elim (cases_lt j 127) [ inl g ↦ g | inr g ↦ let m : 2 ^ 127 ≤ 2 ^ j = pow_mono g in absurd (omega (arith, m, l, t.2)) ];
      },
    )

-- where there are so many digits, the cut is above the last of them
pub above_place : (D i P L k : ℕ) → 2 ^ 63 ≤ D → D < 2 ^ 127 → P < 54 → k ≡ 128 - count_leading_zeros 128 D + i - (P + L) → i + 1 ≤ k + L
above_place D i P L k h l p e = let s = size_of D h l in let a : 128 - count_leading_zeros 128 D ≡ suc s.0 = s.1.size in
    let b : 63 ≤ s.0 = s.1.many in omega (arith, a, b, p, e)

pub kept_small : (D i P L k d : ℕ) → 2 ^ 63 ≤ D → D < 2 ^ 127 → P < 54 → k ≡ 128 - count_leading_zeros 128 D + i - (P + L)
    → d ≡ min (k + L - i - 1) 127
    → D / 2 ^ d / 2 < 2 ^ 54
kept_small D i P L k d h l p e g =
    let s = size_of D h l in
    let a : k ≡ suc s.0 + i - (P + L) = let b : 128 - count_leading_zeros 128 D ≡ suc s.0 = s.1.size in omega (arith, e, b) in
    let c : D / 2 ^ (k + L - i - 1) / 2 < 2 ^ P =
    kept_below D (suc s.0) i P L k (k + L - i - 1) s.1.below a refl (above_place D i P L k h l p e) in
    let q : D / 2 ^ d / 2 ≡ D / 2 ^ (k + L - i - 1) / 2 =
    ap (λ (x : ℕ). D / 2 ^ x / 2) g ∙ ap (λ (x : ℕ). x / 2) (far_cut D (k + L - i - 1) l).0 in
    let m : 2 ^ P ≤ 2 ^ 54 = pow_mono (let x : P ≤ 54 = omega (arith, p) in x) in
    omega (arith, c, q, m)

pub few_dropped : (D i P L k : ℕ) → 2 ^ 63 ≤ D → D < 2 ^ 127 → i < 6500 → 3022 ≤ L → k ≡ 128 - count_leading_zeros 128 D + i - (P + L)
    → k < 3606
few_dropped D i P L k h l p q e = let s = size_of D h l in let a : 128 - count_leading_zeros 128 D ≡ suc s.0 = s.1.size in
    let b : s.0 < 127 = s.1.few in omega (arith, a, b, p, q, e)

pub pattern_narrow : (k h q : ℕ) → k < 3606 → h ≤ 2 ^ 52 → q < 2 ^ 54 → k * h + q < 2 ^ 64 - 1
pattern_narrow k h q a b c =
    let m : k * h ≤ 3606 * h = mul-le-mul_right h (let x : k ≤ 3606 = omega (arith, a) in x) in
    omega (arith, m, b, c)

-- ---- the rest

rest_there : (g : Bool) (t e W : ℕ) → 0 < W → g ≡ nat_lt 0 t → (g || not (nat_eq e 0)) ≡ true → 0 < e * W + t
rest_there g t e W w h k = elim (eq-zero-or-pos t) [
  | inr p ↦ omega (arith, p)
  | inl z ↦ elim (eq-zero-or-pos e) [
    | inr p ↦ let m : 0 < e * W = mul-pos p w in omega (arith, m)
    | inl y ↦
        let a : g ≡ false = h ∙ le-ltb 0 t (omega (arith, z)) in
        let b : not (nat_eq e 0) ≡ false = ap not (eq-eqb e 0 y) in
        absurd (true≢false (sym k ∙ ap (λ (x : Bool). x || not (nat_eq e 0)) a ∙ b))
  ]
]

rest_none : (g : Bool) (t e W : ℕ) → g ≡ nat_lt 0 t → (g || not (nat_eq e 0)) ≡ false → e * W + t ≡ 0
rest_none g t e W h k = elim (eq-zero-or-pos t) [
  | inr p ↦
      let a : g ≡ true = h ∙ lt-ltb 0 t p in
      absurd (true≢false (ap (λ (x : Bool). x || not (nat_eq e 0)) (sym a) ∙ k))
  | inl z ↦ elim (eq-zero-or-pos e) [
    | inr p ↦
        let a : g ≡ false = h ∙ le-ltb 0 t (omega (arith, z)) in
        let b : not (nat_eq e 0) ≡ true = ap not (ne_eqb e 0 (λ y. absurd (omega (arith, y, p)))) in
        absurd (true≢false (sym b ∙ ap (λ (x : Bool). x || not (nat_eq e 0)) (sym a) ∙ k))
    | inl y ↦ let m : e * W ≡ 0 = ap (λ (x : ℕ). x * W) y ∙ (let q : 0 * W ≡ 0 = omega arith in q) in omega (arith, m, z)
  ]
]

-- ---- all of it

pub cut_is : (f : Format) (r : Ratio) (e : Magnitude) (s : Shape) (k d : ℕ) (more : Bool) → IsShape f s → Encloses r e → IsWide e
    → s.digits < 54
    → k ≡ 128 - count_leading_zeros 128 e.digits + e.place - (s.digits + s.lowest) → d ≡ min (k + s.lowest - e.place - 1) 127
    → more ≡ (e.goes_on || not (nat_eq (e.digits % 2 ^ d) 0))
    → IsCut f r (record { pattern = k * s.hidden + e.digits / 2 ^ d / 2; half = nat_eq (e.digits / 2 ^ d % 2) 1; more = more })
cut_is f r e s k d more h g w p a b m =
    let D = e.digits in
    let i = e.place in
    let L = s.lowest in
    let c = r.denominator in
    let n = r.numerator * 2 ^ low f in
    let z = size_of D w.wide w.narrow in
    let q = k + L - i - 1 in
    let above : i + 1 ≤ k + L = above_place D i s.digits L k w.wide w.narrow p a in
    let x : n * 2 ^ L ≡ r.numerator * 2 ^ 4096 =
    let y : 2 ^ (low f + L) ≡ 2 ^ low f * 2 ^ L = pow-add 2 (low f) L in
    let v : low f + L ≡ 4096 = let u : L + low f ≡ 4096 = h.lowest in omega (arith, u) in
    (let u : n * 2 ^ L ≡ r.numerator * (2 ^ low f * 2 ^ L) = omega arith in u) ∙ ap (λ (u : ℕ). r.numerator * u) (sym y)
    ∙ ap (λ (u : ℕ). r.numerator * 2 ^ u) v
    in
    let W = c * 2 ^ i in
    let wp : 0 < W = mul-pos g.nonzero (pow_pos i) in
    let whole : D ≡ n * 2 ^ L / W = g.whole ∙ ap (λ (u : ℕ). u / W) (sym x) in
    let kd : dropped f r ≡ k =
    drops n c L i z.0 D (prec f) g.nonzero whole z.1.reaches z.1.below
    ∙ ap (λ (u : ℕ). suc z.0 + i - (u + L)) (sym h.digits)
    ∙ ap (λ (u : ℕ). u + i - (s.digits + L)) (sym z.1.size)
    ∙ sym a
    in
    let T = c * 2 ^ k in
    let tp : 0 < T = mul-pos g.nonzero (pow_pos k) in
    let ts : T * 2 ^ L ≡ W * (2 * 2 ^ q) =
    let y : 2 ^ (k + L) ≡ 2 ^ k * 2 ^ L = pow-add 2 k L in
    let v : 2 ^ (i + suc q) ≡ 2 ^ i * 2 ^ suc q = pow-add 2 i (suc q) in
    let o : 2 ^ suc q ≡ 2 * 2 ^ q = pow-succ' 2 q in
    let u : k + L ≡ i + suc q = omega (arith, above) in
    let t : 2 ^ k * 2 ^ L ≡ 2 ^ i * (2 * 2 ^ q) = sym y ∙ ap (λ (j : ℕ). 2 ^ j) u ∙ v ∙ ap (λ (j : ℕ). 2 ^ i * j) o in
    (let j : T * 2 ^ L ≡ c * (2 ^ k * 2 ^ L) = omega arith in j) ∙ ap (λ (j : ℕ). c * j) t
    ∙ (let j : c * (2 ^ i * (2 * 2 ^ q)) ≡ W * (2 * 2 ^ q) = omega arith in j)
    in
    let t = n * 2 ^ L % W in
    let split : D * W + t ≡ n * 2 ^ L = ap (λ (u : ℕ). u * W + t) whole ∙ div-add-mod' (n * 2 ^ L) W in
    let H =
    halved_at (n * 2 ^ L) W (2 ^ q) D t (D / 2 ^ q) (D % 2 ^ q) (D / 2 ^ q / 2) (D / 2 ^ q % 2) (pow_pos q) split
    (mod_below (n * 2 ^ L) W wp)
    (div-add-mod' D (2 ^ q)) (mod_below D (2 ^ q) (pow_pos q)) (div-add-mod' (D / 2 ^ q) 2) (mod_below (D / 2 ^ q) 2 (omega arith))
    in
    let R = scaled_down n T (2 ^ L) (n * 2 ^ L) W (2 ^ q) (D / 2 ^ q / 2) (D / 2 ^ q % 2) (D % 2 ^ q * W + t) tp (pow_pos L) refl ts H in
    let far = far_cut D q w.narrow in
    let fq : D / 2 ^ d ≡ D / 2 ^ q = ap (λ (u : ℕ). D / 2 ^ u) b ∙ far.0 in
    let fr : D % 2 ^ d ≡ D % 2 ^ q = ap (λ (u : ℕ). D % 2 ^ u) b ∙ far.1 in
    let half = nat_eq (D / 2 ^ d % 2) 1 in
    let bit : D / 2 ^ d % 2 ≡ D / 2 ^ q % 2 = ap (λ (u : ℕ). u % 2) fq in
    let goes : e.goes_on ≡ nat_lt 0 t = g.rest ∙ ap (λ (u : ℕ). nat_lt 0 (u % W)) (sym x) in
    let mm : more ≡ (e.goes_on || not (nat_eq (D % 2 ^ q) 0)) = m ∙ ap (λ (u : ℕ). e.goes_on || not (nat_eq u 0)) fr in
    let K = tests half more (n % T) T (2 ^ L) (D / 2 ^ q % 2) (D % 2 ^ q * W + t) tp (pow_pos L) R.rest R.low
    (λ u. sym bit ∙ eqb-true (D / 2 ^ d % 2) 1 u)
    (λ u. let v : D / 2 ^ d % 2 ≡ 1 → ⊥ = eqb-false (D / 2 ^ d % 2) 1 u in
    let y : D / 2 ^ d % 2 < 2 = mod_below (D / 2 ^ d) 2 (omega arith) in
    sym bit ∙ (elim (eq-zero-or-pos (D / 2 ^ d % 2)) [ inl o ↦ o | inr o ↦ absurd (v (omega (arith, o, y))) ]))
    (λ u. rest_there e.goes_on t (D % 2 ^ q) W wp goes (sym mm ∙ u))
    (λ u. rest_none e.goes_on t (D % 2 ^ q) W goes (sym mm ∙ u))
    in
    let st : T ≡ step f r = ap (λ (u : ℕ). c * 2 ^ u) (sym kd) in
    let rt : n % T ≡ rest f r = ap (λ (u : ℕ). n % u) st in
    record {
      pattern =
          ap (λ (u : ℕ). k * u + D / 2 ^ d / 2) h.hidden
          ∙ ap (λ (u : ℕ). k * hid f + u / 2) fq
          ∙ ap (λ (u : ℕ). k * hid f + u) (sym R.quotient ∙ ap (λ (u : ℕ). n / u) st)
          ∙ ap (λ (u : ℕ). u * hid f + n / step f r) (sym kd);
      half = K.half ∙ ap (λ (u : ℕ). nat_le u (n % T * 2)) st ∙ ap (λ (u : ℕ). nat_le (step f r) (u * 2)) rt;
      tie = K.tie ∙ ap (λ (u : ℕ). nat_eq (n % T * 2) u) st ∙ ap (λ (u : ℕ). nat_eq (u * 2) (step f r)) rt;
      above = K.above ∙ ap (λ (u : ℕ). nat_lt u (n % T * 2)) st ∙ ap (λ (u : ℕ). nat_lt (step f r) (u * 2)) rt;
      inexact = K.inexact ∙ ap (λ (u : ℕ). nat_lt 0 u) rt;
    }
