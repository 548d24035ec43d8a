-- Tininess: a fraction n / c, times 2 ^ t and rounded to p digits, lies below 2 ^ (p - 1 + t) where it is below that by a quarter of
-- what the last of p digits counts there, and only then. So t does not matter, as long as it is not 0.
use Rattle.std.proofs.Common.{◌≡◌, ℕ, suc, ◌+◌, ◌-◌, ◌*◌, ◌/◌, ◌%◌, ◌^◌, ◌<◌, ◌≤◌, Bool, nat_lt, sym, ap, ◌∙◌, subst, refl, arith, inl, inr}
use Rattle.std.proofs.Math.Dec.{T, is_le, compare_is_eq, nleb→lt, eqb→eq}
use Rattle.std.proofs.Math.Nat.{div-add-mod', div-div-eq-div-mul, div-lt_iff_lt-mul, le-div_iff_mul-le, le_trans, le_of_eq}
use Rattle.std.proofs.Math.Nat.{lt_of_mul-lt-mul_right, mul-le-mul_right, mul-lt-mul_of_pos_right, mul-pos, pow-succ'}
use Rattle.std.proofs.Math.Pow.{pow_mono}
use Rattle.std.proofs.lemmas.Bool.{cases_lt, cases_order, le-ltb, lt-ltb}
use Rattle.std.proofs.lemmas.Nat.{pow-add, pow_pos}
use Rattle.rv_float_flags.proofs.Numbers.{lt_times, same_lt}
use Prim.Native.Nat.{compare, Ordering}
use mathlib.Core.Bool.{not}
use lib.Ieee.{Format, binary32, binary64, low, nearest, prec, size}
use lib.Ieee.Digits.{size-lt, size_reaches}
use lib.Ieee.Fits.{kept-lt, nearest-le}
use lib.Ieee.Nearest.{closest, closest_mono, nearest-ge}
use lib.Ieee.Order.{drop, kept}
use lib.Ieee.Scale.{grid}

-- ---- the nearest whole number is below an even one

below_half : (q r b : ℕ) → r * 2 < b → nearest q (compare (r * 2) b) ≡ q
below_half q r b h = go (compare (r * 2) b) (nleb→lt (r * 2) b) (eqb→eq (r * 2) b)
  where
    go : (o : Ordering) → (T (not (is_le o)) → b < r * 2) → (T (compare_is_eq o) → r * 2 ≡ b) → nearest q o ≡ q
    go Ordering.lt k e = refl
    go Ordering.eq k e = let f : r * 2 ≡ b = e tt in absurd (omega (arith, f, h))
    go Ordering.gt k e = let f : b < r * 2 = k tt in absurd (omega (arith, f, h))

half_up : (k : ℕ) → k % 2 ≡ 0 → 0 < k → closest (2 * k - 1) 2 ≡ k
half_up k e h =
    let q : (2 * k - 1) / 2 ≡ k - 1 = omega arith in
    let r : (2 * k - 1) % 2 ≡ 1 = omega arith in
    let f : k - 1 + (k - 1) % 2 ≡ k = omega arith in
    ap (λ (x : ℕ). nearest x (compare ((2 * k - 1) % 2 * 2) 2)) q ∙ ap (λ (x : ℕ). nearest (k - 1) (compare (x * 2) 2)) r ∙ f

at_least : (a b k : ℕ) → k % 2 ≡ 0 → 0 < k → 0 < b → (2 * k - 1) * b ≤ a * 2 → k ≤ closest a b
at_least a b k e h B l = le_trans (le_of_eq (sym (half_up k e h))) (closest_mono (2 * k - 1) 2 a b (omega arith) B l)

two_less : (k b : ℕ) → 0 < k → (2 * k - 1) * b + b ≡ k * b * 2
two_less k b h = let e : 2 * k - 1 + 1 ≡ 2 * k = omega arith in omega (arith, ap (λ (x : ℕ). x * b) e)

under : (a b k : ℕ) → 0 < k → 0 < b → a * 2 < (2 * k - 1) * b → closest a b < k
under a b k h B l =
    let q = a / b in
    let r = a % b in
    let e : q * b + r ≡ a = div-add-mod' a b in
    let f : (2 * k - 1) * b + b ≡ k * b * 2 = two_less k b h in
    elim (cases_lt (q + 1) k) [
      | inl m ↦ let g : closest a b ≤ suc q = nearest-le q (compare (r * 2) b) in omega (arith, g, m)
      | inr m ↦
          let w : k * b ≤ (q + 1) * b = mul-le-mul_right b m in
          let s : r * 2 < b = omega (arith, w, e, f, l) in
          let n : closest a b ≡ q = below_half q r b s in
          let v : q * b < k * b = omega (arith, e, f, l, B) in
          let u : q < k = lt_of_mul-lt-mul_right b v in
          omega (arith, n, u)
    ]

-- ---- the kept number has p digits at most, and as many where digits are dropped

kept-le : (p n c : ℕ) → kept p n c ≤ 2 ^ p
kept-le p n c =
    let k = drop p n c in
    let u = c * 2 ^ k in
    let l : n / u < 2 ^ p = subst (λ (x : ℕ). x < 2 ^ p) (div-div-eq-div-mul n c (2 ^ k)) (kept-lt p (n / c)) in
    le_trans (nearest-le (n / u) (compare (n % u * 2) u)) l

kept-ge : (p n c : ℕ) → 0 < p → 0 < drop p n c → 2 ^ (p - 1) ≤ kept p n c
kept-ge p n c P K =
    let k = drop p n c in
    let u = c * 2 ^ k in
    let w = n / c in
    let s : p - 1 + k < size w = omega (arith, P, K) in
    let a : 2 ^ (p - 1) * 2 ^ k ≤ w = le_trans (le_of_eq (sym (pow-add 2 (p - 1) k))) (size_reaches w (p - 1 + k) s) in
    le_trans (subst (λ (x : ℕ). 2 ^ (p - 1) ≤ x) (div-div-eq-div-mul n c (2 ^ k)) ((le-div_iff_mul-le (pow_pos k)).1 a))
    (nearest-ge (n / u) (compare (n % u * 2) u))

-- ---- the three ways in which t may stand to the digits that are dropped

-- left of the test stands what is kept, right of it four times the fraction
abbrev Left : ℕ → ℕ → ℕ → ℕ → Bool
Left p n c t = nat_lt (kept p n c * 2 ^ drop p n c) (2 ^ (p - 1) * 2 ^ t)

abbrev Right : ℕ → ℕ → ℕ → ℕ → Bool
Right p n c t = nat_lt (n * 4) ((2 * 2 ^ p - 1) * c * 2 ^ t)

doubled : (p : ℕ) → 0 < p → 2 * 2 ^ (p - 1) ≡ 2 ^ p
doubled p h = sym (pow-succ' 2 (p - 1)) ∙ ap (λ (x : ℕ). 2 ^ x) (let q : suc (p - 1) ≡ p = omega (arith, h) in q)

-- 2 ^ p - 1 / 2, twice, times q
limit_times : (p q : ℕ) → (2 * 2 ^ p - 1) * q + q ≡ 2 * 2 ^ p * q
limit_times p q = let a : 0 < 2 ^ p = pow_pos p in let e : 2 * 2 ^ p - 1 + 1 ≡ 2 * 2 ^ p = omega (arith, a) in
    omega (arith, ap (λ (x : ℕ). x * q) e)

more_dropped : (p n c t : ℕ) → 0 < p → 0 < c → 0 < t → t ≤ drop p n c → Left p n c t ≡ Right p n c t
more_dropped p n c t P C T l =
    let k = drop p n c in
    let w = n / c in
    let m : 2 ^ t ≤ 2 ^ k = pow_mono l in
    let a : 2 ^ t * 2 ^ (p - 1) ≤ 2 ^ k * 2 ^ (p - 1) = mul-le-mul_right (2 ^ (p - 1)) m in
    let b : 2 ^ (p - 1) * 2 ^ k ≤ kept p n c * 2 ^ k = mul-le-mul_right (2 ^ k) (kept-ge p n c P (omega (arith, l, T))) in
    let s : p - 1 + t < size w = omega (arith, l, P, T) in
    let d : 2 ^ (p - 1) * 2 ^ t ≤ w = le_trans (le_of_eq (sym (pow-add 2 (p - 1) t))) (size_reaches w (p - 1 + t) s) in
    let e : 2 ^ (p - 1) * 2 ^ t * c ≤ n = (le-div_iff_mul-le C).0 d in
    let f : 2 * 2 ^ (p - 1) * (c * 2 ^ t) ≡ 2 ^ p * (c * 2 ^ t) = ap (λ (x : ℕ). x * (c * 2 ^ t)) (doubled p P) in
    le-ltb _ _ (omega (arith, a, b)) ∙ sym (le-ltb _ _ (omega (arith, e, f, limit_times p (c * 2 ^ t))))

fewer_dropped : (p n c t : ℕ) → 0 < p → 0 < c → suc (drop p n c) < t → Left p n c t ≡ Right p n c t
fewer_dropped p n c t P C l =
    let k = drop p n c in
    let w = n / c in
    let m : 2 ^ suc (suc k) ≤ 2 ^ t = pow_mono l in
    let d : 2 ^ suc (suc k) ≡ 2 * (2 * 2 ^ k) = pow-succ' 2 (suc k) ∙ ap (λ (x : ℕ). 2 * x) (pow-succ' 2 k) in
    let a : kept p n c * 2 ^ k ≤ 2 ^ p * 2 ^ k = mul-le-mul_right (2 ^ k) (kept-le p n c) in
    let b : 4 * 2 ^ k * 2 ^ (p - 1) ≤ 2 ^ t * 2 ^ (p - 1) = let x : 4 * 2 ^ k ≤ 2 ^ t = omega (arith, m, d) in
    mul-le-mul_right (2 ^ (p - 1)) x in
    let f : 2 * 2 ^ (p - 1) * 2 ^ k ≡ 2 ^ p * 2 ^ k = ap (λ (x : ℕ). x * 2 ^ k) (doubled p P) in
    let i : 0 < 2 ^ (p - 1) * 2 ^ k = mul-pos (pow_pos (p - 1)) (pow_pos k) in
    let j : 2 ^ p * 2 ^ k * c * 4 ≤ 2 ^ p * (c * 2 ^ t) = let x : 4 * 2 ^ k ≤ 2 ^ t = omega (arith, m, d) in
    omega (arith, mul-le-mul_right (2 ^ p * c) x) in
    let s : w < 2 ^ (p + k) = let x : 2 ^ size w ≤ 2 ^ (p + k) = pow_mono (let y : size w ≤ p + k = omega arith in y) in
    omega (arith, x, size-lt w) in
    let g : n < 2 ^ (p + k) * c = (div-lt_iff_lt-mul C).0 s in
    let h : 2 ^ (p + k) * c ≡ 2 ^ p * 2 ^ k * c = ap (λ (x : ℕ). x * c) (pow-add 2 p k) in
    let v : c * 2 ^ t ≤ 2 ^ p * (c * 2 ^ t) = let x : 1 * (c * 2 ^ t) ≤ 2 ^ p * (c * 2 ^ t) = mul-le-mul_right (c * 2 ^ t) (pow_pos p) in
    omega (arith, x) in
    lt-ltb _ _ (omega (arith, a, b, f, i)) ∙ sym (lt-ltb _ _ (omega (arith, g, h, j, v, limit_times p (c * 2 ^ t))))

as_many_dropped : (p n c t : ℕ) → 0 < p → 0 < c → suc (drop p n c) ≡ t → Left p n c t ≡ Right p n c t
as_many_dropped p n c t P C l =
    let k = drop p n c in
    let u = c * 2 ^ k in
    let U : 0 < u = mul-pos C (pow_pos k) in
    let q = 2 ^ p in
    let e : q % 2 ≡ 0 = let x : 2 * 2 ^ (p - 1) ≡ q = doubled p P in omega (arith, x) in
    let d : 2 ^ t ≡ 2 * 2 ^ k = ap (λ (x : ℕ). 2 ^ x) (sym l) ∙ pow-succ' 2 k in
    let f : 2 * 2 ^ (p - 1) * 2 ^ k ≡ q * 2 ^ k = ap (λ (x : ℕ). x * 2 ^ k) (doubled p P) in
    let g : 2 ^ (p - 1) * 2 ^ t ≡ q * 2 ^ k = let x : 2 ^ (p - 1) * 2 ^ t ≡ 2 ^ (p - 1) * (2 * 2 ^ k) = ap (λ (x : ℕ). 2 ^ (p - 1) * x) d in
    omega (arith, x, f) in
    let h : (2 * q - 1) * c * 2 ^ t ≡ (2 * q - 1) * u * 2 =
    let x : (2 * q - 1) * c * 2 ^ t ≡ (2 * q - 1) * c * (2 * 2 ^ k) = ap (λ (x : ℕ). (2 * q - 1) * c * x) d in omega (arith, x) in
    same_lt _ _ _ _
    (λ x. let y : closest n u < q = lt_of_mul-lt-mul_right (2 ^ k) (let z : closest n u * 2 ^ k < q * 2 ^ k = omega (arith, x, g) in z) in
    elim (cases_lt (n * 2) ((2 * q - 1) * u)) [
      | inl z ↦ omega (arith, z, h)
      | inr z ↦
          absurd (let v : q ≤ closest n u = at_least n u q e (pow_pos p) U z in omega (arith, v, y))
    ])
    (λ x. let y : closest n u < q = under n u q (pow_pos p) U (let z : n * 2 < (2 * q - 1) * u = omega (arith, x, h) in z) in
    let z : closest n u * 2 ^ k < q * 2 ^ k = mul-lt-mul_of_pos_right y (pow_pos k) in omega (arith, z, g))

by_quarters : (p n c t : ℕ) → 0 < p → 0 < c → 0 < t → Left p n c t ≡ Right p n c t
by_quarters p n c t P C T = elim (cases_order (suc (drop p n c)) t) [
  | inl e ↦ as_many_dropped p n c t P C e
  | inr o ↦ elim o [
    | inl l ↦ fewer_dropped p n c t P C l
    | inr l ↦ more_dropped p n c t P C T (omega (arith, l))
  ]
]

prec_pos : (f : Format) → 0 < prec f
prec_pos binary32 = omega arith
prec_pos binary64 = omega arith

-- ---- of a format: the fraction n / c is tiny where it is below (2 ^ (prec + 1) - 1) quarters of the smallest positive value
pub tiny_quarters : (f : Format) (n c t : ℕ) → 0 < c → 0 < t
    → nat_lt (grid f (n * 2 ^ t) c) (2 ^ (prec f - 1) * 2 ^ t) ≡ nat_lt (n * 2 ^ low f * 4) ((2 * 2 ^ prec f - 1) * c)
tiny_quarters f n c t C T =
    let e : n * 2 ^ t * 2 ^ low f * 4 ≡ n * 2 ^ low f * 4 * 2 ^ t = omega arith in
    by_quarters (prec f) (n * 2 ^ t * 2 ^ low f) c t (prec_pos f) C T
    ∙ ap (λ (x : ℕ). nat_lt x ((2 * 2 ^ prec f - 1) * c * 2 ^ t)) e
    ∙ sym (lt_times (n * 2 ^ low f * 4) ((2 * 2 ^ prec f - 1) * c) (2 ^ t) (pow_pos t))
