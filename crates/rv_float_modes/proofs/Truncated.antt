-- The truncated pattern is the largest whose value is not above the magnitude.
use Rattle.std.proofs.Common.{◌≡◌, ℕ, suc, ◌+◌, ◌-◌, ◌*◌, ◌/◌, ◌%◌, ◌^◌, ◌<◌, ◌≤◌, Bool, if◌then◌else◌, nat_lt, sym, ap, ◌∙◌, refl, arith}
use Rattle.std.proofs.Common.{inl, inr}
use Rattle.std.proofs.Math.Nat.{div-add-mod', div-div-eq-div-mul, eq-zero-or-pos, le-div_iff_mul-le, mul-pos, pow-succ'}
use Rattle.std.proofs.Math.Arith.{digits_div, digits_mod}
use Rattle.std.proofs.lemmas.Bool.{cases_lt, le-ltb, lt-ltb}
use Rattle.std.proofs.lemmas.Nat.{mod_below, pow-add, pow_pos}
use Rattle.rv_float_flags.specs.Exact.{Ratio}
use Rattle.rv_float_modes.specs.Modes.{dropped, size_of, step, truncated}
use lib.Ieee.{Format, binary32, binary64, hid, low, prec, size}
use lib.Ieee.Digits.{size_reaches}
use lib.Ieee.Fits.{kept-lt}

low_value : (H p : ℕ) → p < H → (if nat_lt p H then p else (H + p % H) * 2 ^ (p / H - 1)) ≡ p
low_value H p h = ap (λ (z : Bool). if z then p else (H + p % H) * 2 ^ (p / H - 1)) (lt-ltb p H h)

high_value : (H p x t : ℕ) → suc x * H + t ≡ p → t < H → (if nat_lt p H then p else (H + p % H) * 2 ^ (p / H - 1)) ≡ (H + t) * 2 ^ x
high_value H p x t e h =
    let a : p / H ≡ suc x = ap (λ (z : ℕ). z / H) (sym e) ∙ digits_div (suc x) h in
    let b : p % H ≡ t = ap (λ (z : ℕ). z % H) (sym e) ∙ digits_mod (suc x) h in
    ap (λ (z : Bool). if z then p else (H + p % H) * 2 ^ (p / H - 1)) (le-ltb p H (omega (arith, e)))
    ∙ ap (λ (z : ℕ). (H + z) * 2 ^ (p / H - 1)) b
    ∙ ap (λ (z : ℕ). (H + t) * 2 ^ (z - 1)) a
    ∙ ap (λ (z : ℕ). (H + t) * 2 ^ z) (let y : suc x - 1 ≡ x = omega arith in y)

-- q is of as many digits as the format keeps, where k is not 0, or the next number
value_at : (H k q : ℕ) → 0 < H → q ≤ 2 * H → (0 < k → H ≤ q)
    → (if nat_lt (k * H + q) H then k * H + q else (H + (k * H + q) % H) * 2 ^ ((k * H + q) / H - 1)) ≡ q * 2 ^ k
value_at H k q p h g = elim (cases_lt q H) [
  | inl l ↦ elim (eq-zero-or-pos k) [
    | inr y ↦ let a : H ≤ q = g y in absurd (omega (arith, a, l))
    | inl z ↦
        let a : k * H ≡ 0 = ap (λ (x : ℕ). x * H) z ∙ (let y : 0 * H ≡ 0 = omega arith in y) in
        low_value H (k * H + q) (omega (arith, a, l)) ∙ (let y : k * H + q ≡ q * 1 = omega (arith, a) in y)
        ∙ ap (λ (x : ℕ). q * 2 ^ x) (sym z)
  ]
  | inr l ↦ elim (cases_lt q (2 * H)) [
    | inl s ↦
        high_value H (k * H + q) k (q - H) (omega (arith, l)) (omega (arith, l, s))
        ∙ ap (λ (x : ℕ). x * 2 ^ k) (let y : H + (q - H) ≡ q = omega (arith, l) in y)
    | inr s ↦
        let e : q ≡ 2 * H = omega (arith, s, h) in
        high_value H (k * H + q) (suc k) 0 (let y : suc (suc k) * H + 0 ≡ k * H + q = omega (arith, e) in y) p
        ∙ ap (λ (x : ℕ). (H + 0) * x) (pow-succ' 2 k)
        ∙ (let y : (H + 0) * (2 * 2 ^ k) ≡ 2 * H * 2 ^ k = omega arith in y)
        ∙ ap (λ (x : ℕ). x * 2 ^ k) (sym e)
  ]
]

prec_pos : (f : Format) → 0 < prec f
prec_pos binary32 = omega arith
prec_pos binary64 = omega arith

doubled : (P : ℕ) → 0 < P → 2 ^ P ≡ 2 * 2 ^ (P - 1)
doubled P h = ap (λ (z : ℕ). 2 ^ z) (let k : P ≡ suc (P - 1) = omega (arith, h) in k) ∙ pow-succ' 2 (P - 1)

kept_many : (P n c k : ℕ) → 0 < P → k ≡ size (n / c) - P → 0 < k → 2 ^ (P - 1) ≤ n / (c * 2 ^ k)
kept_many P n c k p e h =
    let a : 2 ^ (P - 1 + k) ≤ n / c = size_reaches (n / c) (P - 1 + k) (omega (arith, e, h, p)) in
    let z : 2 ^ (P - 1 + k) ≡ 2 ^ (P - 1) * 2 ^ k = pow-add 2 (P - 1) k in
    let b : 2 ^ (P - 1) ≤ n / c / 2 ^ k =
    (le-div_iff_mul-le (pow_pos k)).1 (let y : 2 ^ (P - 1) * 2 ^ k ≤ n / c = omega (arith, a, z) in y) in
    let d : n / c / 2 ^ k ≡ n / (c * 2 ^ k) = div-div-eq-div-mul n c (2 ^ k) in
    omega (arith, b, d)

pub largest : (f : Format) (r : Ratio) → 0 < r.denominator
    → (size_of f (truncated f r) * r.denominator ≤ r.numerator * 2 ^ low f)
    × (r.numerator * 2 ^ low f < size_of f (truncated f r + 1) * r.denominator)
largest f r h =
    let n = r.numerator * 2 ^ low f in
    let c = r.denominator in
    let k = dropped f r in
    let u = step f r in
    let up : 0 < u = mul-pos h (pow_pos k) in
    let w = n / u in
    let H = hid f in
    let hp : 0 < H = pow_pos (prec f - 1) in
    let d : 2 ^ prec f ≡ 2 * H = doubled (prec f) (prec_pos f) in
    let a : n / c / 2 ^ k < 2 ^ prec f = kept-lt (prec f) (n / c) in
    let b : n / c / 2 ^ k ≡ w = div-div-eq-div-mul n c (2 ^ k) in
    let l : w + 1 ≤ 2 * H = omega (arith, a, b, d) in
    let g : 0 < k → H ≤ w = λ y. kept_many (prec f) n c k (prec_pos f) refl y in
    let e : w * u + n % u ≡ n = div-add-mod' n u in
    let m : n % u < u = mod_below n u up in
    let s : size_of f (truncated f r) ≡ w * 2 ^ k = value_at H k w hp (omega (arith, l)) g in
    let t : size_of f (truncated f r + 1) ≡ (w + 1) * 2 ^ k =
    ap (λ (z : ℕ). size_of f z) (let y : truncated f r + 1 ≡ k * H + (w + 1) = omega arith in y)
    ∙ value_at H k (w + 1) hp l (λ y. let z : H ≤ w = g y in omega (arith, z))
    in
    let x : size_of f (truncated f r) * c ≡ w * u = ap (λ (z : ℕ). z * c) s ∙ (let y : w * 2 ^ k * c ≡ w * u = omega arith in y) in
    let y : size_of f (truncated f r + 1) * c ≡ (w + 1) * u =
    ap (λ (z : ℕ). z * c) t ∙ (let z : (w + 1) * 2 ^ k * c ≡ (w + 1) * u = omega arith in z) in
    (omega (arith, x, e), omega (arith, y, e, m))
