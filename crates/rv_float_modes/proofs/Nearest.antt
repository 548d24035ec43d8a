-- To the nearest, ties to even, a rounding here is the library's.
use Rattle.std.proofs.Common.{◌≡◌, ℕ, suc, ◌+◌, ◌-◌, ◌*◌, ◌/◌, ◌%◌, ◌^◌, ◌<◌, ◌≤◌, Bool, true, false, cond, not, ◌&&◌, ◌||◌, if◌then◌else◌}
use Rattle.std.proofs.Common.{nat_eq, nat_lt, sym, ap, ◌∙◌, subst, refl, arith, inl, inr}
use Rattle.std.proofs.Math.Dec.{compare_is_eq, is_le}
use Rattle.std.proofs.Math.Nat.{div-div-eq-div-mul, eq-zero-or-pos, le-div_iff_mul-le, le_of_eq, le_of_mul-le-mul_right, le_trans}
use Rattle.std.proofs.Math.Nat.{lt_of_mul-lt-mul_right, mul-div_cancel, mul-le-mul_right, mul-lt-mul_of_pos_right, pow-succ', zero-add}
use Rattle.std.proofs.Math.Pow.{pow_mono}
use Rattle.std.proofs.lemmas.Bool.{cases_lt, eq-eqb, le-ltb, lt-ltb, ne_eqb, true≢false}
use Rattle.std.proofs.lemmas.Nat.{pow-add, pow_pos}
use Rattle.rv_floats.specs.declared.rounding.Rounding.TheVariants.{NearestEven}
use Rattle.rv_float_flags.specs.Exact.{Ratio, rounded}
use Rattle.rv_float_modes.specs.Modes.{bounded, dropped, infinity, rounded_in, step, unbounded}
use Rattle.rv_float_modes.proofs.Cuts.{size_at_least}
use Prim.Native.Nat.{compare, Ordering}
use lib.Dec.{T, eqb→eq, leb→le, nleb→lt}
use lib.Ieee.{Float, Format, nan, inf, fin, binary32, binary64, down, emax, hid, low, nearest, odd, prec, size, to_bits, units, up}
use lib.Ieee.Digits.{size-le, size_reaches}
use lib.Ieee.Exact.{HasValue, odd_sign}
use lib.Ieee.Fits.{down_pos, kept-lt, nearest-le, round_is}
use lib.Ieee.Nearest.{nearest-ge}

-- ---- the nearest

even_parity : (k h q : ℕ) → h % 2 ≡ 0 → (k * h + q) % 2 ≡ q % 2
even_parity k h q e =
    let f : h ≡ 2 * (h / 2) = omega (arith, e) in
    let g : k * h ≡ 2 * (k * (h / 2)) = ap (λ (z : ℕ). k * z) f ∙ (let z : k * (2 * (h / 2)) ≡ 2 * (k * (h / 2)) = omega arith in z) in
    omega (arith, g)

by_tests : (b c o : Bool) (t : ℕ) → b ≡ false → c ≡ false → (if b || (c && o) then t + 1 else t) ≡ t
by_tests b c o t e f = ap (λ (z : Bool). if z || (c && o) then t + 1 else t) e ∙ ap (λ (z : Bool). if z && o then t + 1 else t) f

at_tie : (b c o : Bool) (t : ℕ) → b ≡ false → c ≡ true → (if b || (c && o) then t + 1 else t) ≡ (if o then t + 1 else t)
at_tie b c o t e f = ap (λ (z : Bool). if z || (c && o) then t + 1 else t) e ∙ ap (λ (z : Bool). if z && o then t + 1 else t) f

to_even : (t q : ℕ) → t % 2 ≡ q % 2 → (if nat_eq (t % 2) 1 then t + 1 else t) ≡ t + q % 2
to_even t q e = elim (eq-zero-or-pos (q % 2)) [
  | inl z ↦
      let a : nat_eq (t % 2) 1 ≡ false = ne_eqb (t % 2) 1 (λ y. absurd (omega (arith, y, e, z))) in
      ap (λ (x : Bool). if x then t + 1 else t) a ∙ (let y : t ≡ t + q % 2 = omega (arith, z) in y)
  | inr p ↦
      let a : nat_eq (t % 2) 1 ≡ true = eq-eqb (t % 2) 1 (omega (arith, e, p)) in
      ap (λ (x : Bool). if x then t + 1 else t) a ∙ (let y : t + 1 ≡ t + q % 2 = omega (arith, p) in y)
]

pub nearest_is : (k h q a b : ℕ) → h % 2 ≡ 0
    → (if nat_lt b a || (nat_eq a b && nat_eq ((k * h + q) % 2) 1) then k * h + q + 1 else k * h + q) ≡ k * h + nearest q (compare a b)
nearest_is k h q a b e =
    go (compare a b) (leb→le a b) (nleb→lt a b) (eqb→eq a b) (λ (x : a ≡ b). subst (λ (y : Bool). T y) (sym (eq-eqb a b x)) tt)
  where
    go : (o : Ordering) → (T (is_le o) → a ≤ b) → (T (not (is_le o)) → b < a) → (T (compare_is_eq o) → a ≡ b)
        → (a ≡ b → T (compare_is_eq o))
        → (if nat_lt b a || (nat_eq a b && nat_eq ((k * h + q) % 2) 1) then k * h + q + 1 else k * h + q) ≡ k * h + nearest q o
    go Ordering.lt l m i n = by_tests _ _ _ (k * h + q) (le-ltb b a (l tt)) (ne_eqb a b (λ x. absurd (n x)))
    go Ordering.eq l m i n =
        let x : a ≡ b = i tt in
        at_tie _ _ _ (k * h + q) (le-ltb b a (l tt)) (eq-eqb a b x) ∙ to_even (k * h + q) q (even_parity k h q e)
        ∙ (let y : k * h + q + q % 2 ≡ k * h + (q + q % 2) = omega arith in y)
    go Ordering.gt l m i n =
        ap (λ (z : Bool). if z || (nat_eq a b && nat_eq ((k * h + q) % 2) 1) then k * h + q + 1 else k * h + q) (lt-ltb b a (m tt))
        ∙ (let y : k * h + q + 1 ≡ k * h + suc q = omega arith in y)

-- ---- the pattern of q * 2 ^ k, for a q of P digits where k is not 0, or the next number

doubled : (P : ℕ) → 0 < P → 2 ^ P ≡ 2 * 2 ^ (P - 1)
doubled P h = ap (λ (z : ℕ). 2 ^ z) (let k : P ≡ suc (P - 1) = omega (arith, h) in k) ∙ pow-succ' 2 (P - 1)

short : (P q k : ℕ) → 0 < P → q < 2 ^ P → (0 < k → 2 ^ (P - 1) ≤ q)
    → (size (q * 2 ^ k) - P) * 2 ^ (P - 1) + q * 2 ^ k / 2 ^ (size (q * 2 ^ k) - P) ≡ k * 2 ^ (P - 1) + q
short P q k p h g =
    let n = q * 2 ^ k in
    let a : n < 2 ^ P * 2 ^ k = mul-lt-mul_of_pos_right h (pow_pos k) in
    let b : size n ≤ P + k = size-le n (P + k) (let z : 2 ^ (P + k) ≡ 2 ^ P * 2 ^ k = pow-add 2 P k in omega (arith, a, z)) in
    let d : size n - P ≡ k = elim (eq-zero-or-pos k) [
      | inl z ↦ omega (arith, b, z)
      | inr y ↦
          let c : 2 ^ (P - 1) * 2 ^ k ≤ n = mul-le-mul_right (2 ^ k) (g y) in
          let e : P - 1 + k < size n =
          size_at_least n (P - 1 + k) (let z : 2 ^ (P - 1 + k) ≡ 2 ^ (P - 1) * 2 ^ k = pow-add 2 (P - 1) k in omega (arith, c, z)) in
          omega (arith, b, e, p)
    ] in
    ap (λ (z : ℕ). z * 2 ^ (P - 1) + n / 2 ^ z) d ∙ ap (λ (z : ℕ). k * 2 ^ (P - 1) + z) (mul-div_cancel q (pow_pos k))

long : (P q k : ℕ) → 0 < P → q ≡ 2 ^ P → (size (q * 2 ^ k) - P) * 2 ^ (P - 1) + q * 2 ^ k / 2 ^ (size (q * 2 ^ k) - P) ≡ k * 2 ^ (P - 1) + q
long P q k p h =
    let n = q * 2 ^ k in
    let H = 2 ^ (P - 1) in
    let w : n ≡ 2 ^ (P + k) = ap (λ (z : ℕ). z * 2 ^ k) h ∙ sym (pow-add 2 P k) in
    let u : 2 ^ suc (P + k) ≡ 2 * 2 ^ (P + k) = pow-succ' 2 (P + k) in
    let v : 0 < 2 ^ (P + k) = pow_pos (P + k) in
    let a : size n ≤ suc (P + k) = size-le n (suc (P + k)) (omega (arith, w, u, v)) in
    let b : P + k < size n = size_at_least n (P + k) (omega (arith, w)) in
    let d : size n - P ≡ suc k = omega (arith, a, b) in
    let e : n ≡ H * 2 ^ suc k =
    ap (λ (z : ℕ). z * 2 ^ k) (h ∙ doubled P p) ∙ (let z : 2 * H * 2 ^ k ≡ H * (2 * 2 ^ k) = omega arith in z)
    ∙ ap (λ (z : ℕ). H * z) (sym (pow-succ' 2 k)) in
    let i : n / 2 ^ suc k ≡ H = ap (λ (z : ℕ). z / 2 ^ suc k) e ∙ mul-div_cancel H (pow_pos (suc k)) in
    let j : q ≡ 2 * H = h ∙ doubled P p in
    ap (λ (z : ℕ). z * H + n / 2 ^ z) d ∙ ap (λ (z : ℕ). suc k * H + z) i ∙ (let z : suc k * H + H ≡ k * H + q = omega (arith, j) in z)

by_value : (f : Format) (v : Float) (n : ℕ) → HasValue v false n (2 ^ low f)
    → to_bits f v ≡ (size n - prec f) * hid f + n / 2 ^ (size n - prec f)
unfolding to_bits
by_value f nan n h = absurd h
by_value f (inf s) n h = absurd h
by_value f (fin true m e) n h = absurd (true≢false h.0)
by_value f (fin false m e) n h =
    let a : m * up e * 2 ^ low f / down e ≡ n = ap (λ (z : ℕ). z / down e) h.1 ∙ mul-div_cancel n (down_pos e) in
    ap (λ (z : ℕ). 0 + (size z - prec f) * hid f + z / 2 ^ (size z - prec f)) a
    ∙ ap (λ (z : ℕ). z + n / 2 ^ (size n - prec f)) (zero-add ((size n - prec f) * hid f))

pub prec_pos : (f : Format) → 0 < prec f
prec_pos binary32 = omega arith
prec_pos binary64 = omega arith

finite_bits : (f : Format) (q k : ℕ) → q ≤ 2 ^ prec f → (0 < k → 2 ^ (prec f - 1) ≤ q)
    → to_bits f (odd (suc (prec f)) false q k (low f)) ≡ k * hid f + q
finite_bits f q k h g =
    by_value f (odd (suc (prec f)) false q k (low f)) (q * 2 ^ k) (odd_sign (suc (prec f)) false q k (low f))
    ∙ elim (cases_lt q (2 ^ prec f)) [
      | inl l ↦ short (prec f) q k (prec_pos f) l g
      | inr l ↦ long (prec f) q k (prec_pos f) (let z : q ≡ 2 ^ prec f = omega (arith, l, h) in z)
    ]

-- ---- the infinity

exponents : (a b : ℕ) → 2 ^ a < 2 ^ b → a < b
exponents a b h = elim (cases_lt a b) [ inl l ↦ l | inr l ↦ let m : 2 ^ b ≤ 2 ^ a = pow_mono l in absurd (omega (arith, m, h)) ]

pub in_range : (P E q k : ℕ) → 0 < P → 0 < E → q ≤ 2 ^ P → (0 < k → 2 ^ (P - 1) ≤ q) → q * 2 ^ k < 2 ^ (P - 1 + 2 * E)
    → k * 2 ^ (P - 1) + q < (2 * E + 1) * 2 ^ (P - 1)
in_range P E q k p e h g l =
    let H = 2 ^ (P - 1) in
    let hp : 0 < H = pow_pos (P - 1) in
    let d : 2 ^ P ≡ 2 * H = doubled P p in
    elim (eq-zero-or-pos k) [
      | inl z ↦
          let a : 3 * H ≤ (2 * E + 1) * H = mul-le-mul_right H (let y : 3 ≤ 2 * E + 1 = omega (arith, e) in y) in
          let b : k * H ≡ 0 = ap (λ (x : ℕ). x * H) z ∙ (let y : 0 * H ≡ 0 = omega arith in y) in
          omega (arith, a, b, d, h, hp)
      | inr y ↦
          let a : H * 2 ^ k ≤ q * 2 ^ k = mul-le-mul_right (2 ^ k) (g y) in
          let b : 2 ^ (P - 1 + k) ≡ H * 2 ^ k = pow-add 2 (P - 1) k in
          let c : P - 1 + k < P - 1 + 2 * E = exponents (P - 1 + k) (P - 1 + 2 * E) (omega (arith, a, b, l)) in
          elim (cases_lt (k + 1) (2 * E)) [
            | inl s ↦ let m : (k + 2) * H ≤ 2 * E * H = mul-le-mul_right H (let z : k + 2 ≤ 2 * E = omega (arith, s) in z) in
                omega (arith, m, d, h, hp)
            | inr s ↦
                let i : 2 ^ (P - 1 + 2 * E) ≡ 2 ^ P * 2 ^ k =
                ap (λ (z : ℕ). 2 ^ z) (let z : P - 1 + 2 * E ≡ P + k = omega (arith, s, c, p) in z) ∙ pow-add 2 P k in
                let j : q < 2 ^ P = lt_of_mul-lt-mul_right (2 ^ k) (let z : q * 2 ^ k < 2 ^ P * 2 ^ k = omega (arith, i, l) in z) in
                let m : (2 * E + 1) * H ≡ (k + 2) * H = ap (λ (z : ℕ). z * H) (let z : 2 * E + 1 ≡ k + 2 = omega (arith, s, c) in z) in
                omega (arith, j, d, m)
          ]
    ]

pub out_of_range : (P E q k : ℕ) → 0 < P → 0 < E → q ≤ 2 ^ P → (0 < k → 2 ^ (P - 1) ≤ q) → 2 ^ (P - 1 + 2 * E) ≤ q * 2 ^ k
    → (2 * E + 1) * 2 ^ (P - 1) ≤ k * 2 ^ (P - 1) + q
out_of_range P E q k p e h g l =
    let H = 2 ^ (P - 1) in
    let d : 2 ^ P ≡ 2 * H = doubled P p in
    let a : q * 2 ^ k ≤ 2 ^ P * 2 ^ k = mul-le-mul_right (2 ^ k) h in
    let b : 2 ^ (P + k) ≡ 2 ^ P * 2 ^ k = pow-add 2 P k in
    let u : 2 ^ suc (P + k) ≡ 2 * 2 ^ (P + k) = pow-succ' 2 (P + k) in
    let v : 0 < 2 ^ (P + k) = pow_pos (P + k) in
    let c : P - 1 + 2 * E < suc (P + k) = exponents (P - 1 + 2 * E) (suc (P + k)) (omega (arith, a, b, l, u, v)) in
    elim (cases_lt k (2 * E)) [
      | inl s ↦
          let i : 2 ^ (P - 1 + 2 * E) ≡ 2 ^ P * 2 ^ k =
          ap (λ (z : ℕ). 2 ^ z) (let z : P - 1 + 2 * E ≡ P + k = omega (arith, s, c, p) in z) ∙ pow-add 2 P k in
          let j : 2 ^ P ≤ q = le_of_mul-le-mul_right (let z : 2 ^ P * 2 ^ k ≤ q * 2 ^ k = omega (arith, i, l) in z) (pow_pos k) in
          let m : (2 * E + 1) * H ≡ (k + 2) * H = ap (λ (z : ℕ). z * H) (let z : 2 * E + 1 ≡ k + 2 = omega (arith, s, c, p) in z) in
          omega (arith, j, d, m)
      | inr s ↦
          let i : 2 * E * H ≤ k * H = mul-le-mul_right H s in
          let j : H ≤ q = g (omega (arith, s, e)) in
          omega (arith, i, j)
    ]

pub emax_pos : (f : Format) → 0 < emax f
emax_pos binary32 = omega arith
emax_pos binary64 = omega arith

pub top_exponent : (f : Format) → low f + suc (emax f) ≡ prec f - 1 + 2 * emax f
top_exponent binary32 = refl
top_exponent binary64 = refl

infinite_bits : (f : Format) → to_bits f (inf false) ≡ infinity f
unfolding to_bits
infinite_bits f = zero-add (infinity f)

pub choose : (b : Bool) (x y : Float) → b ≡ true → cond b x y ≡ x
choose b x y h = ap (λ (z : Bool). cond z x y) h

pub refuse : (b : Bool) (x y : Float) → b ≡ false → cond b x y ≡ y
refuse b x y h = ap (λ (z : Bool). cond z x y) h

inside : (b : Bool) (x y : ℕ) → b ≡ true → (if b then x else y) ≡ x
inside b x y h = ap (λ (z : Bool). if z then x else y) h

outside : (b : Bool) (x y : ℕ) → b ≡ false → (if b then x else y) ≡ y
outside b x y h = ap (λ (z : Bool). if z then x else y) h

pub units_is : (f : Format) (q k : ℕ)
    → units f false q k ≡ cond (nat_lt (q * 2 ^ k) (2 ^ (low f + suc (emax f)))) (odd (suc (prec f)) false q k (low f)) (inf false)
unfolding units
units_is f q k = refl

units_bits : (f : Format) (q k : ℕ) → q ≤ 2 ^ prec f → (0 < k → 2 ^ (prec f - 1) ≤ q)
    → to_bits f (units f false q k) ≡ bounded NearestEven false f (k * hid f + q)
units_bits f q k h g =
    let top = low f + suc (emax f) in
    let e : 2 ^ top ≡ 2 ^ (prec f - 1 + 2 * emax f) = ap (λ (z : ℕ). 2 ^ z) (top_exponent f) in
    ap (λ (v : Float). to_bits f v) (units_is f q k)
    ∙ elim (cases_lt (q * 2 ^ k) (2 ^ top)) [
      | inl l ↦
          let i : k * hid f + q < infinity f =
          in_range (prec f) (emax f) q k (prec_pos f) (emax_pos f) h g
          (let z : q * 2 ^ k < 2 ^ (prec f - 1 + 2 * emax f) = omega (arith, l, e) in z) in
          ap (λ (v : Float). to_bits f v) (choose _ (odd (suc (prec f)) false q k (low f)) (inf false) (lt-ltb _ _ l))
          ∙ finite_bits f q k h g
          ∙ sym (inside (nat_lt (k * hid f + q) (infinity f)) (k * hid f + q) (infinity f) (lt-ltb _ _ i))
      | inr l ↦
          let i : infinity f ≤ k * hid f + q =
          out_of_range (prec f) (emax f) q k (prec_pos f) (emax_pos f) h g
          (let z : 2 ^ (prec f - 1 + 2 * emax f) ≤ q * 2 ^ k = omega (arith, l, e) in z) in
          ap (λ (v : Float). to_bits f v) (refuse _ (odd (suc (prec f)) false q k (low f)) (inf false) (le-ltb _ _ l))
          ∙ infinite_bits f
          ∙ sym (outside (nat_lt (k * hid f + q) (infinity f)) (k * hid f + q) (infinity f) (le-ltb _ _ i))
    ]

-- ---- what is kept

pub kept_at_most : (P n c k : ℕ) → k ≡ size (n / c) - P → nearest (n / (c * 2 ^ k)) (compare (n % (c * 2 ^ k) * 2) (c * 2 ^ k)) ≤ 2 ^ P
kept_at_most P n c k e =
    let u = c * 2 ^ k in
    let a : n / c / 2 ^ k < 2 ^ P = subst (λ (z : ℕ). n / c / 2 ^ z < 2 ^ P) (sym e) (kept-lt P (n / c)) in
    let b : n / c / 2 ^ k ≡ n / u = div-div-eq-div-mul n c (2 ^ k) in
    let d : nearest (n / u) (compare (n % u * 2) u) ≤ suc (n / u) = nearest-le (n / u) (compare (n % u * 2) u) in
    omega (arith, a, b, d)

pub kept_at_least : (P n c k : ℕ) → 0 < P → k ≡ size (n / c) - P → 0 < k
    → 2 ^ (P - 1) ≤ nearest (n / (c * 2 ^ k)) (compare (n % (c * 2 ^ k) * 2) (c * 2 ^ k))
kept_at_least P n c k p e h =
    let u = c * 2 ^ k in
    let a : 2 ^ (P - 1) * 2 ^ k ≤ n / c =
    le_trans (le_of_eq (sym (pow-add 2 (P - 1) k))) (size_reaches (n / c) (P - 1 + k) (omega (arith, e, h, p))) in
    let b : 2 ^ (P - 1) ≤ n / c / 2 ^ k = (le-div_iff_mul-le (pow_pos k)).1 a in
    let d : n / c / 2 ^ k ≡ n / u = div-div-eq-div-mul n c (2 ^ k) in
    let i : n / u ≤ nearest (n / u) (compare (n % u * 2) u) = nearest-ge (n / u) (compare (n % u * 2) u) in
    omega (arith, b, d, i)

pub hid_even : (f : Format) → hid f % 2 ≡ 0
hid_even binary32 = refl
hid_even binary64 = refl

pub nearest_even : (f : Format) (r : Ratio) → rounded_in NearestEven false f r ≡ to_bits f (rounded f r)
nearest_even f r =
    let n = r.numerator * 2 ^ low f in
    let c = r.denominator in
    let k = dropped f r in
    let u = step f r in
    let q = nearest (n / u) (compare (n % u * 2) u) in
    let a : unbounded NearestEven false f r ≡ k * hid f + q = nearest_is k (hid f) (n / u) (n % u * 2) u (hid_even f) in
    let b : to_bits f (rounded f r) ≡ bounded NearestEven false f (k * hid f + q) =
    ap (λ (v : Float). to_bits f v) (round_is f false r.numerator c)
    ∙ units_bits f q k (kept_at_most (prec f) n c k refl) (λ h. kept_at_least (prec f) n c k (prec_pos f) refl h)
    in
    zero-add (bounded NearestEven false f (unbounded NearestEven false f r)) ∙ ap (λ (z : ℕ). bounded NearestEven false f z) a ∙ sym b
