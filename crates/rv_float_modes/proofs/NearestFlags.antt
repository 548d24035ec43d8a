-- To the nearest, ties to even, the flags of a rounding are those of `rv_float_flags`.
use Rattle.std.proofs.Common.{◌≡◌, ℕ, zero, suc, ◌+◌, ◌-◌, ◌*◌, ◌/◌, ◌%◌, ◌^◌, ◌<◌, ◌≤◌, Bool, true, false, cond, not, ◌&&◌, ◌||◌, nat_eq}
use Rattle.std.proofs.Common.{nat_lt, sym, ap, ◌∙◌, subst, refl, arith, inl, inr, ◌⊎◌}
use Rattle.std.proofs.Math.Dec.{compare_is_eq, is_le}
use Rattle.std.proofs.Math.Nat.{div-add-mod', eq-zero-or-pos, mul-le-mul_right, mul-mod_left, mul-pos}
use Rattle.std.proofs.lemmas.Bool.{cases_lt, eq-eqb, le-leb, le-ltb, lt-leb, lt-ltb, ne_eqb}
use Rattle.std.proofs.lemmas.Nat.{pow_pos}
use Rattle.std.proofs.Math.Pow.{pow_mono}
use Rattle.std.specs.Float.{float_is_finite, float_is_infinite}
use Rattle.rv_floats.specs.declared.rounding.Rounding.TheVariants.{NearestEven}
use Rattle.rv_float_flags.specs.Exact.{Ratio, is_exactly, is_inexact, is_tiny, overflows, rounded, rounded_times}
use Rattle.rv_float_flags.specs.Flags.{rounding_flags}
use Rattle.rv_float_flags.specs.declared.flags.Flags.{Flags}
use Rattle.rv_float_flags.proofs.Numbers.{eq_times, same_lt}
use Rattle.rv_float_flags.proofs.Tiny.{tiny_quarters}
use Rattle.rv_float_modes.specs.Modes.{dropped, infinity, is_inexact_in, is_tiny_in, overflows_in, rest, rounding_flags_in, step, twice}
use Rattle.rv_float_modes.specs.Modes.{unbounded}
use Rattle.rv_float_modes.proofs.Cuts.{size_at_least}
use Rattle.rv_float_modes.proofs.Exactly.{zero_rest, zero_unbounded}
use Rattle.rv_float_modes.proofs.Nearest.{choose, emax_pos, hid_even, in_range, kept_at_least, kept_at_most, nearest_is, out_of_range}
use Rattle.rv_float_modes.proofs.Nearest.{prec_pos, refuse, top_exponent, units_is}
use Prim.Native.Nat.{compare, Ordering}
use lib.Dec.{T, eqb→eq, nleb→lt}
use lib.Ieee.{Float, Format, inf, binary32, binary64, emax, hid, low, nearest, odd, prec, size, units}
use lib.Ieee.Exact.{HasValue, odd_sign}
use lib.Ieee.Fits.{round_is}
use lib.Ieee.Positive.{den, den_pos, num, value→cross}
use lib.Ieee.Scale.{grid}

-- ---- what is kept of the digits

pub kept_of : Format → Ratio → ℕ
kept_of f r = nearest (r.numerator * 2 ^ low f / step f r) (compare (r.numerator * 2 ^ low f % step f r * 2) (step f r))

pattern_is : (f : Format) (r : Ratio) → unbounded NearestEven false f r ≡ dropped f r * hid f + kept_of f r
unfolding kept_of
pattern_is f r =
    nearest_is (dropped f r) (hid f) (r.numerator * 2 ^ low f / step f r) (r.numerator * 2 ^ low f % step f r * 2) (step f r) (hid_even f)

at_most : (f : Format) (r : Ratio) → kept_of f r ≤ 2 ^ prec f
unfolding kept_of
at_most f r = kept_at_most (prec f) (r.numerator * 2 ^ low f) r.denominator (dropped f r) refl

at_least : (f : Format) (r : Ratio) → 0 < dropped f r → 2 ^ (prec f - 1) ≤ kept_of f r
unfolding kept_of
at_least f r h = kept_at_least (prec f) (r.numerator * 2 ^ low f) r.denominator (dropped f r) (prec_pos f) refl h

result_is : (f : Format) (r : Ratio) → rounded f r ≡ units f false (kept_of f r) (dropped f r)
unfolding kept_of
result_is f r = round_is f false r.numerator r.denominator

grid_is : (f : Format) (r : Ratio) → grid f r.numerator r.denominator ≡ kept_of f r * 2 ^ dropped f r
unfolding kept_of
grid_is f r = refl

-- ---- overflow

never_infinite : (d : ℕ) (s : Bool) (q k l : ℕ) → float_is_infinite (odd d s q k l) ≡ false
unfolding odd float_is_infinite
never_infinite d s zero k l = refl
never_infinite d s (suc q) k l = refl

always_finite : (d : ℕ) (s : Bool) (q k l : ℕ) → float_is_finite (odd d s q k l) ≡ true
unfolding odd float_is_finite
always_finite d s zero k l = refl
always_finite d s (suc q) k l = refl

infinite : float_is_infinite (inf false) ≡ true
unfolding float_is_infinite
infinite = refl

not_finite : float_is_finite (inf false) ≡ false
unfolding float_is_finite
not_finite = refl

-- where a result is in range, and where it is not
record Finite (f : Format) (r : Ratio) : Type 0 where
  pub value : rounded f r ≡ odd (suc (prec f)) false (kept_of f r) (dropped f r) (low f)
  pub over : overflows_in NearestEven false f r ≡ false

record Infinite (f : Format) (r : Ratio) : Type 0 where
  pub value : rounded f r ≡ inf false
  pub over : overflows_in NearestEven false f r ≡ true

in_or_out : (f : Format) (r : Ratio) → Finite f r ⊎ Infinite f r
in_or_out f r =
    let q = kept_of f r in
    let k = dropped f r in
    let top = low f + suc (emax f) in
    let e : 2 ^ top ≡ 2 ^ (prec f - 1 + 2 * emax f) = ap (λ (z : ℕ). 2 ^ z) (top_exponent f) in
    let p : unbounded NearestEven false f r ≡ k * hid f + q = pattern_is f r in
    let v : rounded f r ≡ cond (nat_lt (q * 2 ^ k) (2 ^ top)) (odd (suc (prec f)) false q k (low f)) (inf false) =
    result_is f r ∙ units_is f q k in
    elim (cases_lt (q * 2 ^ k) (2 ^ top)) [
      | inl l ↦
          let i : k * hid f + q < infinity f =
          in_range (prec f) (emax f) q k (prec_pos f) (emax_pos f) (at_most f r) (at_least f r) (omega (arith, l, e)) in
          inl (record {
            value = v ∙ choose _ _ _ (lt-ltb _ _ l);
            over = lt-leb (infinity f) (unbounded NearestEven false f r) (omega (arith, i, p));
          })
      | inr l ↦
          let i : infinity f ≤ k * hid f + q =
          out_of_range (prec f) (emax f) q k (prec_pos f) (emax_pos f) (at_most f r) (at_least f r) (omega (arith, l, e)) in
          inr (record {
            value = v ∙ refuse _ _ _ (le-ltb _ _ l);
            over = le-leb (infinity f) (unbounded NearestEven false f r) (omega (arith, i, p));
          })
    ]

same_overflow : (f : Format) (r : Ratio) → overflows_in NearestEven false f r ≡ overflows f r
same_overflow f r = elim (in_or_out f r) [
  | inl h ↦ h.over ∙ sym (ap float_is_infinite h.value ∙ never_infinite (suc (prec f)) false (kept_of f r) (dropped f r) (low f))
  | inr h ↦ h.over ∙ sym (ap float_is_infinite h.value ∙ infinite)
]

-- ---- inexact

no_rest : (q u : ℕ) → 0 < u → nearest q (compare (0 * 2) u) ≡ q
no_rest q u h = go (compare (0 * 2) u) (nleb→lt (0 * 2) u) (eqb→eq (0 * 2) u)
  where
    go : (o : Ordering) → (T (not (is_le o)) → u < 0 * 2) → (T (compare_is_eq o) → 0 * 2 ≡ u) → nearest q o ≡ q
    go Ordering.lt k e = refl
    go Ordering.eq k e = let f : 0 * 2 ≡ u = e tt in absurd (omega (arith, f, h))
    go Ordering.gt k e = let f : u < 0 * 2 = k tt in absurd (omega (arith, f, h))

exact_test : (n u : ℕ) → 0 < u → nat_eq (nearest (n / u) (compare (n % u * 2) u) * u) n ≡ not (nat_lt 0 (n % u))
exact_test n u h =
    let q = nearest (n / u) (compare (n % u * 2) u) in
    elim (eq-zero-or-pos (n % u)) [
      | inl z ↦
          let a : q ≡ n / u = ap (λ (x : ℕ). nearest (n / u) (compare (x * 2) u)) z ∙ no_rest (n / u) u h in
          let b : q * u ≡ n =
          ap (λ (x : ℕ). x * u) a
          ∙ (let y : n / u * u + n % u ≡ n = div-add-mod' n u in let x : n / u * u ≡ n = omega (arith, y, z) in x) in
          eq-eqb (q * u) n b ∙ sym (ap not (le-ltb 0 (n % u) (omega (arith, z))))
      | inr p ↦
          ne_eqb (q * u) n (λ e. let b : n % u ≡ 0 = ap (λ (x : ℕ). x % u) (sym e) ∙ mul-mod_left q u in absurd (omega (arith, b, p)))
          ∙ sym (ap not (lt-ltb 0 (n % u) p))
    ]

kept_exact : (f : Format) (r : Ratio) → 0 < r.denominator
    → nat_eq (kept_of f r * step f r) (r.numerator * 2 ^ low f) ≡ not (nat_lt 0 (rest f r))
unfolding kept_of
kept_exact f r h = exact_test (r.numerator * 2 ^ low f) (step f r) (mul-pos h (pow_pos (dropped f r)))

finite_exact : (f : Format) (r : Ratio) (v : Float) → 0 < r.denominator → v ≡ odd (suc (prec f)) false (kept_of f r) (dropped f r) (low f)
    → nat_eq (num v * r.denominator) (r.numerator * den v) ≡ not (nat_lt 0 (rest f r))
finite_exact f r v h e =
    let q = kept_of f r in
    let k = dropped f r in
    let c = r.denominator in
    let l = 2 ^ low f in
    let x : num v * l ≡ q * 2 ^ k * den v =
    value→cross v (q * 2 ^ k) l (subst (λ (z : Float). HasValue z false (q * 2 ^ k) l) (sym e) (odd_sign (suc (prec f)) false q k (low f)))
    in
    let a : num v * c * l ≡ q * (c * 2 ^ k) * den v = left (num v) c l q (2 ^ k) (den v) x in
    let b : r.numerator * den v * l ≡ r.numerator * l * den v = omega arith in
    eq_times (num v * c) (r.numerator * den v) l (pow_pos (low f))
    ∙ ap (λ (z : ℕ). nat_eq z (r.numerator * den v * l)) a
    ∙ ap (λ (z : ℕ). nat_eq (q * (c * 2 ^ k) * den v) z) b
    ∙ sym (eq_times (q * (c * 2 ^ k)) (r.numerator * l) (den v) (den_pos v))
    ∙ kept_exact f r h
  where
    left : (n c l q p d : ℕ) → n * l ≡ q * p * d → n * c * l ≡ q * (c * p) * d
    left n c l q p d e = omega (arith, ap (λ (z : ℕ). z * c) e)

not_not : (b : Bool) → not (not b) ≡ b
not_not true = refl
not_not false = refl

or_true : (b : Bool) → (b || true) ≡ true
or_true true = refl
or_true false = refl

or_false : (b : Bool) → (b || false) ≡ b
or_false true = refl
or_false false = refl

and_false : (b : Bool) → (b && false) ≡ false
and_false true = refl
and_false false = refl

same_inexact : (f : Format) (r : Ratio) → 0 < r.denominator → is_inexact_in NearestEven false f r ≡ is_inexact f r
same_inexact f r h = elim (in_or_out f r) [
  | inl g ↦
      let v = rounded f r in
      let fin' : float_is_finite v ≡ true =
      ap float_is_finite g.value ∙ always_finite (suc (prec f)) false (kept_of f r) (dropped f r) (low f) in
      let a : is_exactly v r ≡ not (nat_lt 0 (rest f r)) =
      ap (λ (z : Bool). z && nat_eq (num v * r.denominator) (r.numerator * den v)) fin' ∙ finite_exact f r v h g.value
      in
      ap (λ (z : Bool). nat_lt 0 (rest f r) || z) g.over ∙ or_false (nat_lt 0 (rest f r)) ∙ sym (ap not a ∙ not_not (nat_lt 0 (rest f r)))
  | inr g ↦
      let v = rounded f r in
      let fin' : float_is_finite v ≡ false = ap float_is_finite g.value ∙ not_finite in
      let a : is_exactly v r ≡ false = ap (λ (z : Bool). z && nat_eq (num v * r.denominator) (r.numerator * den v)) fin' in
      ap (λ (z : Bool). nat_lt 0 (rest f r) || z) g.over ∙ or_true (nat_lt 0 (rest f r)) ∙ sym (ap not a)
]

-- ---- tiny

by_grid : (H k q : ℕ) → 0 < H → (0 < k → H ≤ q) → nat_lt (k * H + q) (2 * H) ≡ nat_lt (q * 2 ^ k) (H * 2 ^ 1)
by_grid H k q p g = elim (eq-zero-or-pos k) [
  | inl z ↦
      let a : k * H ≡ 0 = ap (λ (x : ℕ). x * H) z ∙ (let y : 0 * H ≡ 0 = omega arith in y) in
      let b : q * 2 ^ k ≡ q * 1 = ap (λ (x : ℕ). q * 2 ^ x) z in
      same_lt (k * H + q) (2 * H) (q * 2 ^ k) (H * 2 ^ 1) (λ x. omega (arith, x, a, b)) (λ x. omega (arith, x, a, b))
  | inr y ↦
      let h : H ≤ q = g y in
      let a : 1 * H ≤ k * H = mul-le-mul_right H y in
      let b : 2 ^ 1 ≤ 2 ^ k = pow_mono y in
      let c : 2 ^ 1 * q ≤ 2 ^ k * q = mul-le-mul_right q b in
      le-ltb (k * H + q) (2 * H) (omega (arith, a, h)) ∙ sym (le-ltb (q * 2 ^ k) (H * 2 ^ 1) (omega (arith, c, h)))
]

same_tiny : (f : Format) (r : Ratio) → 0 < r.denominator → 0 < r.numerator → is_tiny_in NearestEven false f r ≡ is_tiny f r
same_tiny f r h p =
    let s = twice r in
    let c = r.denominator in
    let t = size c in
    let tp : 0 < t = size_at_least c 0 (omega (arith, h)) in
    let a : is_tiny_in NearestEven false f r ≡ nat_lt (dropped f s * hid f + kept_of f s) (2 * hid f) =
    ap (λ (z : ℕ). nat_lt z (2 * hid f)) (pattern_is f s) in
    let b : nat_lt (dropped f s * hid f + kept_of f s) (2 * hid f) ≡ nat_lt (kept_of f s * 2 ^ dropped f s) (hid f * 2 ^ 1) =
    by_grid (hid f) (dropped f s) (kept_of f s) (pow_pos (prec f - 1)) (at_least f s) in
    let d : nat_lt (kept_of f s * 2 ^ dropped f s) (hid f * 2 ^ 1) ≡ nat_lt (grid f (r.numerator * 2 ^ 1) c) (hid f * 2 ^ 1) =
    ap (λ (z : ℕ). nat_lt z (hid f * 2 ^ 1))
    (sym (grid_is f s) ∙ ap (λ (z : ℕ). grid f z c) (let y : 2 * r.numerator ≡ r.numerator * 2 ^ 1 = omega arith in y))
    in
    a ∙ b ∙ d
    ∙ tiny_quarters f r.numerator c 1 h (omega arith)
    ∙ sym (tiny_quarters f r.numerator c t h tp)
    ∙ sym (ap (λ (z : Bool). z && nat_lt (rounded_times t f r) (2 ^ (prec f - 1) * 2 ^ t)) (lt-ltb 0 r.numerator p))

same_underflow : (f : Format) (r : Ratio) → 0 < r.denominator
    → (is_tiny_in NearestEven false f r && is_inexact_in NearestEven false f r) ≡ (is_tiny f r && is_inexact f r)
same_underflow f r h = elim (eq-zero-or-pos r.numerator) [
  | inr p ↦
      ap (λ (z : Bool). z && is_inexact_in NearestEven false f r) (same_tiny f r h p)
      ∙ ap (λ (z : Bool). is_tiny f r && z) (same_inexact f r h)
  | inl z ↦
      let o : overflows_in NearestEven false f r ≡ false =
      lt-leb (infinity f) (unbounded NearestEven false f r) (omega (arith, zero_unbounded NearestEven false f r z h, some_infinity f)) in
      let x : is_inexact_in NearestEven false f r ≡ false =
      ap (λ (y : Bool). nat_lt 0 (rest f r) || y) o ∙ ap (λ (y : Bool). y || false) (zero_rest f r z h) in
      ap (λ (y : Bool). is_tiny_in NearestEven false f r && y) x
      ∙ and_false (is_tiny_in NearestEven false f r)
      ∙ sym (ap (λ (y : Bool). is_tiny f r && y) (sym (same_inexact f r h) ∙ x) ∙ and_false (is_tiny f r))
]
  where
    some_infinity : (f : Format) → 0 < infinity f
    some_infinity binary32 = omega arith
    some_infinity binary64 = omega arith

-- ---- all of them

flags_of : Bool → Bool → Bool → Flags
flags_of o u n = record { nv = false; dz = false; of = o; uf = u; nx = n }

pub same_flags : (f : Format) (r : Ratio) → 0 < r.denominator → rounding_flags_in NearestEven false f r ≡ rounding_flags f r
unfolding flags_of
same_flags f r h =
    ap (λ (z : Bool). flags_of z (is_tiny_in NearestEven false f r && is_inexact_in NearestEven false f r)
    (is_inexact_in NearestEven false f r)) (same_overflow f r)
    ∙ ap (λ (z : Bool). flags_of (overflows f r) z (is_inexact_in NearestEven false f r)) (same_underflow f r h)
    ∙ ap (λ (z : Bool). flags_of (overflows f r) (is_tiny f r && is_inexact f r) z) (same_inexact f r h)
