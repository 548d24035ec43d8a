-- Magnitudes that are whole numbers of digits at a place, zero among them.
use Rattle.std.proofs.Common.{◌≡◌, ℕ, suc, ◌+◌, ◌-◌, ◌*◌, ◌/◌, ◌%◌, ◌^◌, ◌<◌, ◌≤◌, Bool, true, false, not, ◌&&◌, ◌||◌, if◌then◌else◌}
use Rattle.std.proofs.Common.{nat_eq, nat_lt, sym, ap, ◌∙◌, refl, arith, inl, inr}
use Rattle.std.proofs.Math.Nat.{div-add-mod', mod-eq_of_lt, mul-le-mul_right, mul-lt-mul_of_pos_right, mul-pos, zero-div, zero-mul}
use Rattle.std.proofs.Math.Pow.{pow_mono}
use Rattle.std.proofs.Math.Arith.{digits_div, digits_mod}
use Rattle.std.proofs.lemmas.Bool.{cases_lt, le-ltb, lt-leb}
use Rattle.std.proofs.lemmas.Nat.{leading_top, mod_below, pow-add, pow_pos}
use Rattle.rv_floats.specs.declared.rounding.Rounding.{Rounding}
use Rattle.rv_floats.specs.declared.rounding.Rounding.TheVariants.{NearestEven, TowardZero, Down, Up, NearestAway}
use Rattle.rv_float_flags.specs.Exact.{Ratio}
use Rattle.rv_float_flags.specs.Scaled.{IsFraction}
use Rattle.rv_float_flags.proofs.Numbers.{power_split, same_lt}
use Rattle.rv_float_modes.specs.Enclosed.{Encloses, IsNumber}
use Rattle.rv_float_modes.specs.Modes.{dropped, goes_up, rest, step, truncated, twice, unbounded}
use Rattle.rv_float_modes.specs.declared.magnitude.Magnitude.{Magnitude}
use lib.Count.{count_leading_zeros}
use lib.Ieee.{Format, hid, low, size}
use lib.Ieee.Digits.{size-le}

-- ---- digits moved up as far as there is room for them below 2 ^ 127

pub record Moved (D s : ℕ) : Type 0 where
  pub room : 1 ≤ count_leading_zeros 128 D
  pub little : s ≤ 126
  pub whole : D * 2 ^ s % 2 ^ 128 ≡ D * 2 ^ s
  pub wide : 2 ^ 126 ≤ D * 2 ^ s
  pub narrow : D * 2 ^ s < 2 ^ 127

pub moved : (D : ℕ) → 0 < D → D < 2 ^ 127 → Moved D (count_leading_zeros 128 D - 1)
moved D h l =
    let t = leading_top 128 D h (omega (arith, l)) in
    let j = t.0 in
    let z = count_leading_zeros 128 D in
    let e : z + suc j ≡ 128 = t.1 in
    let few : j < 127 =
    elim (cases_lt j 127) [ inl g ↦ g | inr g ↦ let m : 2 ^ 127 ≤ 2 ^ j = pow_mono g in absurd (omega (arith, m, l, t.2)) ] in
    let s = z - 1 in
    let a : 2 ^ j * 2 ^ s ≤ D * 2 ^ s = mul-le-mul_right (2 ^ s) t.2 in
    let b : D * 2 ^ s < 2 ^ suc j * 2 ^ s = mul-lt-mul_of_pos_right t.3 (pow_pos s) in
    let c : 2 ^ (j + s) ≡ 2 ^ j * 2 ^ s = pow-add 2 j s in
    let d : 2 ^ (suc j + s) ≡ 2 ^ suc j * 2 ^ s = pow-add 2 (suc j) s in
    let f : 2 ^ (j + s) ≡ 2 ^ 126 = ap (λ (x : ℕ). 2 ^ x) (let q : j + s ≡ 126 = omega (arith, e, few) in q) in
    let g : 2 ^ (suc j + s) ≡ 2 ^ 127 = ap (λ (x : ℕ). 2 ^ x) (let q : suc j + s ≡ 127 = omega (arith, e, few) in q) in
    let n : D * 2 ^ s < 2 ^ 127 = omega (arith, b, d, g) in
    record {
      room = omega (arith, e, few);
      little = omega (arith, e);
      whole = mod-eq_of_lt (let q : D * 2 ^ s < 2 ^ 128 = omega (arith, n) in q);
      wide = omega (arith, a, c, f);
      narrow = n;
    }

pub moved_value : (D s i : ℕ) → s ≤ i → D * 2 ^ s * 2 ^ (i - s) ≡ D * 2 ^ i
moved_value D s i h = let e : D * 2 ^ (i - s) * 2 ^ s ≡ D * 2 ^ i = power_split D s i h in omega (arith, e)

-- ---- what encloses them

pub encloses : (r : Ratio) (digits place : ℕ) (e : Magnitude) → IsNumber r digits place → e.digits * 2 ^ e.place ≡ digits * 2 ^ place
    → e.goes_on ≡ false → Encloses r e
encloses r digits place e h v g =
    let W = r.denominator * 2 ^ e.place in
    let w : 0 < W = mul-pos h.nonzero (pow_pos e.place) in
    let x : e.digits * W + 0 ≡ r.numerator * 2 ^ 4096 = omega (arith, h.value, ap (λ (z : ℕ). z * r.denominator) v) in
    let m : r.numerator * 2 ^ 4096 % W ≡ 0 = sym (ap (λ (z : ℕ). z % W) x) ∙ digits_mod e.digits w in
    record {
      nonzero = h.nonzero;
      whole = sym (sym (ap (λ (z : ℕ). z / W) x) ∙ digits_div e.digits w);
      rest = g ∙ sym (le-ltb 0 (r.numerator * 2 ^ 4096 % W) (omega (arith, m)));
    }

-- ---- twice as much

pub twice_encloses : (r : Ratio) (e t : Magnitude) → Encloses r e
    → t ≡ record { digits = e.digits; place = e.place + 1; goes_on = e.goes_on } → Encloses (twice r) t
twice_encloses r e t h q =
    let c = r.denominator in
    let X = r.numerator * 2 ^ 4096 in
    let W = c * 2 ^ e.place in
    let w : 0 < W = mul-pos h.nonzero (pow_pos e.place) in
    let o = X % W in
    let l : o < W = mod_below X W w in
    let s : X / W * W + o ≡ X = div-add-mod' X W in
    let y : 2 ^ (e.place + 1) ≡ 2 ^ e.place * 2 ^ 1 = pow-add 2 e.place 1 in
    let V = c * 2 ^ (e.place + 1) in
    let v : V ≡ 2 * W = ap (λ (z : ℕ). c * z) y ∙ (let z : c * (2 ^ e.place * 2 ^ 1) ≡ 2 * W = omega arith in z) in
    let x : X / W * (2 * W) + 2 * o ≡ 2 * r.numerator * 2 ^ 4096 = omega (arith, s) in
    let k : 2 * o < 2 * W = omega (arith, l) in
    let d : 2 * r.numerator * 2 ^ 4096 / V ≡ X / W =
    ap (λ (z : ℕ). 2 * r.numerator * 2 ^ 4096 / z) v ∙ sym (ap (λ (z : ℕ). z / (2 * W)) x) ∙ digits_div (X / W) k in
    let m : 2 * r.numerator * 2 ^ 4096 % V ≡ 2 * o =
    ap (λ (z : ℕ). 2 * r.numerator * 2 ^ 4096 % z) v ∙ sym (ap (λ (z : ℕ). z % (2 * W)) x) ∙ digits_mod (X / W) k in
    let u = 2 * r.numerator * 2 ^ 4096 in
    record {
      nonzero = h.nonzero;
      whole = ap (λ (z : Magnitude). z.digits) q ∙ h.whole ∙ sym d
          ∙ ap (λ (z : ℕ). u / (c * 2 ^ z)) (sym (ap (λ (z : Magnitude). z.place) q));
      rest =
          ap (λ (z : Magnitude). z.goes_on) q
          ∙ h.rest
          ∙ same_lt 0 o 0 (2 * o) (λ i. omega (arith, i)) (λ i. omega (arith, i))
          ∙ ap (λ (z : ℕ). nat_lt 0 z) (sym m)
          ∙ ap (λ (z : ℕ). nat_lt 0 (u % (c * 2 ^ z))) (sym (ap (λ (z : Magnitude). z.place) q));
    }

-- ---- zero

and_false : (b : Bool) → (b && false) ≡ false
and_false true = refl
and_false false = refl

none_dropped : (f : Format) (r : Ratio) → r.numerator ≡ 0 → dropped f r ≡ 0
none_dropped f r h =
    let a : r.numerator * 2 ^ low f ≡ 0 = ap (λ (z : ℕ). z * 2 ^ low f) h ∙ zero-mul (2 ^ low f) in
    let b : r.numerator * 2 ^ low f / r.denominator ≡ 0 = ap (λ (z : ℕ). z / r.denominator) a ∙ zero-div r.denominator in
    let c : size (r.numerator * 2 ^ low f / r.denominator) ≤ 0 =
    size-le (r.numerator * 2 ^ low f / r.denominator) 0 (let k : r.numerator * 2 ^ low f / r.denominator < 1 = omega (arith, b) in k) in
    omega (arith, c)

no_rest : (f : Format) (r : Ratio) → r.numerator ≡ 0 → 0 < r.denominator → rest f r ≡ 0
no_rest f r h p =
    let a : r.numerator * 2 ^ low f ≡ 0 = ap (λ (z : ℕ). z * 2 ^ low f) h ∙ zero-mul (2 ^ low f) in
    ap (λ (z : ℕ). z % step f r) a ∙ mod-eq_of_lt (mul-pos p (pow_pos (dropped f r)))

none_truncated : (f : Format) (r : Ratio) → r.numerator ≡ 0 → truncated f r ≡ 0
none_truncated f r h =
    let a : r.numerator * 2 ^ low f ≡ 0 = ap (λ (z : ℕ). z * 2 ^ low f) h ∙ zero-mul (2 ^ low f) in
    let b : r.numerator * 2 ^ low f / step f r ≡ 0 = ap (λ (z : ℕ). z / step f r) a ∙ zero-div (step f r) in
    let c : dropped f r * hid f ≡ 0 = ap (λ (z : ℕ). z * hid f) (none_dropped f r h) ∙ zero-mul (hid f) in
    omega (arith, b, c)

stays : (mode : Rounding) (negative : Bool) (t : ℕ) → 0 < t → goes_up mode negative false 0 t ≡ false
stays NearestEven negative t h =
    ap (λ (z : Bool). z || (nat_eq (0 * 2) t && false)) (le-ltb t (0 * 2) (omega arith)) ∙ and_false (nat_eq (0 * 2) t)
stays TowardZero negative t h = refl
stays Down negative t h = and_false negative
stays Up negative t h = and_false (not negative)
stays NearestAway negative t h = lt-leb t (0 * 2) (omega (arith, h))

pub zero_unbounded : (mode : Rounding) (negative : Bool) (f : Format) (r : Ratio) → r.numerator ≡ 0 → 0 < r.denominator
    → unbounded mode negative f r ≡ 0
zero_unbounded mode negative f r h p =
    let a : truncated f r ≡ 0 = none_truncated f r h in
    let s : 0 < step f r = mul-pos p (pow_pos (dropped f r)) in
    ap (λ (z : ℕ). if goes_up mode negative (nat_eq (z % 2) 1) (rest f r) (step f r) then z + 1 else z) a
    ∙ ap (λ (z : ℕ). if goes_up mode negative false z (step f r) then 1 else 0) (no_rest f r h p)
    ∙ ap (λ (z : Bool). if z then 1 else 0) (stays mode negative (step f r) s)

pub zero_rest : (f : Format) (r : Ratio) → r.numerator ≡ 0 → 0 < r.denominator → nat_lt 0 (rest f r) ≡ false
zero_rest f r h p = le-ltb 0 (rest f r) (let k : rest f r ≡ 0 = no_rest f r h p in omega (arith, k))

-- ---- from multiples of 2 ^ -2148

pub number_of_fraction : (r : Ratio) (n digits place : ℕ) → IsFraction r n 1 → n ≡ digits * 2 ^ place → IsNumber r digits (place + 1948)
number_of_fraction r n digits place h e =
    let a : 2 ^ (2148 + 1948) ≡ 2 ^ 2148 * 2 ^ 1948 = pow-add 2 2148 1948 in
    let b : 2 ^ (place + 1948) ≡ 2 ^ place * 2 ^ 1948 = pow-add 2 place 1948 in
    let c : r.numerator * (2 ^ 2148 * 2 ^ 1948) ≡ n * 2 ^ 1948 * r.denominator =
    times (r.numerator) (2 ^ 2148) n r.denominator (2 ^ 1948) h.value in
    record {
      nonzero = h.nonzero;
      value =
          ap (λ (z : ℕ). r.numerator * z) a
          ∙ c
          ∙ ap (λ (z : ℕ). z * 2 ^ 1948 * r.denominator) e
          ∙ sym (ap (λ (z : ℕ). digits * z * r.denominator) b ∙ regroup digits (2 ^ place) (2 ^ 1948) r.denominator);
    }
  where
    times : (a u n c v : ℕ) → a * u * 1 ≡ n * c → a * (u * v) ≡ n * v * c
    times a u n c v e = omega (arith, ap (λ (z : ℕ). z * v) e)

    regroup : (d p v c : ℕ) → d * (p * v) * c ≡ d * p * v * c
    regroup d p v c = omega arith

-- ---- whole numbers

pub whole_number : (r : Ratio) (n m : ℕ) → r ≡ record { numerator = n; denominator = 1 } → m ≡ n → IsNumber r m 4096
whole_number r n m e h =
    let a : r.numerator ≡ m = ap (λ (z : Ratio). z.numerator) e ∙ sym h in
    let b : r.denominator ≡ 1 = ap (λ (z : Ratio). z.denominator) e in
    record {
      nonzero = omega (arith, b);
      value = ap (λ (z : ℕ). z * 2 ^ 4096) a ∙ (let k : m * 2 ^ 4096 ≡ m * 2 ^ 4096 * 1 = omega arith in k)
          ∙ ap (λ (z : ℕ). m * 2 ^ 4096 * z) (sym b);
    }
