-- Conversions to words toward zero: the whole part, where a word has that.
use Rattle.std.proofs.Common.{◌≡◌, ℕ, zero, suc, ◌+◌, ◌-◌, ◌*◌, ◌/◌, ◌%◌, ◌^◌, ◌<◌, ◌≤◌, Bool, true, false, cond, not, ◌&&◌, ◌||◌, sym, ap}
use Rattle.std.proofs.Common.{◌∙◌, subst, refl, arith, min}
use Rattle.std.proofs.Math.Nat.{div-lt_iff_lt-mul, le-div_iff_mul-le, mul-le-mul_right}
use Rattle.std.proofs.lemmas.Bool.{eq-eqb, lt-ltb, true≢false}
use Rattle.std.specs.Float.{float_is_finite, is_sign_negative, round_with, trunc}
use Rattle.rv_floats.specs.declared.rounding.Rounding.TheVariants.{TowardZero}
use Rattle.rv_float_flags.specs.Conversions.{is_signed_word, is_unsigned_word}
use Rattle.rv_float_flags.specs.Flags.{accrued, inexact_if, invalid}
use Rattle.rv_float_flags.specs.declared.flags.Flags.{Flags}
use Rattle.rv_float_flags.proofs.FiniteResults.{nothing}
use Rattle.rv_float_flags.proofs.Roundings.{raised_beside}
use Rattle.rv_float_tables.specs.declared.instr.WordKind.{WordKind}
use Rattle.rv_float_tables.specs.declared.instr.WordKind.TheVariants.{Signed, Unsigned}
use Rattle.float_unit.specs.Values.{complement, flags_of_word, word}
use Rattle.float_unit.specs.Whole.{IsCut, pattern}
use mathlib.Core.Bool.{beq}
use lib.IntN.{ℤ, pos, neg_ℤ}
use lib.Ieee.{Float, Format, nan, inf, fin, down, eq, is_nan, le, lt, of_bits, prec, round, to_signed, to_unsigned, up}
use lib.Ieee.Back.{round_whole}
use lib.Ieee.Exact.{HasValue}
use lib.Ieee.Fits.{down_pos}
use lib.Ieee.Positive.{den, num}

-- ---- a whole part

floor_is : (a c n : ℕ) → 0 < c → n * c ≤ a → a < (n + 1) * c → a / c ≡ n
floor_is a c n C l m =
    let p : n ≤ a / c = (le-div_iff_mul-le C).1 l in
    let q : a / c < n + 1 = (div-lt_iff_lt-mul C).1 m in
    omega (arith, p, q)

trunc_is : (f : Format) (x : Float) (n : ℕ) → IsCut x n → trunc f x ≡ round f (is_sign_negative x) n 1
unfolding round_with float_is_finite is_sign_negative
trunc_is f nan n h = absurd (true≢false (sym h.finite))
trunc_is f (inf s) n h = absurd (true≢false (sym h.finite))
trunc_is f (fin false m e) n h = ap (λ (k : ℕ). round f false k 1) (floor_is _ _ n (down_pos e) h.least h.most)
trunc_is f (fin true m e) n h = ap (λ (k : ℕ). round f true k 1) (floor_is _ _ n (down_pos e) h.least h.most)

trunc_value : (f : Format) (x : Float) (n : ℕ) → IsCut x n → n ≤ 2 ^ prec f → HasValue (trunc f x) (is_sign_negative x) n 1
trunc_value f x n h l =
    subst (λ (y : Float). HasValue y (is_sign_negative x) n 1) (sym (trunc_is f x n h)) (round_whole f (is_sign_negative x) n l)

-- ---- a whole number as a word

-- the whole numbers of a word, by sign and size
abbrev pub IsOf : WordKind → Bool → ℕ → Type 0
IsOf Signed s n = n < 2 ^ 31
IsOf Unsigned s n = (n < 2 ^ 32) × (s ≡ true → n ≡ 0)

size_is : (m : ℕ) (e : ℤ) (n : ℕ) → m * up e * 1 ≡ n * down e → m * up e / down e ≡ n
size_is m e n h =
    let d : 0 < down e = down_pos e in
    floor_is (m * up e) (down e) n d (omega (arith, h)) (omega (arith, h, d))

of_negative : (n : ℕ) → n < 2 ^ 31 → complement (neg_ℤ (pos n)) ≡ (2 ^ 32 - n) % 2 ^ 32
of_negative zero l = refl
of_negative (suc k) l = let e : 2 ^ 32 - 1 - k % 2 ^ 32 ≡ (2 ^ 32 - suc k) % 2 ^ 32 = omega (arith, l) in e

of_positive : (n : ℕ) → n < 2 ^ 32 → complement (pos n) ≡ n
of_positive n l = let e : n % 2 ^ 32 ≡ n = omega (arith, l) in e

signed_is : (y : Float) (s : Bool) (n : ℕ) → HasValue y s n 1 → n < 2 ^ 31 → complement (to_signed 31 y) ≡ pattern s n
unfolding to_signed
signed_is nan s n h l = absurd h
signed_is (inf t) s n h l = absurd h
signed_is (fin true m e) true n h l =
    let c : min (m * up e / down e) (2 ^ 31) ≡ n = omega (arith, size_is m e n h.1, l) in
    ap (λ (k : ℕ). complement (neg_ℤ (pos k))) c ∙ of_negative n l
signed_is (fin true m e) false n h l = absurd (true≢false h.0)
signed_is (fin false m e) true n h l = absurd (true≢false (sym h.0))
signed_is (fin false m e) false n h l =
    let c : min (m * up e / down e) (2 ^ 31 - 1) ≡ n = omega (arith, size_is m e n h.1, l) in
    ap (λ (k : ℕ). complement (pos k)) c ∙ of_positive n (omega (arith, l))

unsigned_is : (y : Float) (s : Bool) (n : ℕ) → HasValue y s n 1 → n < 2 ^ 32 → (s ≡ true → n ≡ 0) → to_unsigned 32 y ≡ pattern s n
unfolding to_unsigned
unsigned_is nan s n h l z = absurd h
unsigned_is (inf t) s n h l z = absurd h
unsigned_is (fin true m e) true n h l z = let e : 0 ≡ (2 ^ 32 - n) % 2 ^ 32 = omega (arith, z refl) in e
unsigned_is (fin true m e) false n h l z = absurd (true≢false h.0)
unsigned_is (fin false m e) true n h l z = absurd (true≢false (sym h.0))
unsigned_is (fin false m e) false n h l z = let c : min (m * up e / down e) (2 ^ 32 - 1) ≡ n = omega (arith, size_is m e n h.1, l) in c

no_nan : (x : Float) → float_is_finite x ≡ true → is_nan x ≡ false
unfolding is_nan float_is_finite
no_nan nan h = absurd (true≢false (sym h))
no_nan (inf s) h = refl
no_nan (fin s m e) h = refl

-- ---- what it raises

both : (a b : Bool) → a ≡ true → b ≡ true → (a && b) ≡ true
both a b h k = ap (λ (x : Bool). x && b) h ∙ k

first : (a b : Bool) → a ≡ true → (a || b) ≡ true
first a b h = ap (λ (x : Bool). x || b) h

is_signed : (y : Float) (s : Bool) (n : ℕ) → HasValue y s n 1 → n < 2 ^ 31 → is_signed_word y ≡ true
unfolding lt le
is_signed nan s n h l = absurd h
is_signed (inf t) s n h l = absurd h
is_signed (fin true m e) s n h l =
    let d : 0 < down e = down_pos e in
    let k : (n + 1) * down e ≤ 2 ^ 31 * down e = mul-le-mul_right (down e) (omega (arith, l)) in
    both _ _ (first _ _ (lt-ltb (m * up e * 1) (1 * 2 ^ 31 * down e) (omega (arith, h.1, d, k))))
    (lt-ltb 0 (m * up e * 1 + 1 * 2 ^ 31 * down e) (omega (arith, d)))
is_signed (fin false m e) s n h l =
    let d : 0 < down e = down_pos e in
    let k : (n + 1) * down e ≤ 2 ^ 31 * down e = mul-le-mul_right (down e) (omega (arith, l)) in
    both _ _ (first _ _ (lt-ltb 0 (1 * 2 ^ 31 * down e + m * up e * 1) (omega (arith, d))))
    (lt-ltb (m * up e * 1) (1 * 2 ^ 31 * down e) (omega (arith, h.1, d, k)))

is_unsigned : (y : Float) (s : Bool) (n : ℕ) → HasValue y s n 1 → n < 2 ^ 32 → (s ≡ true → n ≡ 0) → is_unsigned_word y ≡ true
unfolding lt
is_unsigned nan s n h l z = absurd h
is_unsigned (inf t) s n h l z = absurd h
is_unsigned (fin true m e) s n h l z =
    let d : 0 < down e = down_pos e in
    let none : n * down e ≡ 0 * down e = ap (λ (k : ℕ). k * down e) (z (sym h.0)) in
    both _ _ (lt-ltb (m * up e * 1) (1 * 1 * down e) (omega (arith, h.1, d, none)))
    (lt-ltb 0 (m * up e * 1 + 1 * 2 ^ 32 * down e) (omega (arith, d)))
is_unsigned (fin false m e) s n h l z =
    let d : 0 < down e = down_pos e in
    let k : (n + 1) * down e ≤ 2 ^ 32 * down e = mul-le-mul_right (down e) (omega (arith, l)) in
    both _ _ (lt-ltb 0 (1 * 1 * down e + m * up e * 1) (omega (arith, d)))
    (lt-ltb (m * up e * 1) (1 * 2 ^ 32 * down e) (omega (arith, h.1, d, k)))

same_sign : (s : Bool) → beq s s ≡ true
same_sign true = refl
same_sign false = refl

same_value : (y x : Float) (n : ℕ) → HasValue y (is_sign_negative x) n 1 → float_is_finite x ≡ true → n * den x ≡ num x → eq y x ≡ true
unfolding eq float_is_finite is_sign_negative
same_value nan x n h k e = absurd h
same_value (inf t) x n h k e = absurd h
same_value (fin t m i) nan n h k e = absurd (true≢false (sym k))
same_value (fin t m i) (inf s) n h k e = absurd (true≢false (sym k))
same_value (fin t m i) (fin s l j) n h k e =
    let a : m * up i * down j ≡ l * up j * down i =
    let p : m * up i * down j ≡ n * down i * down j = omega (arith, ap (λ (z : ℕ). z * down j) h.1) in
    omega (arith, p, ap (λ (z : ℕ). z * down i) e)
    in
    both _ _ (eq-eqb _ _ a) (first _ _ (ap (λ (b : Bool). beq b s) h.0 ∙ same_sign s))

-- ---- the conversions

pub word_is : (kind : WordKind) (f : Format) (a n : ℕ) → IsCut (of_bits f a) n → n ≤ 2 ^ prec f
    → IsOf kind (is_sign_negative (of_bits f a)) n
    → word kind TowardZero f a ≡ pattern (is_sign_negative (of_bits f a)) n
word_is Signed f a n h l k =
    let x = of_bits f a in
    ap (λ (b : Bool). complement (cond b (pos (2 ^ 31 - 1)) (to_signed 31 (trunc f x)))) (no_nan x h.finite)
    ∙ signed_is (trunc f x) (is_sign_negative x) n (trunc_value f x n h l) k
word_is Unsigned f a n h l k =
    let x = of_bits f a in
    ap (λ (b : Bool). cond b (2 ^ 32 - 1) (to_unsigned 32 (trunc f x))) (no_nan x h.finite)
    ∙ unsigned_is (trunc f x) (is_sign_negative x) n (trunc_value f x n h l) k.0 k.1

raises : (kind : WordKind) (f : Format) (a n : ℕ) → IsCut (of_bits f a) n → n ≤ 2 ^ prec f → IsOf kind (is_sign_negative (of_bits f a)) n
    → flags_of_word kind TowardZero f a ≡ inexact_if (not (eq (trunc f (of_bits f a)) (of_bits f a)))
raises Signed f a n h l k =
    let x = of_bits f a in
    ap (λ (b : Bool). cond b (inexact_if (not (eq (trunc f x) x))) invalid)
    (is_signed (trunc f x) (is_sign_negative x) n (trunc_value f x n h l) k)
raises Unsigned f a n h l k =
    let x = of_bits f a in
    ap (λ (b : Bool). cond b (inexact_if (not (eq (trunc f x) x))) invalid)
    (is_unsigned (trunc f x) (is_sign_negative x) n (trunc_value f x n h l) k.0 k.1)

there : (g : Flags) (b : Bool) → g.nx ≡ true → accrued g (inexact_if b) ≡ g
there g b h = sym (raised_beside g false false false b h refl refl) ∙ nothing g

pub raised_there : (kind : WordKind) (f : Format) (a n : ℕ) (g : Flags) → IsCut (of_bits f a) n → n ≤ 2 ^ prec f
    → IsOf kind (is_sign_negative (of_bits f a)) n → g.nx ≡ true → accrued g (flags_of_word kind TowardZero f a) ≡ g
raised_there kind f a n g h l k nx = ap (accrued g) (raises kind f a n h l k) ∙ there g _ nx

pub raised_none : (kind : WordKind) (f : Format) (a n : ℕ) (g : Flags) → IsCut (of_bits f a) n → n ≤ 2 ^ prec f
    → IsOf kind (is_sign_negative (of_bits f a)) n → n * den (of_bits f a) ≡ num (of_bits f a)
    → accrued g (flags_of_word kind TowardZero f a) ≡ g
raised_none kind f a n g h l k whole =
    let x = of_bits f a in
    ap (accrued g) (raises kind f a n h l k
    ∙ ap (λ (b : Bool). inexact_if (not b)) (same_value (trunc f x) x n (trunc_value f x n h l) h.finite whole)) ∙ nothing g
