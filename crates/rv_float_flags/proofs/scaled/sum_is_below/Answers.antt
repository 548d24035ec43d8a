-- In each branch, the digits at the limit's place, and the rest below it, decide whether the sum or difference is below the limit.
use Rattle.std.proofs.Common.{◌≡◌, ◌-◌, ◌*◌, ◌^◌, ℕ, ap, sym, ◌∙◌, arith}
use Rattle.std.proofs.lemmas.Bool.{lt-ltb, ltb-false, ltb-true}
use Rattle.std.proofs.lemmas.Nat.{pow_pos}
use Rattle.rv_float_flags.specs.Scaled.{amount}
use Rattle.rv_float_flags.proofs.Limits.{far_test, limit_test, lower_test, past_test, sum_test, upper_test}
use Rattle.rv_float_flags.proofs.Numbers.{power_split}
use Rattle.rv_float_flags.proofs.scaled.sum_is_below.Goals as goal

pub returns-then-not-opposite : goal.returns-then-not-opposite
returns-then-not-opposite c =
    let q = 2 ^ c.args.limit.place in
    let e : c.in-Some.digits * q ≡ amount c.args.b =
    ap (λ (z : ℕ). z * q) c.in-Some.ensures.0 ∙ power_split c.args.b.digits c.args.limit.place c.args.b.place c.requires.b_high
    in
    sum_test c.args.opposite (amount c.args.a) (amount c.args.b) q c.cut_at-whole.result.0 c.in-Some.digits c.args.limit.digits
    (pow_pos c.args.limit.place)
    c.cut_at-whole.ensures.whole e c.if-not-opposite.true

pub returns-then-digits-whole : goal.returns-then-digits-whole
returns-then-digits-whole c =
    let q = 2 ^ c.args.limit.place in
    let e : c.in-Some.digits * q ≡ amount c.args.b =
    ap (λ (z : ℕ). z * q) c.in-Some.ensures.0 ∙ power_split c.args.b.digits c.args.limit.place c.args.b.place c.requires.b_high
    in
    upper_test c.args.opposite (amount c.args.a) (amount c.args.b) q c.cut_at-whole.result.0 c.in-Some.digits c.args.limit.digits
    (pow_pos c.args.limit.place)
    c.cut_at-whole.ensures.whole e c.if-not-opposite.false (omega arith)

pub returns-then-digits-whole-2 : goal.returns-then-digits-whole-2
returns-then-digits-whole-2 c =
    let q = 2 ^ c.args.limit.place in
    let e : c.in-Some.digits * q ≡ amount c.args.b =
    ap (λ (z : ℕ). z * q) c.in-Some.ensures.0 ∙ power_split c.args.b.digits c.args.limit.place c.args.b.place c.requires.b_high
    in
    lt-ltb (c.in-Some.digits - c.cut_at-whole.result.0) c.args.limit.digits (omega arith)
    ∙ lower_test c.args.opposite (amount c.args.a) (amount c.args.b) q c.cut_at-whole.result.0 c.in-Some.digits c.args.limit.digits
    (pow_pos c.args.limit.place)
    c.cut_at-whole.ensures.whole e c.if-not-opposite.false (omega arith) (omega arith)

pub returns-then-goes_on : goal.returns-then-goes_on
returns-then-goes_on c =
    let q = 2 ^ c.args.limit.place in
    let e : c.in-Some.digits * q ≡ amount c.args.b =
    ap (λ (z : ℕ). z * q) c.in-Some.ensures.0 ∙ power_split c.args.b.digits c.args.limit.place c.args.b.place c.requires.b_high
    in
    limit_test c.args.opposite (amount c.args.a) (amount c.args.b) q c.cut_at-whole.result.0 c.in-Some.digits c.args.limit.digits
    (pow_pos c.args.limit.place)
    c.cut_at-whole.ensures.whole e c.if-not-opposite.false (omega arith) (omega arith)
    (ltb-true 0 _ (sym c.cut_at-whole.ensures.rest ∙ c.if-goes_on.true))

pub returns-else-goes_on : goal.returns-else-goes_on
returns-else-goes_on c =
    let q = 2 ^ c.args.limit.place in
    let e : c.in-Some.digits * q ≡ amount c.args.b =
    ap (λ (z : ℕ). z * q) c.in-Some.ensures.0 ∙ power_split c.args.b.digits c.args.limit.place c.args.b.place c.requires.b_high
    in
    c.if-goes_on.false
    ∙ past_test c.args.opposite (amount c.args.a) (amount c.args.b) q c.cut_at-whole.result.0 c.in-Some.digits c.args.limit.digits
    (pow_pos c.args.limit.place)
    c.cut_at-whole.ensures.whole e c.if-not-opposite.false (omega arith) (omega arith)
    (let k = ltb-false 0 _ (sym c.cut_at-whole.ensures.rest ∙ c.if-goes_on.false) in omega (arith, k))

pub returns-in-None : goal.returns-in-None
returns-in-None c =
    let q = 2 ^ c.args.limit.place in
    let v = c.args.b.digits * 2 ^ (c.args.b.place - c.args.limit.place) in
    let e : v * q ≡ amount c.args.b = power_split c.args.b.digits c.args.limit.place c.args.b.place c.requires.b_high in
    far_test c.args.opposite (amount c.args.a) (amount c.args.b) q c.cut_at-whole.result.0 v c.args.limit.digits
    (pow_pos c.args.limit.place)
    c.cut_at-whole.ensures.whole e (omega (arith, c.in-None.ensures))
