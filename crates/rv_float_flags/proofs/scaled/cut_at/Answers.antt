-- A shift to the left, a shift to the right and a place above all digits: each gives the quotient by 2^place and whether it has a rest.
use Rattle.std.proofs.Common.{◌≡◌, ◌*◌, ◌-◌, ◌%◌, ◌^◌, ◌<◌, ℕ, ap, sym, ◌∙◌, arith, nat_eq, not}
use Rattle.std.proofs.Math.Nat.{mod-eq_of_lt}
use Rattle.std.proofs.lemmas.Bool.{le-ltb}
use Rattle.rv_float_flags.proofs.Shifts.{below_108, cut_above, cut_below, no_digits, one, rest_test}
use Rattle.rv_float_flags.proofs.scaled.cut_at.Goals as goal

pub returns-then-place-a-clause-whole : goal.returns-then-place-a-clause-whole
returns-then-place-a-clause-whole c =
    let n = c.args.a.place - c.args.place in
    let l : c.args.a.digits * 2 ^ n < 2 ^ 108 = below_108 c.args.a.digits n c.requires.narrow (omega arith) in
    let m : c.args.a.digits * 2 ^ n % 2 ^ 128 ≡ c.args.a.digits * 2 ^ n = mod-eq_of_lt (omega (arith, l)) in
    m ∙ (cut_above c.args.a.digits c.args.a.place c.args.place (omega arith)).0

pub returns-then-place-a-clause-rest : goal.returns-then-place-a-clause-rest
returns-then-place-a-clause-rest c =
    let e = (cut_above c.args.a.digits c.args.a.place c.args.place (omega arith)).1 in
    sym (le-ltb 0 _ (omega (arith, e)))

pub returns-then-place-a-clause-bound : goal.returns-then-place-a-clause-bound
returns-then-place-a-clause-bound c =
    let n = c.args.a.place - c.args.place in
    let l : c.args.a.digits * 2 ^ n < 2 ^ 108 = below_108 c.args.a.digits n c.requires.narrow (omega arith) in
    let m : c.args.a.digits * 2 ^ n % 2 ^ 128 ≡ c.args.a.digits * 2 ^ n = mod-eq_of_lt (omega (arith, l)) in
    omega (arith, l, m)

pub returns-then-place-a-lt128-clause-whole : goal.returns-then-place-a-lt128-clause-whole
returns-then-place-a-lt128-clause-whole c = (cut_below c.args.a.digits c.args.a.place c.args.place (omega arith)).0

pub returns-then-place-a-lt128-clause-rest : goal.returns-then-place-a-lt128-clause-rest
returns-then-place-a-lt128-clause-rest c =
    let n = c.args.place - c.args.a.place in
    let o : 1 * 2 ^ n % 2 ^ 128 ≡ 2 ^ n = one n (omega arith) in
    ap (λ (z : ℕ). not (nat_eq (c.args.a.digits % z) 0)) o
    ∙ rest_test (c.args.a.digits % 2 ^ n) _ c.args.a.place (cut_below c.args.a.digits c.args.a.place c.args.place (omega arith)).1

pub returns-else-place-a-lt128-clause-whole : goal.returns-else-place-a-lt128-clause-whole
returns-else-place-a-lt128-clause-whole c =
    sym (no_digits c.args.a.digits (c.args.place - c.args.a.place) c.requires.narrow (omega arith)).0
    ∙ (cut_below c.args.a.digits c.args.a.place c.args.place (omega arith)).0

pub returns-else-place-a-lt128-clause-rest : goal.returns-else-place-a-lt128-clause-rest
returns-else-place-a-lt128-clause-rest c =
    let n = c.args.place - c.args.a.place in
    ap (λ (z : ℕ). not (nat_eq z 0)) (sym (no_digits c.args.a.digits n c.requires.narrow (omega arith)).1)
    ∙ rest_test (c.args.a.digits % 2 ^ n) _ c.args.a.place (cut_below c.args.a.digits c.args.a.place c.args.place (omega arith)).1
