-- If the higher term is below 2^120 at the lower place, the terms are aligned; otherwise their sum is odd and too long for `c`.
use Rattle.std.proofs.Common.{◌≡◌, ◌*◌, ◌-◌, ◌^◌, ℕ, ap, sym, ◌∙◌, nat_eq}
use Rattle.std.proofs.lemmas.Bool.{ne_eqb}
use Rattle.rv_float_flags.specs.Exact.{combined}
use Rattle.rv_float_flags.proofs.Numbers.{combined_times, power_split}
use Rattle.rv_float_flags.proofs.Odd.{far_sum, odd_far}
use Rattle.rv_float_flags.proofs.scaled.is_odd_sum.Goals as goal

pub returns-in-Some : goal.returns-in-Some
returns-in-Some c =
    let i = c.args.a.place in
    let w : c.args.b.digits * 2 ^ (c.args.b.place - i) * 2 ^ i ≡ c.args.b.digits * 2 ^ c.args.b.place =
    power_split c.args.b.digits i c.args.b.place c.requires.ordered in
    c.is_aligned_sum.ensures
    ∙ ap (λ (z : ℕ). nat_eq (combined c.args.opposite (c.args.a.digits * 2 ^ i) z) (c.args.c.digits * 2 ^ c.args.c.place))
    (ap (λ (z : ℕ). z * 2 ^ i) c.in-Some.ensures.0 ∙ w)

pub returns-in-None : goal.returns-in-None
returns-in-None c =
    let n = c.args.b.place - c.args.a.place in
    let v = c.args.b.digits * 2 ^ n in
    let w : v * 2 ^ c.args.a.place ≡ c.args.b.digits * 2 ^ c.args.b.place =
    power_split c.args.b.digits c.args.a.place c.args.b.place c.requires.ordered in
    let s =
    far_sum c.args.opposite c.args.a.digits c.args.b.digits n c.requires.a_odd c.requires.a_narrow c.requires.b_narrow c.in-None.ensures in
    let e : combined c.args.opposite (c.args.a.digits * 2 ^ c.args.a.place) (c.args.b.digits * 2 ^ c.args.b.place)
    ≡ combined c.args.opposite c.args.a.digits v * 2 ^ c.args.a.place =
    ap (λ (z : ℕ). combined c.args.opposite (c.args.a.digits * 2 ^ c.args.a.place) z) (sym w)
    ∙ combined_times c.args.opposite c.args.a.digits v (2 ^ c.args.a.place)
    in
    sym (ne_eqb _ _
    (λ q. odd_far (combined c.args.opposite c.args.a.digits v) c.args.a.place c.args.c.digits c.args.c.place s.0 s.1 c.requires.c_narrow
    (sym e ∙ q)))
