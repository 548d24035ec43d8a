-- If the higher term is below 2^120 at the lower place, its digits there are the term, and the terms are aligned.
use Rattle.std.proofs.Common.{◌≡◌, ◌*◌, ◌-◌, ◌^◌, ℕ, ap, ◌∙◌, nat_eq}
use Rattle.rv_float_flags.specs.Exact.{combined}
use Rattle.rv_float_flags.proofs.Numbers.{power_split}
use Rattle.rv_float_flags.proofs.scaled.is_ordered_sum.Goals as goal

pub returns-in-Some : goal.returns-in-Some
returns-in-Some c =
    let i = c.args.a.place in
    let w : c.args.b.digits * 2 ^ (c.args.b.place - i) * 2 ^ i ≡ c.args.b.digits * 2 ^ c.args.b.place =
    power_split c.args.b.digits i c.args.b.place c.requires.ordered in
    c.is_aligned_sum.ensures
    ∙ ap (λ (z : ℕ). nat_eq (combined c.args.opposite (c.args.a.digits * 2 ^ i) z) (c.args.c.digits * 2 ^ c.args.c.place))
    (ap (λ (z : ℕ). z * 2 ^ i) c.in-Some.ensures.0 ∙ w)
