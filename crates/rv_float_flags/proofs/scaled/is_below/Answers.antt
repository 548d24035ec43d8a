-- Two numbers compare as their digits at the lower place do; digits that would reach 2^120 there are the larger ones.
use Rattle.std.proofs.Common.{◌*◌, ◌-◌, ◌^◌, ℕ, ap, sym, ◌∙◌, arith, nat_lt}
use Rattle.std.proofs.lemmas.Bool.{lt-ltb, le-ltb}
use Rattle.rv_float_flags.proofs.Numbers.{lt_scaled, lt_scaled_turned}
use Rattle.rv_float_flags.proofs.scaled.is_below.Goals as goal

pub returns-in-Some : goal.returns-in-Some
returns-in-Some c =
    ap (λ (z : ℕ). nat_lt c.args.a.digits z) c.in-Some.ensures.0
    ∙ lt_scaled c.args.a.digits c.args.b.digits c.args.a.place c.args.b.place (omega arith)

pub returns-in-None : goal.returns-in-None
returns-in-None c =
    sym (lt-ltb c.args.a.digits (c.args.b.digits * 2 ^ (c.args.b.place - c.args.a.place)) (omega (arith, c.in-None.ensures)))
    ∙ lt_scaled c.args.a.digits c.args.b.digits c.args.a.place c.args.b.place (omega arith)

pub returns-in-Some-times_power : goal.returns-in-Some-times_power
returns-in-Some-times_power c =
    ap (λ (z : ℕ). nat_lt z c.args.b.digits) c.in-Some-times_power.ensures.0
    ∙ lt_scaled_turned c.args.a.digits c.args.b.digits c.args.a.place c.args.b.place (omega arith)

pub returns-in-None-times_power : goal.returns-in-None-times_power
returns-in-None-times_power c =
    sym (le-ltb (c.args.a.digits * 2 ^ (c.args.a.place - c.args.b.place)) c.args.b.digits (omega (arith, c.in-None-times_power.ensures)))
    ∙ lt_scaled_turned c.args.a.digits c.args.b.digits c.args.a.place c.args.b.place (omega arith)
