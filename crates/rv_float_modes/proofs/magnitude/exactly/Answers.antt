-- Digits that are shifted to 127 bits, at the place lowered by as many, are the same number.
use Rattle.std.proofs.Common.{◌*◌, ◌-◌, ◌^◌, ℕ, ap, ◌∙◌, arith}
use Rattle.rv_float_modes.proofs.Exactly.{moved, moved_value}
use Rattle.rv_float_modes.proofs.magnitude.exactly.Goals as goal
use lib.Count.{count_leading_zeros}

pub overflow_sub-shift : goal.overflow_sub-shift
overflow_sub-shift c = (moved c.args.digits c.requires.nonzero c.requires.narrow).room

pub returns-clause-wide : goal.returns-clause-wide
returns-clause-wide c =
    let m = moved c.args.digits c.requires.nonzero c.requires.narrow in
    let w = m.whole in
    record { wide = omega (arith, w, m.wide); narrow = omega (arith, w, m.narrow) }

pub returns-clause-full : goal.returns-clause-full
returns-clause-full c = let m = moved c.args.digits c.requires.nonzero c.requires.narrow in let w = m.whole in omega (arith, w, m.wide)

pub returns-clause-value : goal.returns-clause-value
returns-clause-value c =
    let s = count_leading_zeros 128 c.args.digits - 1 in
    let m = moved c.args.digits c.requires.nonzero c.requires.narrow in
    ap (λ (z : ℕ). z * 2 ^ (c.args.place - s)) m.whole ∙ moved_value c.args.digits s c.args.place (omega (arith, m.little, c.requires.high))

pub returns-clause-high : goal.returns-clause-high
returns-clause-high c =
    let m = moved c.args.digits c.requires.nonzero c.requires.narrow in
    omega (arith, m.little, c.requires.high)
