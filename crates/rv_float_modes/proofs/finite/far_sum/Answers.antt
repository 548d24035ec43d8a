-- The higher term, shifted to fill 120 bits, and what the lower one has at its place make a sum that encloses the exact one.
use Rattle.std.proofs.Common.{◌+◌, ◌*◌, ◌-◌, ◌^◌, ◌<◌, ℕ, ap, sym, ◌∙◌, subst, arith}
use Rattle.rv_float_flags.specs.Scaled.{amount}
use Rattle.rv_float_modes.specs.Enclosed.{Encloses}
use Rattle.rv_float_modes.proofs.Sums.{far_less, far_minus, far_plus, raised}
use Rattle.rv_float_modes.proofs.finite.far_sum.Goals as goal
use Rattle.rv_float_modes.proofs.finite.far_sum.Goals.{then-not-opposite, else-not-opposite+then-goes_on, else-not-opposite+else-goes_on}
use lib.Count.{count_leading_zeros}

pub overflow_sub-shift : goal.overflow_sub-shift
overflow_sub-shift c =
    (raised c.args.high.digits c.args.low.place c.args.high.place c.requires.high_narrow c.requires.ordered c.requires.far).room

pub overflow_sub-place : goal.overflow_sub-place
overflow_sub-place c =
    (raised c.args.high.digits c.args.low.place c.args.high.place c.requires.high_narrow c.requires.ordered c.requires.far).under

pub cut_at-whole-requires-clause-low : goal.cut_at-whole-requires-clause-low
cut_at-whole-requires-clause-low c =
    let m = raised c.args.high.digits c.args.low.place c.args.high.place c.requires.high_narrow c.requires.ordered c.requires.far in
    omega (arith, m.below)

pub overflow_add-digits : goal.overflow_add-digits
overflow_add-digits c =
    let m = raised c.args.high.digits c.args.low.place c.args.high.place c.requires.high_narrow c.requires.ordered c.requires.far in
    omega (arith, m.whole, m.narrow, c.cut_at-whole.ensures.bound)

pub overflow_sub-digits : goal.overflow_sub-digits
overflow_sub-digits c =
    let m = raised c.args.high.digits c.args.low.place c.args.high.place c.requires.high_narrow c.requires.ordered c.requires.far in
    omega (arith, m.whole, m.wide, c.cut_at-whole.ensures.bound)

pub overflow_sub-digits-then-goes_on : goal.overflow_sub-digits-then-goes_on
overflow_sub-digits-then-goes_on c =
    let m = raised c.args.high.digits c.args.low.place c.args.high.place c.requires.high_narrow c.requires.ordered c.requires.far in
    omega (arith, m.whole, m.wide, c.cut_at-whole.ensures.bound)

pub overflow_sub-digits-else-goes_on : goal.overflow_sub-digits-else-goes_on
overflow_sub-digits-else-goes_on c =
    let m = raised c.args.high.digits c.args.low.place c.args.high.place c.requires.high_narrow c.requires.ordered c.requires.far in
    omega (arith, m.whole, m.wide, c.cut_at-whole.ensures.bound)

pub returns-clause-wide : goal.returns-clause-wide
returns-clause-wide c =
    let m = raised c.args.high.digits c.args.low.place c.args.high.place c.requires.high_narrow c.requires.ordered c.requires.far in
    let b = c.cut_at-whole.ensures.bound in
    elim c.if-not-opposite.branch [
      | then-not-opposite w ↦ record {
        wide = omega (arith, m.whole, m.wide, m.narrow, b, w.digits-is);
        narrow = omega (arith, m.whole, m.wide, m.narrow, b, w.digits-is);
      }
      | else-not-opposite+then-goes_on w ↦ record {
        wide = omega (arith, m.whole, m.wide, m.narrow, b, w.digits-is);
        narrow = omega (arith, m.whole, m.wide, m.narrow, b, w.digits-is);
      }
      | else-not-opposite+else-goes_on w ↦ record {
        wide = omega (arith, m.whole, m.wide, m.narrow, b, w.digits-is);
        narrow = omega (arith, m.whole, m.wide, m.narrow, b, w.digits-is);
      }
    ]

pub returns-clause-sum : goal.returns-clause-sum
returns-clause-sum c r f =
    let D = c.args.high.digits in
    let h = c.args.high.place in
    let s = count_leading_zeros 128 D - 8 in
    let k = c.cut_at-whole.result.0 in
    let g = c.cut_at-whole.result.1 in
    let e = c.cut_at-whole.ensures in
    let m = raised D c.args.low.place h c.requires.high_narrow c.requires.ordered c.requires.far in
    let l : k < D * 2 ^ s = omega (arith, m.wide, e.bound) in
    elim c.if-not-opposite.branch [
      | then-not-opposite w ↦
          subst (λ (d : ℕ). Encloses r (record { digits = d; place = h - s + 1948; goes_on = g }))
          (sym (w.digits-is ∙ ap (λ (z : ℕ). z + k) m.whole))
          (far_plus r c.args.opposite (amount c.args.low) D h s k g f m.under w.if-not-opposite.true e.whole e.rest)
      | else-not-opposite+then-goes_on w ↦
          subst (λ (d : ℕ). Encloses r (record { digits = d; place = h - s + 1948; goes_on = g }))
          (sym (w.digits-is ∙ ap (λ (z : ℕ). z - k - 1) m.whole))
          (far_less r c.args.opposite (amount c.args.low) D h s k g f m.under w.if-not-opposite.false e.whole l e.rest w.if-goes_on.true)
      | else-not-opposite+else-goes_on w ↦
          subst (λ (d : ℕ). Encloses r (record { digits = d; place = h - s + 1948; goes_on = g }))
          (sym (w.digits-is ∙ ap (λ (z : ℕ). z - k) m.whole))
          (far_minus r c.args.opposite (amount c.args.low) D h s k g f m.under w.if-not-opposite.false e.whole l e.rest w.if-goes_on.false)
    ]
