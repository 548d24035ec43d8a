-- The sum or difference of two numbers at the same place is that of their digits, at this place.
use Rattle.std.proofs.Common.{Bool, ◌≡◌, ◌*◌, ◌^◌, ℕ, ap, sym, ◌∙◌, nat_eq}
use Rattle.rv_float_flags.specs.Exact.{combined}
use Rattle.rv_float_flags.proofs.Numbers.{combined_times}
use Rattle.rv_float_flags.proofs.scaled.is_aligned_sum.Goals as goal
use Rattle.rv_float_flags.proofs.scaled.is_aligned_sum.Goals.{then-opposite, else-opposite}

pub returns : goal.returns
returns c =
    let i = c.args.a.place in
    let s : c.if-opposite.sum ≡ combined c.args.opposite c.args.a.digits c.args.digits =
    elim c.if-opposite.branch [
      | then-opposite w ↦ w.sum-is ∙ w.abs_diff-sum.ensures
          ∙ ap (λ (o : Bool). combined o c.args.a.digits c.args.digits) (sym w.if-opposite.true)
      | else-opposite w ↦ w.sum-is ∙ ap (λ (o : Bool). combined o c.args.a.digits c.args.digits) (sym w.if-opposite.false)
    ]
    in
    let e : combined c.args.opposite (c.args.a.digits * 2 ^ i) (c.args.digits * 2 ^ i)
    ≡ combined c.args.opposite c.args.a.digits c.args.digits * 2 ^ i =
    combined_times c.args.opposite c.args.a.digits c.args.digits (2 ^ i)
    in
    c.is_same.ensures ∙ ap (λ (z : ℕ). nat_eq z (c.args.c.digits * 2 ^ c.args.c.place)) (ap (λ (z : ℕ). z * 2 ^ i) s ∙ sym e)
