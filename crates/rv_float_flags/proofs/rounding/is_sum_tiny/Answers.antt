-- An inexact sum is tiny if it is below the limit, which it is not if both terms are multiples of the format's smallest value.
use Rattle.std.proofs.Common.{Bool, ◌≡◌, ◌+◌, ◌-◌, ◌*◌, ◌^◌, ◌&&◌, ℕ, ap, sym, ◌∙◌, arith, nat_lt}
use Rattle.std.proofs.Math.Nat.{mul-one}
use Rattle.std.proofs.lemmas.Bool.{le-ltb}
use Rattle.rv_float_flags.specs.Exact.{combined, is_inexact}
use Rattle.rv_float_flags.specs.Scaled.{amount}
use Rattle.rv_float_flags.proofs.Roundings.{coarse_none, no_and, two_coarse, underflow}
use Rattle.rv_float_flags.proofs.rounding.is_sum_tiny.Goals as goal

pub returns-then-a-limit : goal.returns-then-a-limit
returns-then-a-limit c f r l g =
    let n = combined c.args.opposite (amount c.args.a) (amount c.args.b) in
    ap (λ (b : Bool). is_inexact f r && b) (c.sum_is_below.ensures ∙ ap (λ (x : ℕ). nat_lt n x) (sym (mul-one (amount c.args.limit))))
    ∙ sym (underflow f r c.args.limit n 1 l g)

pub returns-else-a-limit : goal.returns-else-a-limit
returns-else-a-limit c f r l g =
    let n = combined c.args.opposite (amount c.args.a) (amount c.args.b) in
    let p = c.args.limit.place + 2 in
    let w = combined c.args.opposite (c.args.a.digits * 2 ^ (c.args.a.place - p)) (c.args.b.digits * 2 ^ (c.args.b.place - p)) in
    let e : w * 2 ^ p ≡ n =
    two_coarse c.args.opposite c.args.a.digits c.args.a.place c.args.b.digits c.args.b.place p (omega arith) c.requires.b_coarse in
    ap (λ (b : Bool). is_inexact f r && b) (le-ltb c.args.a.place p (omega arith))
    ∙ no_and (is_inexact f r)
    ∙ sym (coarse_none f r c.args.limit n w l g e)
    ∙ ap (λ (x : ℕ). is_inexact f r && nat_lt n x) (sym (mul-one (amount c.args.limit)))
    ∙ sym (underflow f r c.args.limit n 1 l g)
