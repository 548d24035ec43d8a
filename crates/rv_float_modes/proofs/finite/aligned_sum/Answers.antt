-- If the higher term's digits fit at the lower place, their sum or difference with the lower ones is the exact number.
use Rattle.rv_float_modes.proofs.Sums.{near}
use Rattle.rv_float_modes.proofs.finite.aligned_sum.Goals as goal

pub returns-in-Some : goal.returns-in-Some
returns-in-Some c f r s h =
    let e = c.in-Some.ensures in
    c.rounded_number.ensures f r s
    (near r c.args.opposite c.args.low.digits c.args.low.place c.in-Some.digits c.args.high.digits c.args.high.place _ h c.requires.ordered
    e.0 c.sum_of-sum.ensures.sum)
