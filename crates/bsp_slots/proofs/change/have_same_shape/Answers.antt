-- Pairs that all agree make sequences that agree; one pair that differs makes them differ.
use Rattle.std.proofs.Common.{arith, rules, tests}
use Rattle.std.proofs.lemmas.Iterator.{cases_from_all, YieldsList-from_slice, YieldsList-from_zip}
use Rattle.bsp_slots.proofs.Shapes.{IsAlike, Differs, same_shape_from_all}
use Rattle.bsp_slots.proofs.change.have_same_shape.Goals as goal

pub returns : goal.returns
returns c =
    let mine = c.args.mine.now in
    let theirs = c.args.theirs.now in
    same_shape_from_all mine theirs c.all.result (omega arith)
    (cases_from_all c.all.new.self _ c.all.result IsAlike Differs c.all.ensures.ran
    (YieldsList-from_zip (YieldsList-from_slice mine cc) (YieldsList-from_slice theirs cc)) (λ x q k. search (rules, tests))
    (λ x q k. search (rules, tests)))
