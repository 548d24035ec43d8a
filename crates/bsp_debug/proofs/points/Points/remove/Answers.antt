-- After a removal the point is not in the ordered set, the others are, and the answer says whether it was there.
use Rattle.std.proofs.Common.{◌∙◌, ap}
use Rattle.bsp_debug.specs.Points.{is_set}
use Rattle.bsp_debug.proofs.PointOrder.{HasNoMore-remove, is_set-order}
use Rattle.bsp_debug.proofs.points.Points.remove.Goals as goal

pub returns-clause-set : goal.returns-clause-set
returns-clause-set g c = rw (← c.self.view_is) (HasNoMore-remove c.args.point c.self.inside.set c.remove.new.self c.remove.ensures.updates)

pub returns-clause-was : goal.returns-clause-was
returns-clause-was g c =
    c.remove.ensures.test ∙ is_set-order c.self.inside.set.keys c.args.point ∙ ap (λ points. is_set points c.args.point) c.self.view_is

pub returns-clause-count : goal.returns-clause-count
returns-clause-count g c = rw (← returns-clause-was g c, ← c.self.view_is) c.remove.ensures.len
