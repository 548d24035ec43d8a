-- The keys of the set are in the order of points.
use Rattle.bsp_debug.proofs.PointOrder.{sorted-order}
use Rattle.bsp_debug.proofs.points.Points.to_vec.Goals as goal

pub returns-in_err-points-clause-order : goal.returns-in_err-points-clause-order
returns-in_err-points-clause-order g c = rw (← c.self.view_is) (sorted-order c.self.inside.set.keys c.len.ensures.ordered)

pub returns-in_err-push-clause-order : goal.returns-in_err-push-clause-order
returns-in_err-push-clause-order g c = rw (← c.self.view_is) (sorted-order c.self.inside.set.keys c.len.ensures.ordered)

pub returns-clause-order : goal.returns-clause-order
returns-clause-order g c = rw (← c.self.view_is) (sorted-order c.self.inside.set.keys c.len.ensures.ordered)
