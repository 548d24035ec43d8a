-- A point that is inserted into the ordered set is there beside the others; after a refusal nothing has changed.
use Rattle.bsp_debug.proofs.PointOrder.{HasAlso-insert}
use Rattle.bsp_debug.proofs.points.Points.add.Goals as goal
use Rattle.bsp_debug.proofs.points.Points.add.Goals.{in-Ok, in-Err}

pub returns-clause-set : goal.returns-clause-set
returns-clause-set g c = elim c.match-insert.branch [
  | in-Ok w ↦ rw (w.result-is, ← c.self.view_is) (HasAlso-insert c.args.point c.self.inside.set c.insert.new.self w.in-Ok.ensures.updates)
  | in-Err w ↦ rw w.result-is tt
]
