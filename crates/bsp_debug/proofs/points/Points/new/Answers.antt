-- The new set is empty, so there are no points.
use Rattle.bsp_debug.proofs.points.Points.new.Goals as goal

pub returns : goal.returns
returns g c = c.new-set.ensures.empty
