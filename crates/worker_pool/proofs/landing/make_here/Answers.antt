-- Each stage is what its own function makes.
use Rattle.worker_pool.proofs.landing.make_here.Goals as goal

pub returns-in-Prepare-clause-done : goal.returns-in-Prepare-clause-done
returns-in-Prepare-clause-done g c = rw c.in-Prepare.is c.prepare_here.ensures.done

pub returns-in-Land-clause-done : goal.returns-in-Land-clause-done
returns-in-Land-clause-done g c = rw c.in-Land.is c.land_here.ensures.done
