-- The ticks of the rows are the work of the ranks, whose greatest is the w of the superstep's cost.
use Rattle.bsp_profile.proofs.Ledgers.{ticks-work}
use Rattle.bsp_profile.proofs.laws.the_greatest_ticks_are_w.Goals as goal

pub returns : goal.returns
returns c = ticks-work
