-- The output grows by what each superstep writes, up to any number of them and up to the end.
use Rattle.bsp_session.proofs.Supersteps.{output-all, output-first}
use Rattle.bsp_session.proofs.laws.the_supersteps_write_the_output.Goals as goal

pub returns-clause-first : goal.returns-clause-first
returns-clause-first c start k = output-first start k

pub returns-clause-all : goal.returns-clause-all
returns-clause-all c start = output-all start
