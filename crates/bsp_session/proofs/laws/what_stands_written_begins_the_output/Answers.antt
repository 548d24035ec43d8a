-- What was written up to a machine on the way is a beginning of the output at the end.
use Rattle.bsp_session.proofs.Supersteps.{begins}
use Rattle.bsp_session.proofs.laws.what_stands_written_begins_the_output.Goals as goal

pub returns : goal.returns
returns c start m out sound up_to = begins start m out sound up_to
