-- The two tests come in the order of the definition, so the first that fails names the first fault.
use Rattle.std.proofs.Common.{rules}
use Rattle.worker_pool.proofs.numbers.check_numbers.Goals as goal

pub returns : goal.returns
returns c = search rules
