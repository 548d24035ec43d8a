-- A line that is told names a byte for which two orders bring different values, so there are two machines that differ.
use Rattle.contested_runs.proofs.Differing.{either-lies, told-differs}
use Rattle.contested_runs.proofs.laws.what_is_told_makes_a_difference.Goals as goal

pub returns-clause-machines : goal.returns-clause-machines
returns-clause-machines c = told-differs

pub returns-clause-bytes : goal.returns-clause-bytes
returns-clause-bytes c = either-lies
