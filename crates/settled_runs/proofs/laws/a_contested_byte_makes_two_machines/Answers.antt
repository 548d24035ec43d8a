-- The three parts of the law: the byte lies in a memory, may be one of two bytes, and so makes two machines.
use Rattle.settled_runs.proofs.Contested.{inside, two_bytes, two_machines}
use Rattle.settled_runs.proofs.laws.a_contested_byte_makes_two_machines.Goals as goal

pub returns-clause-inside : goal.returns-clause-inside
returns-clause-inside c = inside

pub returns-clause-bytes : goal.returns-clause-bytes
returns-clause-bytes c = two_bytes

pub returns-clause-machines : goal.returns-clause-machines
returns-clause-machines c = two_machines
