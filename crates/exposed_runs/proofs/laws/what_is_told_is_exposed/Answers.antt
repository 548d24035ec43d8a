-- A text without lines tells of no exposed byte, and each line tells of some.
use Rattle.exposed_runs.proofs.Told.{nothing-told, some-told}
use Rattle.exposed_runs.proofs.laws.what_is_told_is_exposed.Goals as goal

pub returns-clause-none : goal.returns-clause-none
returns-clause-none c = nothing-told

pub returns-clause-some : goal.returns-clause-some
returns-clause-some c = some-told
