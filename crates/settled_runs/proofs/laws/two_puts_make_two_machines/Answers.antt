-- The machine of the example is sound, its byte is contested, and each of the two puts may come last.
use Rattle.settled_runs.proofs.Example.{is_contested, is_sound, one_lies, other_lies}
use Rattle.settled_runs.proofs.laws.two_puts_make_two_machines.Goals as goal

pub returns-clause-sound : goal.returns-clause-sound
returns-clause-sound c = is_sound

pub returns-clause-contested : goal.returns-clause-contested
returns-clause-contested c = is_contested

pub returns-clause-one : goal.returns-clause-one
returns-clause-one c = one_lies

pub returns-clause-other : goal.returns-clause-other
returns-clause-other c = other_lies
