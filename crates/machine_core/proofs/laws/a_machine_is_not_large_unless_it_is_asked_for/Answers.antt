-- A size within the old limit is within the new one, so that the tests come to what they were.
use Rattle.std.proofs.Common.{◌≡◌, refl}
use Rattle.machine_core.proofs.Standard.{fault_is_old, limits_are_kept}
use Rattle.machine_core.proofs.laws.a_machine_is_not_large_unless_it_is_asked_for.Goals as goal

pub returns-clause-fault : goal.returns-clause-fault
returns-clause-fault c = fault_is_old

pub returns-clause-start : goal.returns-clause-start
returns-clause-start c = λ image s rank standard. (standard, standard)

pub returns-clause-kept : goal.returns-clause-kept
returns-clause-kept c = limits_are_kept
