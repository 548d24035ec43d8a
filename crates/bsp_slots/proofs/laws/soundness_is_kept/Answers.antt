-- A push within the limits keeps registrations sound, and so does a pop of a registered address.
use Rattle.std.proofs.Common.{arith}
use Rattle.std.proofs.lemmas.Bool.Decides.{nat_tests}
use Rattle.bsp_slots.proofs.Soundness.{IsSound-pushed, IsSound-popped}
use Rattle.bsp_slots.proofs.laws.soundness_is_kept.Goals as goal

pub returns-clause-push : goal.returns-clause-push
returns-clause-push c = λ s area sound room. IsSound-pushed s area sound (grind (arith, nat_tests)) (grind (arith, nat_tests))

pub returns-clause-pop : goal.returns-clause-pop
returns-clause-pop c = IsSound-popped
