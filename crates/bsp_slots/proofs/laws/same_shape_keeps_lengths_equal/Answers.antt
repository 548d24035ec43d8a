-- Two lists of one length stay so where the same sequence of pushes and pops is replayed over both.
use Rattle.bsp_slots.proofs.Shapes.{length-registrations_after}
use Rattle.bsp_slots.proofs.laws.same_shape_keeps_lengths_equal.Goals as goal

pub returns : goal.returns
returns c = λ s t sound sound' same long.
    length-registrations_after s.in_effect t.in_effect s.changes t.changes sound.names_removals sound'.names_removals same long
