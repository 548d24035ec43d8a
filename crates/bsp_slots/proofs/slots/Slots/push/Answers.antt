-- The second list with the area behind it is the next list after the push, and both limits have room for it.
use Rattle.std.proofs.Common.{arith, rules}
use Rattle.std.proofs.lemmas.Bool.{false≢true}
use Rattle.bsp_slots.specs.Slots.{slots_view}
use Rattle.bsp_slots.proofs.Soundness.{KeepsPace-pushed}
use Rattle.bsp_slots.proofs.slots.Slots.push.Goals as goal

pub invariant_of-self-2 : goal.invariant_of-self-2
invariant_of-self-2 g c = record {
  pace =
      KeepsPace-pushed (slots_view c.self.inside).registrations c.args.area c.self.invariant.pace (search rules) (search rules)
      (omega arith) (omega arith);
  room = λ ready. absurd (false≢true ready);
}
