-- The second list without the entry that was found is the next list after the pop.
use Rattle.std.proofs.Common.{◌≡◌, Some, arith, rules}
use Rattle.std.proofs.lemmas.Bool.{false≢true}
use Rattle.bsp_slots.specs.Area.{last_position}
use Rattle.bsp_slots.specs.Slots.{slots_view}
use Rattle.bsp_slots.proofs.Positions.{IsLastEntry-from}
use Rattle.bsp_slots.proofs.Soundness.{KeepsPace-popped}
use Rattle.bsp_slots.proofs.slots.Slots.pop.Goals as goal

pub remove-requires : goal.remove-requires
remove-requires g c =
    let next = c.self.inside.next.items in
    let found : last_position next c.args.addr ≡ Some c.in-Some.slot = search rules in
    let last = IsLastEntry-from next c.args.addr c.in-Some.slot found in
    omega (arith, last.within)

pub invariant_of-self-2 : goal.invariant_of-self-2
invariant_of-self-2 g c = record {
  pace =
      KeepsPace-popped (slots_view c.self.inside).registrations c.args.addr c.in-Some.slot c.self.invariant.pace (search rules)
      (search rules) (search rules);
  room = λ ready. absurd (false≢true ready);
}
