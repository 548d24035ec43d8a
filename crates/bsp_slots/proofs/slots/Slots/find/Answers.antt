-- The position is looked for in the list in effect, which has at most 65,536 entries, so 16 bits hold it.
use Rattle.std.proofs.Common.{length, rules, sym, ap, ◌∙◌, arith}
use Rattle.bsp_slots.proofs.Limits.{most_entries}
use Rattle.bsp_slots.proofs.Positions.{IsLastEntry-from}
use Rattle.bsp_slots.proofs.slots.Slots.find.Goals as goal

pub overflow_cast-result : goal.overflow_cast-result
overflow_cast-result g c =
    let last = IsLastEntry-from c.deref.result.now c.args.addr c.in_ok-slot.slot (sym c.last_position.ensures ∙ c.in_ok-slot.was) in
    omega (
      arith,
      last.within,
      ap length c.deref.ensures.value,
      most_entries c.self.inside.large,
      c.self.invariant.pace.sound.in_effect_fits,
    )

pub returns : goal.returns
returns g c = search rules
