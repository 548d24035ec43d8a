-- The definition too asks first for another tag size, then for other pushes and pops, and only then for a request outside its area.
use Rattle.std.proofs.Common.{sym, ◌∙◌}
use Rattle.bsp_exchange.specs.Exchange.{states}
use Rattle.bsp_exchange.proofs.Refusals.{fault_of_tags, fault_of_slots, fault_of_requests}
use Rattle.bsp_exchange.proofs.checks.first_fault.Goals as goal

pub returns-in-Some : goal.returns-in-Some
returns-in-Some g c = fault_of_tags (states c.args.nodes.now) c.in-Some.rank (sym c.tag_mismatch.ensures ∙ c.in-Some.is)

pub returns-in-Some-slot_mismatch : goal.returns-in-Some-slot_mismatch
returns-in-Some-slot_mismatch g c =
    fault_of_slots (states c.args.nodes.now) c.in-Some-slot_mismatch.rank (sym c.tag_mismatch.ensures ∙ c.in_default.is)
    (sym c.slot_mismatch.ensures ∙ c.in-Some-slot_mismatch.is)

pub returns : goal.returns
returns g c =
    c.first_outside.ensures
    ∙ fault_of_requests (states c.args.nodes.now) (sym c.tag_mismatch.ensures ∙ c.in_default.is)
    (sym c.slot_mismatch.ensures ∙ c.in_default-slot_mismatch.is)
