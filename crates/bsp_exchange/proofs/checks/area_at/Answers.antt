-- The area is the one that the rank's node has in effect at the place, and there is none if there is no such node.
use Rattle.std.proofs.Common.{ap, sym, ◌∙◌, option_copied, slice_get}
use Rattle.bsp_slots.specs.Registrations.{Registrations}
use Rattle.bsp_exchange.proofs.Finds.{no_area, area_of}
use Rattle.bsp_exchange.proofs.checks.area_at.Goals as goal

pub returns-in_err-node : goal.returns-in_err-node
returns-in_err-node g c =
    let none = sym c.node_at.ensures ∙ ap option_copied c.in_err-node.was in
    c.from_residual.ensures ∙ sym (no_area c.args.nodes.now c.args.rank c.args.slot none)

pub returns : goal.returns
returns g c =
    let found = sym c.node_at.ensures ∙ ap option_copied c.in_ok-node.was in
    c.area.ensures
    ∙ ap (λ (r : Registrations). slice_get r.in_effect c.args.slot) c.slots.ensures.registrations
    ∙ sym (area_of c.args.nodes.now c.args.rank c.args.slot c.in_ok-node.node.now found)
