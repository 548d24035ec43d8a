-- The rank is that of the first node whose pushes and pops differ from those of the node at place 0; if there is no such node, there is
-- none.
use Rattle.std.proofs.Common.{ap, sym, ◌∙◌, Some, option_copied}
use Rattle.bsp_exchange.specs.Faults.{have_same_shape}
use Rattle.bsp_exchange.proofs.Finds.{none_disagrees, who_disagrees}
use Rattle.bsp_exchange.proofs.checks.slot_mismatch.Goals as goal

pub returns-in_err-first : goal.returns-in_err-first
returns-in_err-first g c =
    let none = sym c.node_at.ensures ∙ ap option_copied c.in_err-first.was in
    c.from_residual.ensures ∙ sym (none_disagrees have_same_shape c.args.nodes.now none)

pub returns-in_err-other : goal.returns-in_err-other
returns-in_err-other g c =
    let first = sym c.node_at.ensures ∙ ap option_copied c.in_ok-first.was in
    let same = ap option_copied c.in_err-other.was in
    c.from_residual-in_err-other.ensures
    ∙ sym (who_disagrees have_same_shape c.args.nodes.now c.in_ok-first.first.now _ _ first c.first_of_other_shape.ensures same)

pub returns : goal.returns
returns g c =
    let first = sym c.node_at.ensures ∙ ap option_copied c.in_ok-first.was in
    let same = ap option_copied c.in_ok-other.was in
    ap Some c.rank.ensures
    ∙ sym (who_disagrees have_same_shape c.args.nodes.now c.in_ok-first.first.now _ _ first c.first_of_other_shape.ensures same)
