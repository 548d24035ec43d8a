-- The node lent, if the rank has one, is the state at that place.
use Rattle.std.proofs.Common.{ap, sym, ◌∙◌, option_map}
use Rattle.std.proofs.lemmas.Option.{slice_get-map}
use Rattle.node_core.specs.Node.{PreparedNode}
use Rattle.bsp_exchange.proofs.Lookups.{element_got}
use Rattle.exposed_runs.proofs.calls.node_at.Goals as goal

pub returns : goal.returns
returns g c =
    ap (option_map (λ (p : PreparedNode). p.node)) (element_got c.args.nodes.now c.args.rank c.get.result c.get.ensures.lookup)
    ∙ sym (slice_get-map (λ (p : PreparedNode). p.node) c.args.nodes.now c.args.rank)
