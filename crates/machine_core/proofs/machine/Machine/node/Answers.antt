-- The node lent, if the rank has one, is the state at that place of the machine.
use Rattle.std.proofs.Common.{List, ap, sym, ◌∙◌, option_map}
use Rattle.std.specs.Prelude.{slice_get}
use Rattle.std.proofs.lemmas.Option.{slice_get-map}
use Rattle.node_core.specs.Node.{PreparedNode}
use Rattle.bsp_exchange.specs.Exchange.{states}
use Rattle.bsp_exchange.proofs.Lookups.{element_got}
use Rattle.machine_core.specs.Machine.{MachineState}
use Rattle.machine_core.proofs.machine.Machine.node.Goals as goal

pub returns : goal.returns
returns g c =
    ap (option_map (λ (p : PreparedNode). p.node)) (element_got c.deref.result.now c.args.rank c.get.result c.get.ensures.lookup)
    ∙ sym (slice_get-map (λ (p : PreparedNode). p.node) c.deref.result.now c.args.rank)
    ∙ ap (λ (ps : List PreparedNode). slice_get (states ps) c.args.rank) c.deref.ensures.value
    ∙ ap (λ (m : MachineState). slice_get m.nodes c.args.rank) c.self.view_is
