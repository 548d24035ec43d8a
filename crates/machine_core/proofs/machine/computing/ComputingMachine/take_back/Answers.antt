-- A machine whose nodes made some steps of their own is sound, and has only the row changed.
use Rattle.std.proofs.Common.{sym, subst, ap}
use Rattle.bsp_exchange.specs.Exchange.{states}
use Rattle.machine_core.specs.Events.{HaveStepped}
use Rattle.machine_core.specs.Inside.{computing_view}
use Rattle.machine_core.specs.Machine.{MachineState}
use Rattle.machine_core.proofs.Lent.{IsSoundMachine-lent}
use Rattle.machine_core.proofs.machine.computing.ComputingMachine.take_back.Goals as goal

pub invariant_of-result : goal.invariant_of-result
invariant_of-result g c =
    let row = states c.args.row.items in
    IsSoundMachine-lent (computing_view c.self.inside) row c.self.invariant
    (subst (λ (m : MachineState). HaveStepped m.input m.nodes row) (sym c.self.view_is) c.requires)

pub returns : goal.returns
returns g c = ap (λ (m : MachineState). record m { nodes = states c.args.row.items }) c.self.view_is
