-- The row is the one handed out and the output is cut at its old length, so the machine is the sound one from before the turn.
use Rattle.std.proofs.Common.{sym, subst, ap, ◌∙◌}
use Rattle.bsp_exchange.specs.Exchange.{states}
use Rattle.machine_core.specs.ExchangingMachine.{kept}
use Rattle.machine_core.specs.Machine.{MachineState}
use Rattle.machine_core.specs.Sound.{IsSoundMachine}
use Rattle.machine_core.proofs.Turns.{called_off}
use Rattle.machine_core.proofs.machine.exchanging.ExchangingMachine.call_off.Goals as goal

pub invariant_of-result : goal.invariant_of-result
invariant_of-result g c =
    let b = c.self.inside.before.value in
    let inv = c.self.invariant in
    let back = c.requires ∙ ap (λ (x : MachineState). x.nodes) (sym c.self.view_is) in
    subst IsSoundMachine
    (sym (called_off b (kept c.self.inside) (states c.args.row.items) c.truncate.new.self.items c.self.inside.output_before inv.0 inv.2
    back c.truncate.ensures.items)) inv.0.sound

pub returns : goal.returns
returns g c =
    let b = c.self.inside.before.value in
    let inv = c.self.invariant in
    let back = c.requires ∙ ap (λ (x : MachineState). x.nodes) (sym c.self.view_is) in
    called_off b (kept c.self.inside) (states c.args.row.items) c.truncate.new.self.items c.self.inside.output_before inv.0 inv.2 back
    c.truncate.ensures.items ∙ c.self.view_is
