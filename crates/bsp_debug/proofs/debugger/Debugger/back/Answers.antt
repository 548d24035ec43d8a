-- The machine is the state that was found.
use Rattle.std.proofs.Common.{◌≡◌, ◌∙◌, Some, sym, ap}
use Rattle.bsp_debug.specs.Debugger.{DebuggerState}
use Rattle.bsp_debug.specs.Inside.{debugger_view}
use Rattle.bsp_debug.specs.Kept.{state_at}
use Rattle.bsp_debug.proofs.Keeps.{reached-back}
use Rattle.bsp_debug.proofs.debugger.Debugger.back.Goals as goal

pub invariant_of-self : goal.invariant_of-self
invariant_of-self g c =
    let d : DebuggerState = debugger_view c.self.inside in
    let found : state_at d.kept c.args.number ≡ Some c.in_ok-again.again =
    ap (λ (x : DebuggerState). state_at x.kept c.args.number) c.self.view_is ∙ sym c.in-Some.ensures
    ∙ ap Some (sym (c.in_ok-again.ensures {u = tt})) in
    rw c.begin.ensures (reached-back d c.args.number c.in_ok-again.again found c.self.invariant)
