-- The state that is kept is that of the machine.
use Rattle.std.proofs.Common.{◌≡◌, ◌∙◌, [], ◌∷◌, ◌++◌, Some, ap}
use Rattle.machine_core.specs.Machine.{MachineState}
use Rattle.bsp_debug.specs.Inside.{debugger_view}
use Rattle.bsp_debug.proofs.Keeps.{reached-keep}
use Rattle.bsp_debug.proofs.debugger.Debugger.keep.Goals as goal

pub invariant_of-self-3 : goal.invariant_of-self-3
invariant_of-self-3 g c =
    let before = c.self.inside.kept.items in
    let state : c.in_ok-state.state ≡ c.self.inside.trace.machine = (c.in_ok-state.ensures {u = tt}).0 ∙ c.machine.ensures.value in
    let kept : c.push_reserved.new.self.items ≡ before ++ Some c.self.inside.trace.machine ∷ [] =
    c.push_reserved.ensures.items ∙ ap (λ xs. xs ++ Some c.in_ok-state.state ∷ []) c.reserve.ensures.items
    ∙ ap (λ (s : MachineState). before ++ Some s ∷ []) state in
    rw (c.renew.ensures, kept) (reached-keep (debugger_view c.self.inside) c.self.invariant)
