-- A state was found under the number.
use Rattle.std.proofs.Common.{◌<◌, ◌∙◌, sym, ap, subst}
use Rattle.std.specs.Prelude.{not}
use Rattle.bsp_debug.specs.Debugger.{DebuggerState}
use Rattle.bsp_debug.specs.Inside.{debugger_view}
use Rattle.bsp_debug.specs.Kept.{state_at}
use Rattle.bsp_debug.proofs.Keeps.{found-faultless, found-within, reached-without}
use Rattle.bsp_debug.proofs.debugger.Debugger.forget.Goals as goal

pub index_mut-requires : goal.index_mut-requires
index_mut-requires g c =
    let inside = c.self.inside.kept.items in
    let within = found-within c.state.result inside c.args.number (c.is_none.ensures ∙ ap not c.if-is_none.false)
    (c.state.ensures ∙ ap (λ (d : DebuggerState). state_at d.kept c.args.number) (sym c.self.view_is)) in
    subst (λ n. c.args.number < n) (sym c.self.inside.kept.ok.0) within

pub invariant_of-self : goal.invariant_of-self
invariant_of-self g c = reached-without (debugger_view c.self.inside) c.args.number c.self.invariant

pub returns-clause-fault : goal.returns-clause-fault
returns-clause-fault g c =
    sym (found-faultless c.state.result c.args.self.now.kept c.args.number (c.is_none.ensures ∙ ap not c.if-is_none.false) c.state.ensures)
