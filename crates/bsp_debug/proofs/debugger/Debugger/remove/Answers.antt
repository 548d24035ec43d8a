-- What there was shows whether the point is set.
use Rattle.std.proofs.Common.{◌+◌, length, ap, subst, ◌∙◌}
use Rattle.std.specs.Prelude.{if◌then◌else◌}
use Rattle.bsp_debug.specs.declared.error.DebugError.TheVariants.{NoSuchBreak}
use Rattle.bsp_debug.specs.Debugger.{DebuggerState, refused_unless, remove_fault}
use Rattle.bsp_debug.specs.Points.{HasNoMore}
use Rattle.bsp_debug.proofs.debugger.Debugger.remove.Goals as goal

pub returns-then-not-has-clause-fault : goal.returns-then-not-has-clause-fault
returns-then-not-has-clause-fault g c =
    ap (λ b. refused_unless b NoSuchBreak) (c.if-not-has.ensures {u = tt})
    ∙ ap (λ (d : DebuggerState). remove_fault d.points c.args.point) c.self.view_is

pub invariant_of-self : goal.invariant_of-self
invariant_of-self g c = record { first = c.self.invariant.first; machine = c.self.invariant.machine; kept = c.self.invariant.kept }

pub returns-clause-set : goal.returns-clause-set
returns-clause-set g c =
    subst (λ (d : DebuggerState). HasNoMore c.args.point d.points c.remove.new.self) c.self.view_is c.remove.ensures.set

pub returns-clause-count : goal.returns-clause-count
returns-clause-count g c =
    ap (λ b. length c.remove.new.self + (if b then 1 else 0)) (c.if-not-has.ensures {u = tt})
    ∙ c.remove.ensures.count ∙ ap (λ (d : DebuggerState). length d.points) c.self.view_is

pub returns-clause-others : goal.returns-clause-others
returns-clause-others g c = ap (λ (d : DebuggerState). record d { points = c.remove.new.self }) c.self.view_is

pub returns-clause-fault : goal.returns-clause-fault
returns-clause-fault g c =
    ap (λ b. refused_unless b NoSuchBreak) (c.if-not-has.ensures {u = tt})
    ∙ ap (λ (d : DebuggerState). remove_fault d.points c.args.point) c.self.view_is
