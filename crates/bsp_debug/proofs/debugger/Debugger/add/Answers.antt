-- The set has changed, and nothing else.
use Rattle.std.proofs.Common.{sym, subst}
use Rattle.bsp_debug.specs.Debugger.{DebuggerState}
use Rattle.bsp_debug.specs.Inside.{debugger_view}
use Rattle.bsp_debug.specs.Points.{HasAlso}
use Rattle.bsp_debug.proofs.Keeps.{same-points, points-counted}
use Rattle.bsp_debug.proofs.debugger.Debugger.add.Goals as goal

pub invariant_of-self : goal.invariant_of-self
invariant_of-self g c = record { first = c.self.invariant.first; machine = c.self.invariant.machine; kept = c.self.invariant.kept }

pub returns-in_err-add-clause-others : goal.returns-in_err-add-clause-others
returns-in_err-add-clause-others g c = same-points (debugger_view c.self.inside) c.args.self.now c.add.new.self c.self.view_is

pub returns-in_err-add-clause-no_memory : goal.returns-in_err-add-clause-no_memory
returns-in_err-add-clause-no_memory g c = λ memory. sym (c.in_ok-check_point.ensures {u = tt})

pub invariant_of-self-2 : goal.invariant_of-self-2
invariant_of-self-2 g c = record { first = c.self.invariant.first; machine = c.self.invariant.machine; kept = c.self.invariant.kept }

pub returns-clause-set : goal.returns-clause-set
returns-clause-set g c = subst (λ (d : DebuggerState). HasAlso c.args.point d.points c.add.new.self) c.self.view_is c.in_ok-add.ensures.set

pub returns-clause-count : goal.returns-clause-count
returns-clause-count g c =
    points-counted (debugger_view c.self.inside) c.args.self.now c.add.new.self c.args.point c.in_ok-add.ensures.count c.self.view_is

pub returns-clause-others : goal.returns-clause-others
returns-clause-others g c = same-points (debugger_view c.self.inside) c.args.self.now c.add.new.self c.self.view_is

pub returns-clause-ok : goal.returns-clause-ok
returns-clause-ok g c = sym (c.in_ok-check_point.ensures {u = tt})
