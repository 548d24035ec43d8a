-- A sound node has no more steps left than it is given, so it comes to the end of its local part unless memory is refused.
use Rattle.std.proofs.Common.{sym, ap, ◌∙◌, arith}
use Rattle.std.proofs.lemmas.Result.{on_ok_weaker}
use Rattle.node_core.specs.Node.{NodeState, is_running}
use Rattle.node_core.proofs.Sound.{local_steps-end}
use Rattle.node_core.proofs.Steps.{local_steps-zero}
use Rattle.worker_pool.proofs.Works.{some_steps, HasCome-run}
use Rattle.worker_pool.proofs.part.finish_node.Goals as goal

pub returns-then-not-is_running-clause-ok : goal.returns-then-not-is_running-clause-ok
returns-then-not-is_running-clause-ok g c = ap is_running (sym c.state.ensures) ∙ sym c.is_running.ensures ∙ c.if-not-is_running.true

pub returns-then-not-is_running-clause-stepped : goal.returns-then-not-is_running-clause-stepped
returns-then-not-is_running-clause-stepped g c = (0, sym (local_steps-zero c.args.input.now c.args.node.now.node))

pub returns-clause-ok : goal.returns-clause-ok
returns-clause-ok g c =
    let sound = c.ticks.ensures.sound in
    let n = c.args.node.now.node in
    on_ok_weaker c.run.result
    (λ made. ap (λ (m : NodeState). is_running m.state) made ∙ local_steps-end c.args.input.now _ n sound (omega (arith, sound.limited)))
    c.run.ensures.ok

pub returns-clause-stepped : goal.returns-clause-stepped
returns-clause-stepped g c =
    some_steps c.args.input.now _ c.args.node.now.node c.run.new.self.node c.run.result c.run.ensures.ok c.run.ensures.err

pub returns-clause-come : goal.returns-clause-come
returns-clause-come g c =
    let sound = c.ticks.ensures.sound in
    HasCome-run c.args.input.now c.args.node.now.node _ _ c.run.result sound sound.limited c.run.ensures.ok c.run.ensures.refuses
