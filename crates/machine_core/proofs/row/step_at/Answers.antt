-- A rank that is absent or does not run makes no step; the step of any other is one step of the row at that rank.
use Rattle.std.proofs.Common.{true, false, sym, ap, ◌∙◌, arith}
use Rattle.std.proofs.lemmas.Result.{err_from_is_err_and}
use Rattle.node_core.specs.Node.{is_running}
use Rattle.bsp_exchange.proofs.KeepsPrivate.{EachKeepsPrivate-same}
use Rattle.machine_core.proofs.Rows.{stepped-disabled}
use Rattle.machine_core.proofs.States.{found-new, kept-private, states-step, states-same, runs-past, runs-found}
use Rattle.machine_core.proofs.row.step_at.Goals as goal

pub returns-then-rank-nodes-clause-step : goal.returns-then-rank-nodes-clause-step
returns-then-rank-nodes-clause-step g c =
    let past = runs-past c.args.nodes.now c.args.rank c.if-rank-nodes.true in
    record {
      ok = sym (stepped-disabled c.args.input.now c.args.rank _ past);
      err = tt;
      refuses = tt;
      private = EachKeepsPrivate-same c.args.nodes.now;
    }

pub returns-then-rank-nodes-clause-made : goal.returns-then-rank-nodes-clause-made
returns-then-rank-nodes-clause-made g c = sym (runs-past c.args.nodes.now c.args.rank c.if-rank-nodes.true)

pub returns-then-not-is_running-clause-step : goal.returns-then-not-is_running-clause-step
returns-then-not-is_running-clause-step g c =
    let stopped =
    runs-found c.args.nodes.now c.args.rank c.index-nodes-rank.result false (omega arith) c.index-nodes-rank.is
    (ap is_running (sym c.state.ensures) ∙ sym c.is_running.ensures ∙ c.if-not-is_running.true) in
    record {
      ok = sym (stepped-disabled c.args.input.now c.args.rank _ stopped);
      err = tt;
      refuses = tt;
      private = EachKeepsPrivate-same c.args.nodes.now;
    }

pub returns-then-not-is_running-clause-made : goal.returns-then-not-is_running-clause-made
returns-then-not-is_running-clause-made g c =
    sym (runs-found c.args.nodes.now c.args.rank c.index-nodes-rank.result false (omega arith) c.index-nodes-rank.is
    (ap is_running (sym c.state.ensures) ∙ sym c.is_running.ensures ∙ c.if-not-is_running.true))

pub returns-in_err-step-clause-step : goal.returns-in_err-step-clause-step
returns-in_err-step-clause-step g c =
    let p = err_from_is_err_and c.from_residual.result c.from_residual.ensures.1 in
    let input = c.args.input.now in
    let nodes = c.args.nodes.now in
    let node = c.index-nodes-rank-2.result in
    let is = c.index-nodes-rank-2.is in
    let same = c.in_err-step.ensures.err in
    rw p.1 (record {
      ok = tt;
      err = (0, omega arith, states-same input nodes c.args.rank node c.step.new.self (omega arith) is same);
      refuses = rw (found-new input nodes c.args.rank node c.step.new.self (omega arith) is, same) c.in_err-step.ensures.refuses;
      private = kept-private input nodes c.args.rank node c.step.new.self (omega arith) is c.in_err-step.ensures.private;
    })

pub returns-clause-step : goal.returns-clause-step
returns-clause-step g c =
    let input = c.args.input.now in
    let nodes = c.args.nodes.now in
    let node = c.index-nodes-rank-2.result in
    record {
      ok = states-step input nodes c.args.rank node c.step.new.self (omega arith) c.index-nodes-rank-2.is c.in_ok-step.ensures.ok;
      err = tt;
      refuses = tt;
      private = kept-private input nodes c.args.rank node c.step.new.self
          (omega arith) c.index-nodes-rank-2.is c.in_ok-step.ensures.private;
    }

pub returns-clause-made : goal.returns-clause-made
returns-clause-made g c =
    sym (runs-found c.args.nodes.now c.args.rank c.index-nodes-rank.result true (omega arith) c.index-nodes-rank.is
    (ap is_running (sym c.state.ensures) ∙ sym c.is_running.ensures ∙ c.if-not-is_running.false))

pub bounds-nodes-rank : goal.bounds-nodes-rank
bounds-nodes-rank g c = c.if-rank-nodes.false

pub bounds-nodes-rank-2 : goal.bounds-nodes-rank-2
bounds-nodes-rank-2 g c = c.if-rank-nodes.false
