-- A run makes some steps of the node, also where it is refused memory, so the node may be given back.
use Rattle.claim_table.proofs.Serving.{some_steps}
use Rattle.claim_table.proofs.worker.Worker.serve.Goals as goal

pub give-requires-clause-out : goal.give-requires-clause-out
give-requires-clause-out g c = (
  c.in-Some.node.node,
  c.in-Some.ensures.taken.1,
  some_steps c.take.new.self.input.now c.args.work.now.slice c.in-Some.node.node c.run-answer.new.self.node c.run-answer.result
      c.run-answer.ensures.ok c.run-answer.ensures.err,
)
