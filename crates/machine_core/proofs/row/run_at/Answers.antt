-- Steps of the node at a place are as many steps of the row at that rank; all other nodes are kept.
use Rattle.std.proofs.Common.{length}
use Rattle.std.proofs.lemmas.Result.{on_ok_weaker, on_err_weaker}
use Rattle.machine_core.proofs.States.{kept-private, states-often, found-new}
use borrow.Author.Rules.{scaled_Fits}
use Rattle.machine_core.proofs.row.run_at.Goals as goal

pub bounds-nodes-rank : goal.bounds-nodes-rank
bounds-nodes-rank g c = c.requires

pub returns : goal.returns
returns g c =
    let input = c.args.input.now in
    let nodes = c.args.nodes.now in
    let node = c.index-nodes-rank.result in
    let run = c.run.new.self in
    record {
      ok =
          on_ok_weaker c.run.result (states-often input nodes c.args.rank node run c.requires c.index-nodes-rank.is c.args.most)
          c.run.ensures.ok;
      err =
          on_err_weaker c.run.result
          (λ made. (made.0, made.1, states-often input nodes c.args.rank node run c.requires c.index-nodes-rank.is made.0 made.2))
          c.run.ensures.err;
      refuses =
          on_err_weaker c.run.result (λ may. rw (found-new input nodes c.args.rank node run c.requires c.index-nodes-rank.is) may)
          c.run.ensures.refuses;
      private = kept-private input nodes c.args.rank node run c.requires c.index-nodes-rank.is c.run.ensures.private;
    }

pub offset_bounds-nodes-rank : goal.offset_bounds-nodes-rank
offset_bounds-nodes-rank g c = scaled_Fits c.args.rank (length c.args.nodes.now) _ c.requires (search c.well_formed)
