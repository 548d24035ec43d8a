-- Steps of the node at a place are as many steps of the row at that rank, and have the addresses of that node's steps.
use Rattle.std.proofs.Common.{length, sym, ap, ◌∙◌}
use Rattle.std.proofs.lemmas.Result.{on_ok_weaker, on_err_weaker}
use Rattle.node_core.specs.Addresses.{next_addresses}
use Rattle.node_core.specs.Node.{PreparedNode}
use Rattle.bsp_exchange.specs.Exchange.{states}
use Rattle.machine_core.proofs.Addresses.{addresses-found, if_ok_weaker}
use Rattle.machine_core.proofs.States.{found-new, kept-private, state_at_place, states-often}
use Rattle.machine_core.proofs.row.run_traced_at.Goals as goal

pub bounds-nodes-rank : goal.bounds-nodes-rank
bounds-nodes-rank g c = c.requires

pub returns-clause-steps : goal.returns-clause-steps
returns-clause-steps g c =
    let input = c.args.input.now in
    let nodes = c.args.nodes.now in
    let node = c.index-nodes-rank.result in
    let run = c.run_traced.new.self in
    record {
      ok =
          on_ok_weaker c.run_traced.result
          (states-often input nodes c.args.rank node run c.requires c.index-nodes-rank.is (length c.args.pcs.now)) c.run_traced.ensures.ok;
      err =
          on_err_weaker c.run_traced.result
          (λ made. (made.0, made.1, states-often input nodes c.args.rank node run c.requires c.index-nodes-rank.is made.0 made.2))
          c.run_traced.ensures.err;
      refuses =
          on_err_weaker c.run_traced.result (λ may. rw (found-new input nodes c.args.rank node run c.requires c.index-nodes-rank.is) may)
          c.run_traced.ensures.refuses;
      private = kept-private input nodes c.args.rank node run c.requires c.index-nodes-rank.is c.run_traced.ensures.private;
    }

pub returns-clause-addresses : goal.returns-clause-addresses
returns-clause-addresses g c =
    let input = c.args.input.now in
    let nodes = c.args.nodes.now in
    let k = length c.args.pcs.now in
    let node = c.index-nodes-rank.result in
    let found = state_at_place nodes c.args.rank node c.requires c.index-nodes-rank.is in
    if_ok_weaker c.run_traced.result _ _
    (λ made those. record {
      few = those.few;
      are =
          those.are ∙ ap (λ (p : PreparedNode). next_addresses input k p.node) (sym c.index-nodes-rank.is)
          ∙ sym (addresses-found input c.args.rank k (states nodes) node.node found);
    })
    c.run_traced.ensures.addresses
