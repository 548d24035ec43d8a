-- The last of the reversed row is the node of the next rank, which has made no step yet.
use Rattle.std.proofs.Common.{◌∙◌, sym, ap, arith}
use Rattle.std.specs.Prelude.{slice_get}
use Rattle.claim_table.proofs.Keeping.{popped, not_stepped}
use Rattle.claim_table.proofs.keeper.fill_all.Goals as goal

pub fill-requires-clause-stepped : goal.fill-requires-clause-stepped
fill-requires-clause-stepped g c =
    let rank = c.loop-node.rank in
    let next =
    popped c.args.row.now.items rank c.loop-node.row.items c.pop.new.self.items c.in-Some.node c.loop-node.invariant.left
    c.in-Some.ensures.items in
    not_stepped c.args.shared.now.key.input.now c.args.shared.now.key.row.value.items rank c.in-Some.node
    (ap (λ l. slice_get l rank) (sym c.requires.whole) ∙ next.0)

pub loop-node-preserved : goal.loop-node-preserved
loop-node-preserved g c =
    let inv = c.loop-node.invariant in
    let next =
    popped c.args.row.now.items c.loop-node.rank c.loop-node.row.items c.pop.new.self.items c.in-Some.node inv.left
    c.in-Some.ensures.items in
    let less = c.in-Some.ensures.cases in
    record {
      left = next.1;
      count = omega (arith, inv.count, less);
      seated = c.fill.ensures.seated;
      room = c.pop.ensures.capacity ∙ inv.room;
    }
