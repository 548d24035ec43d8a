-- A sealed table has each node at home after some steps of its own, so the row that is taken out is so, node by node.
use Rattle.std.proofs.Common.{◌≡◌, ℕ, List, sym, ap, subst, arith}
use Rattle.std.specs.List.{AllZip}
use Rattle.core.specs.Mem.Slots.{slots_items}
use Rattle.node_core.specs.Node.{PreparedNode, local_steps}
use Rattle.claim_table.specs.Start.{start_of}
use Rattle.claim_table.proofs.Ends.{closing, rows-zipped}
use Rattle.claim_table.proofs.keeper.ClaimTable.close.Goals as goal

pub take_out-requires-clause-filled : goal.take_out-requires-clause-filled
take_out-requires-clause-filled g c =
    let seat = c.seal.new.seat in
    let closed = c.close_with.result in
    let ends =
    closing (start_of c.args.self.table.shared.key) c.args.self.ranks seat.id seat.me.0 (ap (λ m. m.0) c.seal.ensures.seated.1)
    (slots_items closed.words) (slots_items closed.slots) c.close_with.ensures.values.2 in
    λ k within. let found = ends.1 k (omega (arith, within, closed.slots.ok.0)) in (found.0, found.1)

pub returns-clause-stepped : goal.returns-clause-stepped
returns-clause-stepped g c =
    let seat = c.seal.new.seat in
    let closed = c.close_with.result in
    let key = c.args.self.table.shared.key in
    let ends =
    closing (start_of key) c.args.self.ranks seat.id seat.me.0 (ap (λ m. m.0) c.seal.ensures.seated.1) (slots_items closed.words)
    (slots_items closed.slots) c.close_with.ensures.values.2 in
    subst (λ (input : List ℕ). AllZip (λ (o n : PreparedNode). (k : ℕ) × (n.node ≡ local_steps input k o.node)) key.row.value.items
    c.take_out.result.items) (sym c.args.self.reads)
    (rows-zipped key.input.now key.row.value.items c.take_out.result.items
    (slots_items closed.slots) c.take_out.ensures.items ends.0 ends.1)
