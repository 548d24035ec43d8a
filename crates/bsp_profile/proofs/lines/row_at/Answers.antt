-- The row of the node at a place, by what the table and the node tell.
use Rattle.std.proofs.Common.{◌≡◌, ◌-◌, ◌<◌, ◌∙◌, ℕ, List, ap, sym, length, get_or, Some, arith}
use Rattle.std.proofs.lemmas.List.{get_or_default}
use Rattle.bsp_requests.specs.Requests.{Requests}
use Rattle.bsp_profile.specs.declared.row.Row.{Row}
use Rattle.bsp_profile.proofs.Machines.{length-row}
use Rattle.bsp_profile.proofs.Rows.{length-started, node_at, rank_at, row_there, row_is}
use Rattle.bsp_profile.proofs.lines.row_at.Goals as goal

pub offset_bounds-nodes-rank : goal.offset_bounds-nodes-rank
offset_bounds-nodes-rank g c =
    omega (arith, length-row c.nodes.result.now c.args.machine.now.nodes c.nodes.ensures, c.requires.tally.long, c.requires.rank)

pub bounds-nodes-rank : goal.bounds-nodes-rank
bounds-nodes-rank g c =
    omega (arith, length-row c.nodes.result.now c.args.machine.now.nodes c.nodes.ensures, c.requires.tally.long, c.requires.rank)

pub bounds-started-rank : goal.bounds-started-rank
bounds-started-rank g c =
    let m = c.args.machine.now in
    omega (arith, ap length c.started.ensures, length-started m c.requires.sound, c.requires.tally.long, c.requires.rank)

pub returns : goal.returns
returns g c =
    let m = c.args.machine.now in
    let i = c.args.rank in
    let t = c.args.tally.now in
    let ps = c.nodes.result.now in
    let p = c.index-nodes-rank.result in
    let n = p.node in
    let sound = c.requires.sound in
    let long = length-row ps m.nodes c.nodes.ensures in
    let inside : i < length m.nodes = omega (arith, c.requires.tally.long, c.requires.rank) in
    let s = get_or c.started.result.now i 0 in
    let there = node_at m ps i p c.nodes.ensures (omega (arith, long)) c.index-nodes-rank.is in
    let begun : get_or m.started i s ≡ s =
    get_or_default m.started i s 0 (omega (arith, length-started m sound)) ∙ ap (λ (xs : List ℕ). get_or xs i 0) (sym c.started.ensures) in
    row_there m i n s sound inside there begun
    ∙ ap (λ (r : Row). Some r)
    (row_is m t.count t.cells.items c.requires.tally i c.requires.rank n s c.superstep.result c.rank.result c.saturating_sub.result
    c.moved_out.result
    c.moved_in.result c.bytes.result c.messages.result c.len.result c.state.result (rank_at m i n sound inside there)
    c.superstep.ensures c.rank.ensures (c.saturating_sub.ensures ∙ ap (λ (x : ℕ). x - s) c.ticks.ensures.value) c.moved_out.ensures
    c.moved_in.ensures
    c.bytes.ensures.value c.messages.ensures (c.len.ensures.len ∙ ap (λ (r : Requests). length r.requests) c.requests.ensures.value)
    c.state.ensures)
