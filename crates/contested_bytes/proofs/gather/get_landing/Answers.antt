-- The bytes that the target has there are as many as the get asks for, so they lie within the caller's memory.
use Rattle.std.proofs.Common.{ℕ, ◌+◌, ◌-◌, ◌≤◌, List, length, drop, sym, ap, ap₂, ◌∙◌, arith}
use Rattle.std.proofs.lemmas.List.{length-take}
use Rattle.node_memory.specs.Bytes.{bytes_at}
use Rattle.bsp_exchange.specs.Landings.{get_key}
use Rattle.bsp_exchange.proofs.Transfers.{memory_at, node_there}
use Rattle.contested_bytes.proofs.gather.get_landing.Goals as goal

short : (m : List ℕ) (from len : ℕ) → length (bytes_at m from len) ≤ len
short m from len = let e = length-take (from + len - from) (drop from m) in omega (arith, e)

pub start_of-from-requires : goal.start_of-from-requires
start_of-from-requires g c = record { inside = c.requires.inside }

pub bounds-nodes-get : goal.bounds-nodes-get
bounds-nodes-get g c =
    node_there c.args.nodes.now c.args.get.now.target c.args.get.now.slot c.args.get.now.offset c.args.get.now.len c.requires.inside

pub invariant_of-result : goal.invariant_of-result
invariant_of-result g c =
    let get = c.args.get.now in
    omega (arith, c.requires.room, ap length c.in-Ok.ensures.ok, short c.memory-memory.result.now.bytes c.start_of-from.result get.len)

pub returns : goal.returns
returns g c =
    let get = c.args.get.now in
    let nodes = c.args.nodes.now in
    ap (λ (bs : List ℕ). record { rank = c.args.caller; addr = get.dst; bytes = bs; key = get_key c.args.caller c.args.issue })
    (c.in-Ok.ensures.ok
    ∙ ap₂ (λ (m : List ℕ) (a : ℕ). bytes_at m a get.len)
    (c.memory-memory.ensures.value
    ∙ sym (memory_at nodes get.target c.index-nodes-get.result
    (node_there c.args.nodes.now c.args.get.now.target c.args.get.now.slot c.args.get.now.offset c.args.get.now.len c.requires.inside)
    c.index-nodes-get.is)) c.start_of-from.ensures.value)

pub offset_bounds-nodes-get : goal.offset_bounds-nodes-get
offset_bounds-nodes-get g c =
    let get = c.args.get.now in
    let there = node_there c.args.nodes.now get.target get.slot get.offset get.len c.requires.inside in
    omega (arith, there)
