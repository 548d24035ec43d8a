-- The bytes read from the target's memory are what the get fetches, and the caller's part is put back with them.
use Rattle.std.proofs.Common.{sym, ◌∙◌}
use Rattle.node_memory.specs.Bytes.{bytes_at}
use Rattle.bsp_exchange.specs.Exchange.{states}
use Rattle.bsp_exchange.specs.Arrivals.{with_get}
use Rattle.bsp_exchange.proofs.Gathered.{put_back}
use Rattle.bsp_exchange.proofs.Transfers.{memory_at, fetched_is}
use Rattle.bsp_exchange.proofs.gather.add_get.Goals as goal

pub add_get-requires : goal.add_get-requires
add_get-requires g c =
    rw (c.memory-memory.ensures.value
    ∙ sym (memory_at c.args.nodes.now c.args.get.now.target c.index-nodes-get.result c.requires.target c.index-nodes-get.is))
    c.requires.within

pub returns : goal.returns
returns g c =
    let m = memory_at c.args.nodes.now c.args.get.now.target c.index-nodes-get.result c.requires.target c.index-nodes-get.is in
    let patch =
    fetched_is (states c.args.nodes.now) c.args.get.now c.memory-memory.result.now.bytes c.args.start
    (m ∙ sym c.memory-memory.ensures.value) c.requires.start in
    rw (sym patch) (put_back (with_get
    (record { addr = c.args.get.now.dst; bytes = bytes_at c.memory-memory.result.now.bytes c.args.start c.args.get.now.len })) c.args.caller
    c.args.parts.now c.index-parts-caller.result c.add_get.new.self c.add_get.result (rw c.requires.parts c.requires.caller)
    c.index-parts-caller.is (rw c.index-parts-caller.is c.add_get.ensures.ok))

pub bounds-parts-caller : goal.bounds-parts-caller
bounds-parts-caller g c = rw c.requires.parts c.requires.caller
