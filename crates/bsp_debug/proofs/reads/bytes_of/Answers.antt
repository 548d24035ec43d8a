-- The range lies in the memory, so the bytes that are appended are those of the range.
use Rattle.std.proofs.Common.{◌∙◌, ap}
use Rattle.node_memory.specs.Bytes.{bytes_at}
use Rattle.bsp_debug.specs.Reply.{bytes}
use Rattle.bsp_debug.proofs.reads.bytes_of.Goals as goal

pub append_range-requires : goal.append_range-requires
append_range-requires g c = rw c.memory.ensures.value c.requires

pub returns : goal.returns
returns g c =
    let read = rw c.new-bytes.ensures.items at c.in_ok-append_range.ensures.ok in
    ap bytes (c.from_vec.ensures ∙ read ∙ ap (λ m. bytes_at m c.args.addr c.args.len) c.memory.ensures.value)
