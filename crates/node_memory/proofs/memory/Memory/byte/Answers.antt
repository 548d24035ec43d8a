-- The byte at an address is that at its place in its page, and the table has the page.
use Rattle.std.proofs.Common.{◌/◌, ◌%◌, ◌<◌, length, get_or, ap, ◌∙◌, arith}
use Rattle.node_memory.proofs.Shown.{size-shown, byte-shown}
use Rattle.node_memory.proofs.Table.{table}
use Rattle.node_memory.proofs.memory.Memory.byte.Goals as goal

pub index-requires : goal.index-requires
index-requires g c =
    let t = table _ _ c.self.view_is c.self.invariant in
    let size = size-shown t in
    let vec = c.self.inside.pages.ok.0 in
    omega (arith, vec)

pub returns : goal.returns
returns g c =
    let t = table _ _ c.self.view_is c.self.invariant in
    let size = size-shown t in
    let vec = c.self.inside.pages.ok.0 in
    let in_table : c.args.addr / 4096 < length c.self.inside.pages.items = omega arith in
    ap (λ bs. get_or bs (c.args.addr % 4096) 0) c.bytes.ensures ∙ byte-shown t c.args.addr c.index.result.now in_table c.index.ensures
