-- The bytes of a range within one page are those of the page from the range's place in it on.
use Rattle.std.proofs.Common.{◌/◌, ◌%◌, ◌<◌, length, ap, ◌∙◌, arith}
use Rattle.node_memory.specs.Bytes.{bytes_at}
use Rattle.node_memory.proofs.InPage.{stand_in_page}
use Rattle.node_memory.proofs.Shown.{size-shown, range-shown}
use Rattle.node_memory.proofs.Table.{table}
use Rattle.node_memory.proofs.Writes.{length-bytes_at}
use Rattle.node_memory.proofs.memory.Memory.window.Goals as goal

pub index-requires : goal.index-requires
index-requires g c =
    let size = size-shown (table _ _ c.self.view_is c.self.invariant) in
    let pages_in_vec = c.self.inside.pages.ok.0 in
    omega (arith, size, pages_in_vec)

pub returns : goal.returns
returns g c =
    let t = table _ _ c.self.view_is c.self.invariant in
    let m = c.args.self.now.bytes in
    let size = size-shown t in
    let in_table : c.args.addr / 4096 < length c.self.inside.pages.items = omega (arith, size) in
    let value =
    ap (λ page. bytes_at page (c.args.addr % 4096) c.args.len) c.bytes.ensures
    ∙ range-shown t c.args.addr c.args.len c.index.result.now in_table c.requires.one_page c.index.ensures in
    let within =
    stand_in_page (length c.self.inside.pages.items) (length m) c.args.addr c.args.len size c.requires.begins c.requires.one_page in
    record { value = value; long = ap length value ∙ length-bytes_at m c.args.addr c.args.len within }
