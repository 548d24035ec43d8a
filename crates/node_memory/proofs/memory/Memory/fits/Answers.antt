-- The table's pages, of 4,096 bytes each, make the size that the range is compared with.
use Rattle.std.proofs.Common.{◌≡◌, ◌*◌, length, ap, ◌∙◌, arith}
use Rattle.node_memory.specs.Bytes.{fits}
use Rattle.node_memory.proofs.Shown.{size-shown}
use Rattle.node_memory.proofs.Table.{table}
use Rattle.node_memory.proofs.memory.Memory.fits.Goals as goal

pub returns : goal.returns
returns g c =
    let t = table _ _ c.self.view_is c.self.invariant in
    let size = size-shown t in
    let vec = c.self.inside.pages.ok.0 in
    let e : c.len.result ≡ length c.self.inside.pages.items = omega (arith, vec) in
    ap (λ n. fits n c.args.addr c.args.len) (ap (λ k. k * 4096) e ∙ size)
