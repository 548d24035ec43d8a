-- The table's pages, of 4,096 bytes each, have all bytes of the memory.
use Rattle.std.proofs.Common.{◌≡◌, ◌*◌, length, ap, ◌∙◌, arith}
use Rattle.node_memory.proofs.Shown.{size-shown}
use Rattle.node_memory.proofs.Table.{table}
use Rattle.node_memory.proofs.memory.Memory.size.Goals as goal

pub returns-clause-value : goal.returns-clause-value
returns-clause-value g c =
    let t = table _ _ c.self.view_is c.self.invariant in
    let size = size-shown t in
    let vec = c.self.inside.pages.ok.0 in
    let e : c.len.result ≡ length c.self.inside.pages.items = omega (arith, vec) in
    ap (λ k. k * 4096) e ∙ size
