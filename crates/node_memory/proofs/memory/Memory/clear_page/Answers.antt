-- The page of zeros in a page's place is zeros written there; it is shared from then on.
use Rattle.std.proofs.Common.{false, length, refl, ap, ◌∙◌, ℕ}
use Rattle.std.proofs.lemmas.List.{length-replicate}
use Rattle.node_memory.proofs.Shown.{page-shown, flags-set}
use Rattle.node_memory.proofs.Table.{table, IsTable-set}
use Rattle.node_memory.proofs.Zeros.{page_cleared-shown}
use Rattle.node_memory.proofs.memory.Memory.clear_page.Goals as goal

pub index_mut-requires : goal.index_mut-requires
index_mut-requires g c = page-shown (table _ _ c.self.view_is c.self.invariant) c.args.page _ c.self.inside.pages.ok.0 c.requires.within

pub invariant_of-self : goal.invariant_of-self
invariant_of-self g c =
    IsTable-set _ c.args.page c.in_ok-self-inside.field-0 c.self.invariant
    (ap length (c.in_ok-self-inside.ensures.bytes ∙ c.requires.zeros.zeros) ∙ length-replicate {A = ℕ} 4096 0)

pub returns-clause-bytes : goal.returns-clause-bytes
returns-clause-bytes g c =
    let t = table _ _ c.self.view_is c.self.invariant in
    let in_table = page-shown t c.args.page _ refl c.requires.within in
    page_cleared-shown t c.args.page c.index_mut.result.now c.in_ok-self-inside.field-0 in_table c.index_mut.ensures.value
    (c.in_ok-self-inside.ensures.bytes ∙ c.requires.zeros.zeros)

pub returns-clause-private : goal.returns-clause-private
returns-clause-private g c =
    let t = table _ _ c.self.view_is c.self.invariant in
    flags-set t c.args.page c.in_ok-self-inside.field-0 false c.in_ok-self-inside.ensures.shared
