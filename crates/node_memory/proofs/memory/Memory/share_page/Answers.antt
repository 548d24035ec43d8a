-- A copy in the place of a private page changes no byte and one flag; a page that is shared already has that flag.
use Rattle.std.proofs.Common.{false, refl, sym, ap, ◌∙◌}
use Rattle.node_memory.proofs.Shown.{page-shown, copy-shown, flags-set, flags-same}
use Rattle.node_memory.proofs.Table.{table, IsTable-same}
use Rattle.node_memory.proofs.memory.Memory.share_page.Goals.{in-Private-1, in-Shared-1}
use Rattle.node_memory.proofs.memory.Memory.share_page.Goals as goal

pub index-requires : goal.index-requires
index-requires g c = page-shown (table _ _ c.self.view_is c.self.invariant) c.args.page _ c.self.inside.pages.ok.0 c.requires

pub index-requires-then-is_private : goal.index-requires-then-is_private
index-requires-then-is_private g c =
    page-shown (table _ _ c.self.view_is c.self.invariant) c.args.page _ c.self.inside.pages.ok.0 c.requires

pub index_mut-requires : goal.index_mut-requires
index_mut-requires g c = page-shown (table _ _ c.self.view_is c.self.invariant) c.args.page _ c.self.inside.pages.ok.0 c.requires

pub invariant_of-self : goal.invariant_of-self
invariant_of-self g c =
    let in_table = page-shown (table _ _ c.self.view_is c.self.invariant) c.args.page _ refl c.requires in
    IsTable-same _ c.args.page c.index-then-is_private.result.now c.in_ok-self-inside.field-0 c.self.invariant in_table
    c.index-then-is_private.ensures c.in_ok-self-inside.ensures.bytes

pub invariant_of-self-in_ok-self-inside-2 : goal.invariant_of-self-in_ok-self-inside-2
invariant_of-self-in_ok-self-inside-2 g c =
    let in_table = page-shown (table _ _ c.self.view_is c.self.invariant) c.args.page _ refl c.requires in
    IsTable-same _ c.args.page c.index-then-is_private.result.now c.in_ok-self-inside.field-0 c.self.invariant in_table
    c.index-then-is_private.ensures c.in_ok-self-inside.ensures.bytes

pub returns-in_ok-self-inside-clause-bytes : goal.returns-in_ok-self-inside-clause-bytes
returns-in_ok-self-inside-clause-bytes g c =
    let t = table _ _ c.self.view_is c.self.invariant in
    let in_table = page-shown t c.args.page _ refl c.requires in
    let same =
    copy-shown t c.args.page c.index-then-is_private.result.now c.in_ok-self-inside.field-0 in_table c.index-then-is_private.ensures
    c.in_ok-self-inside.ensures.bytes in
    elim c.match-index_mut-branch.branch [
      | in-Private-1 w ↦ ap (λ m. m.bytes) w.self-is ∙ same
      | in-Shared-1 w ↦ ap (λ m. m.bytes) w.self-is
          ∙ same
    ]

pub returns-in_ok-self-inside-clause-private : goal.returns-in_ok-self-inside-clause-private
returns-in_ok-self-inside-clause-private g c =
    let t = table _ _ c.self.view_is c.self.invariant in
    let flags = flags-set t c.args.page c.in_ok-self-inside.field-0 false c.in_ok-self-inside.ensures.shared in
    elim c.match-index_mut-branch.branch [
      | in-Private-1 w ↦ ap (λ m. m.private) w.self-is ∙ flags
      | in-Shared-1 w ↦ ap (λ m. m.private) w.self-is
          ∙ flags
    ]

pub returns-else-is_private-clause-private : goal.returns-else-is_private-clause-private
returns-else-is_private-clause-private g c =
    let t = table _ _ c.self.view_is c.self.invariant in
    let in_table = page-shown t c.args.page _ refl c.requires in
    sym (flags-same t c.args.page c.index.result.now c.index.result.now false in_table c.index.ensures
    (sym c.is_private.ensures ∙ c.if-is_private.false))
