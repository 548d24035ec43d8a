-- A copy in the place of a shared page changes no byte and one flag; a page that is private already has that flag.
use Rattle.std.proofs.Common.{true, refl, sym, ap, ◌∙◌, Some}
use Rattle.node_memory.proofs.Shown.{page-shown, copy-shown, flag-is, flags-set, flags-same}
use Rattle.node_memory.proofs.Table.{table, IsTable-same}
use Rattle.node_memory.proofs.Owned.{on_err-given}
use Rattle.node_memory.proofs.memory.Memory.make_page_private.Goals.{in-Private-1, in-Shared-1}
use Rattle.node_memory.proofs.memory.Memory.make_page_private.Goals as goal

pub index-requires : goal.index-requires
index-requires g c = page-shown (table _ _ c.self.view_is c.self.invariant) c.args.page _ c.self.inside.pages.ok.0 c.requires

pub index-requires-then-not-is_private : goal.index-requires-then-not-is_private
index-requires-then-not-is_private g c =
    page-shown (table _ _ c.self.view_is c.self.invariant) c.args.page _ c.self.inside.pages.ok.0 c.requires

pub index_mut-requires : goal.index_mut-requires
index_mut-requires g c = page-shown (table _ _ c.self.view_is c.self.invariant) c.args.page _ c.self.inside.pages.ok.0 c.requires

pub returns-in_err-self-inside-clause-refused : goal.returns-in_err-self-inside-clause-refused
returns-in_err-self-inside-clause-refused g c =
    let t = table _ _ c.self.view_is c.self.invariant in
    let in_table = page-shown t c.args.page _ refl c.requires in
    on_err-given c.from_residual.result
    (flag-is t c.args.page c.index.result.now in_table c.index.ensures ∙ ap Some (sym c.is_private.ensures ∙ c.if-not-is_private.true))

pub invariant_of-self : goal.invariant_of-self
invariant_of-self g c =
    let in_table = page-shown (table _ _ c.self.view_is c.self.invariant) c.args.page _ refl c.requires in
    IsTable-same _ c.args.page c.index-then-not-is_private.result.now c.in_ok-self-inside.field-0 c.self.invariant in_table
    c.index-then-not-is_private.ensures c.in_ok-self-inside.ensures.bytes

pub invariant_of-self-in_ok-self-inside-2 : goal.invariant_of-self-in_ok-self-inside-2
invariant_of-self-in_ok-self-inside-2 g c =
    let in_table = page-shown (table _ _ c.self.view_is c.self.invariant) c.args.page _ refl c.requires in
    IsTable-same _ c.args.page c.index-then-not-is_private.result.now c.in_ok-self-inside.field-0 c.self.invariant in_table
    c.index-then-not-is_private.ensures c.in_ok-self-inside.ensures.bytes

pub returns-in_ok-self-inside-clause-bytes : goal.returns-in_ok-self-inside-clause-bytes
returns-in_ok-self-inside-clause-bytes g c =
    let t = table _ _ c.self.view_is c.self.invariant in
    let in_table = page-shown t c.args.page _ refl c.requires in
    let same =
    copy-shown t c.args.page c.index-then-not-is_private.result.now c.in_ok-self-inside.field-0 in_table c.index-then-not-is_private.ensures
    c.in_ok-self-inside.ensures.bytes in
    elim c.match-index_mut-branch.branch [
      | in-Private-1 w ↦ ap (λ m. m.bytes) w.self-is ∙ same
      | in-Shared-1 w ↦ ap (λ m. m.bytes) w.self-is
          ∙ same
    ]

pub returns-in_ok-self-inside-clause-ok : goal.returns-in_ok-self-inside-clause-ok
returns-in_ok-self-inside-clause-ok g c =
    let t = table _ _ c.self.view_is c.self.invariant in
    let flags = flags-set t c.args.page c.in_ok-self-inside.field-0 true c.in_ok-self-inside.ensures.private in
    elim c.match-index_mut-branch.branch [
      | in-Private-1 w ↦ ap (λ m. m.private) w.self-is ∙ flags
      | in-Shared-1 w ↦ ap (λ m. m.private) w.self-is
          ∙ flags
    ]

pub returns-else-not-is_private-clause-ok : goal.returns-else-not-is_private-clause-ok
returns-else-not-is_private-clause-ok g c =
    let t = table _ _ c.self.view_is c.self.invariant in
    let in_table = page-shown t c.args.page _ refl c.requires in
    sym (flags-same t c.args.page c.index.result.now c.index.result.now true in_table c.index.ensures
    (sym c.is_private.ensures ∙ c.if-not-is_private.false))
