-- The first page of the range that is not private tells that the range is not; where none is found, all its pages are private.
use Rattle.std.proofs.Common.{◌≡◌, ◌<◌, true, false, length, sym, ap, ◌∙◌, arith, Some}
use Rattle.std.specs.Prelude.{slice_get}
use Rattle.std.proofs.lemmas.Bool.{false≢true}
use Rattle.node_memory.proofs.Table.{table}
use Rattle.node_memory.proofs.Shown.{size-shown, flag-is}
use Rattle.node_memory.proofs.Owned.{PrivateUpTo-read, not_Owns-from_up_to}
use Rattle.node_memory.proofs.memory.Memory.owns.Goals as goal

pub returns-then-not-is_private : goal.returns-then-not-is_private
returns-then-not-is_private g c =
    let t = table _ _ c.self.view_is c.self.invariant in
    let size = size-shown t in
    let vec = c.self.inside.pages.ok.0 in
    let in_table : c.loop-page.page < length c.self.inside.pages.items = omega (arith, vec) in
    let shared : slice_get c.args.self.now.private c.loop-page.page ≡ Some false =
    flag-is t c.loop-page.page c.index.result.now in_table c.index.ensures ∙ ap Some
    (sym c.is_private.ensures ∙ c.if-not-is_private.true) in (
      λ e. absurd (false≢true e),
      λ o. absurd (not_Owns-from_up_to _ _ c.args.addr c.args.len c.loop-page.page c.loop-page.invariant (omega arith) (omega arith)
          (omega arith) shared o),
    )

pub loop-page-preserved : goal.loop-page-preserved
loop-page-preserved g c =
    let t = table _ _ c.self.view_is c.self.invariant in
    let size = size-shown t in
    let vec = c.self.inside.pages.ok.0 in
    let in_table : c.loop-page.page < length c.self.inside.pages.items = omega (arith, vec) in
    let private : slice_get c.args.self.now.private c.loop-page.page ≡ Some true =
    flag-is t c.loop-page.page c.index.result.now in_table c.index.ensures ∙ ap Some
    (sym c.is_private.ensures ∙ c.if-not-is_private.false) in
    PrivateUpTo-read _ _ _ c.loop-page.invariant (omega arith) private
