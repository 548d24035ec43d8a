-- The pages become shared one after another.
use Rattle.std.proofs.Common.{refl, ◌∙◌, arith}
use Rattle.node_memory.proofs.Shown.{none_private-paged, paged-shown, pages-shown}
use Rattle.node_memory.proofs.Table.{table}
use Rattle.node_memory.proofs.Owned.{SharedUpTo-none, SharedUpTo-more, SharedUpTo-all}
use Rattle.node_memory.proofs.memory.Memory.share_pages.Goals as goal

pub loop-page-init : goal.loop-page-init
loop-page-init g c = (refl, SharedUpTo-none _)

pub share_page-requires : goal.share_page-requires
share_page-requires g c =
    let same = c.loop-page.invariant.1.pages in
    let pages = pages-shown (table _ _ c.self.view_is c.self.invariant) in
    let vec = c.self.inside.pages.ok.0 in
    omega (arith, same, pages, vec)

pub loop-page-preserved : goal.loop-page-preserved
loop-page-preserved g c =
    let same = c.loop-page.invariant.1.pages in
    let pages = pages-shown (table _ _ c.self.view_is c.self.invariant) in
    let vec = c.self.inside.pages.ok.0 in (
      c.in_ok-share_page.ensures.bytes ∙ c.loop-page.invariant.0,
      SharedUpTo-more _ _ _ _ c.loop-page.invariant.1 (omega (arith, same, pages, vec)) c.in_ok-share_page.ensures.private,
    )

pub returns : goal.returns
returns g c =
    let t = table _ _ c.self.view_is c.self.invariant in
    let pages = pages-shown t in
    let vec = c.self.inside.pages.ok.0 in
    let flags = SharedUpTo-all _ _ c.loop-page.page c.loop-page.invariant.1 (omega (arith, pages, vec)) in
    none_private-paged _ _ _ c.loop-page.invariant.0 flags (paged-shown t)
