-- Page by page a table of shared pages with the same bytes is made, and it shows the memory with no private page.
use Rattle.std.proofs.Common.{◌≡◌, ◌*◌, length, sym, ap, ◌∙◌, arith}
use Rattle.node_memory.specs.Table.{page_bytes}
use Rattle.node_memory.proofs.Table.{table}
use Rattle.std.specs.List.{flat_map}
use Rattle.std.proofs.lemmas.List.{take_all}
use Rattle.node_memory.proofs.Shown.{AllShared-more, AllShared-view, flat_map-take_more, whole-at, size-shown}
use Rattle.node_memory.proofs.memory.Memory.share.Goals as goal

pub loop-page-preserved : goal.loop-page-preserved
loop-page-preserved g c =
    let item = c.page-item.result in
    let items = c.as_slice-page-items.ensures.value in
    let long : length (page_bytes item) ≡ 4096 =
    whole-at page_bytes _ _ c.loop-page.page-index item c.self.invariant.whole items c.loop-page-test.true c.page-item.is in
    AllShared-more c.loop-page.invariant c.in_ok-share.field-0 _ _ c.in_ok-push.ensures.items c.in_ok-share.ensures.shared
    (ap length c.in_ok-share.ensures.bytes ∙ long)
    (flat_map-take_more page_bytes _ _ item _ c.loop-page-test.true c.page-item.is c.in_ok-share.ensures.bytes)

pub returns : goal.returns
returns g c =
    let t = table _ _ c.self.view_is c.self.invariant in
    let items = c.as_slice-page-items.ensures.value in
    let count : c.loop-page.page-index ≡ length c.self.inside.pages.items = omega (arith, ap length items) in
    let all = take_all c.loop-page.page-index c.as_slice-page-items.result.now c.loop-page-test.false in
    AllShared-view c.loop-page.invariant _ (ap (flat_map page_bytes) (all ∙ items) ∙ t.bytes)
    (sym (size-shown t) ∙ ap (λ k. k * 4096) (sym count))
