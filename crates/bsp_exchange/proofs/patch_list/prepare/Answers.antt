-- All of the span becomes private, or the pages of the patches do one after another, and what was private stays so.
use Rattle.std.proofs.Common.{◌≡◌, ℕ, ◌+◌, ◌-◌, ◌≤◌, Bool, List, length, refl, subst, ap, ◌∙◌, arith}
use Rattle.std.proofs.lemmas.Bool.Decides.{nat_tests}
use Rattle.std.proofs.lemmas.Result.{on_ok_weaker}
use Rattle.node_memory.specs.Pages.{Owns}
use Rattle.node_memory.proofs.Owned.{KeepsPrivate-same, KeepsPrivate-then}
use Rattle.node_core.specs.Node.{NodeState}
use Rattle.bsp_exchange.proofs.Patches.{len_within}
use Rattle.bsp_exchange.proofs.Patched.{patch_read, patch_fits, owns_more, owns_whole}
use Rattle.bsp_exchange.proofs.Spans.{memory_most, owned_within}
use Rattle.bsp_exchange.proofs.patch_list.prepare.Goals as goal

pub returns-then-is_owned_by-clause-ok : goal.returns-then-is_owned_by-clause-ok
returns-then-is_owned_by-clause-ok g c =
    let span = c.span_of-span.result in
    c.span_of-span.ensures.has c.args.node.now.private
    (subst (λ (ps : List Bool). (addr len : ℕ) → span.low ≤ addr → addr + len ≤ span.end → Owns ps addr len) c.memory-2.ensures.private
    (c.is_owned_by.ensures c.if-is_owned_by.true))

pub prepare_land-requires : goal.prepare_land-requires
prepare_land-requires g c =
    let span = c.span_of-span.result in
    let some = (c.is_in_one_page.ensures.0 c.if-is_in_one_page.true).0 in
    let end : c.low.result + c.len.result ≤ length c.args.node.now.node.hart.memory =
    omega (arith, some, c.low.ensures, c.len.ensures, c.span_of-span.ensures.end, c.size.ensures.value, ap length c.memory.ensures.value) in
    grind (arith, nat_tests)

pub returns-then-is_in_one_page-clause-ok : goal.returns-then-is_in_one_page-clause-ok
returns-then-is_in_one_page-clause-ok g c =
    let span = c.span_of-span.result in
    let private = c.prepare_land.new.self.private in
    on_ok_weaker c.prepare_land.result
    (λ owns.
    let all = subst (λ (n : ℕ). Owns private c.low.result n) c.len.ensures owns in
    let whole = subst (λ (n : ℕ). Owns private n (span.end - span.low)) c.low.ensures all in
    c.span_of-span.ensures.has private (λ addr len above below. owned_within private span addr len whole above below))
    c.prepare_land.ensures.ok

pub loop-place-init : goal.loop-place-init
loop-place-init g c = record { node = refl; ready = refl; private = KeepsPrivate-same _; owned = tt }

pub overflow_cast-bytes : goal.overflow_cast-bytes
overflow_cast-bytes g c =
    let patches = g.P.PatchList.patches c.args.patches.now in
    let hart = c.args.node.now.node.hart in
    let patch =
    patch_read patches c.loop-place.place _ c.addr.result c.bytes.result.now c.count-place-end.ensures c.loop-place-test.true
    c.addr.ensures c.bytes.ensures in
    let short =
    len_within (length hart.memory) c.addr.result (length c.bytes.result.now)
    (patch_fits (length hart.memory) patch c.requires.within) in
    omega (arith, short, memory_most hart c.memory.ensures.sound)

pub prepare_land-requires-in-loop-place : goal.prepare_land-requires-in-loop-place
prepare_land-requires-in-loop-place g c =
    let patches = g.P.PatchList.patches c.args.patches.now in
    let same_size : length c.loop-place.node.node.hart.memory ≡ length c.args.node.now.node.hart.memory =
    ap (λ (n : NodeState). length n.hart.memory) c.loop-place.invariant.node in
    let patch =
    patch_read patches c.loop-place.place _ c.addr.result c.bytes.result.now c.count-place-end.ensures c.loop-place-test.true
    c.addr.ensures c.bytes.ensures in
    rw same_size (patch_fits (length c.args.node.now.node.hart.memory) patch c.requires.within)

pub loop-place-preserved : goal.loop-place-preserved
loop-place-preserved g c =
    let patches = g.P.PatchList.patches c.args.patches.now in
    let before = c.loop-place.invariant in
    let made = c.in_ok-prepare_land.ensures in
    let patch =
    patch_read patches c.loop-place.place _ c.addr.result c.bytes.result.now c.count-place-end.ensures c.loop-place-test.true
    c.addr.ensures c.bytes.ensures in
    record {
      node = made.node ∙ before.node;
      ready = made.ready ∙ before.ready;
      private = KeepsPrivate-then c.args.node.now.private c.loop-place.node.private c.prepare_land-in-loop-place.new.self.private before.private
          made.more.keeps;
      owned = owns_more c.loop-place.node.private c.prepare_land-in-loop-place.new.self.private patch made.more.keeps made.ok before.owned;
    }

pub returns-clause-ok : goal.returns-clause-ok
returns-clause-ok g c =
    let patches = g.P.PatchList.patches c.args.patches.now in
    owns_whole c.loop-place.node.private patches c.loop-place.place (omega (arith, c.loop-place-test.false, c.count-place-end.ensures))
    c.loop-place.invariant.owned
