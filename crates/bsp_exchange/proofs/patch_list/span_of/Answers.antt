-- The span has each patch, and ends in the memory in which they all lie.
use Rattle.std.proofs.Common.{length, arith}
use Rattle.bsp_exchange.proofs.Patches.{len_within}
use Rattle.bsp_exchange.proofs.Patched.{patch_read, patch_fits}
use Rattle.bsp_exchange.proofs.Spans.{end_within, ends_below, owns_spanned, spanned_more}
use Rattle.bsp_exchange.proofs.patch_list.span_of.Goals as goal

pub loop-place-init : goal.loop-place-init
loop-place-init g c = record { spanned = λ k d less within. absurd (omega (arith, less)); end = omega (arith, c.of_none-span.ensures) }

pub overflow_cast-bytes : goal.overflow_cast-bytes
overflow_cast-bytes g c =
    let patches = g.P.PatchList.patches c.args.patches.now in
    let patch =
    patch_read patches c.loop-place.place _ c.addr.result c.bytes.result.now c.count-place-end.ensures c.loop-place-test.true
    c.addr.ensures c.bytes.ensures in
    let short =
    len_within c.args.size c.addr.result (length c.bytes.result.now) (patch_fits c.args.size patch c.requires.within) in
    omega (arith, short, c.requires.most)

pub with-span-requires : goal.with-span-requires
with-span-requires g c =
    let patches = g.P.PatchList.patches c.args.patches.now in
    let patch =
    patch_read patches c.loop-place.place _ c.addr.result c.bytes.result.now c.count-place-end.ensures c.loop-place-test.true
    c.addr.ensures c.bytes.ensures in
    ends_below c.args.size c.addr.result (length c.bytes.result.now) c.requires.most (patch_fits c.args.size patch c.requires.within)

pub loop-place-preserved : goal.loop-place-preserved
loop-place-preserved g c =
    let patches = g.P.PatchList.patches c.args.patches.now in
    let before = c.loop-place.invariant in
    let patch =
    patch_read patches c.loop-place.place _ c.addr.result c.bytes.result.now c.count-place-end.ensures c.loop-place-test.true
    c.addr.ensures c.bytes.ensures in
    let inside = end_within c.args.size c.addr.result (length c.bytes.result.now) (patch_fits c.args.size patch c.requires.within) in
    record {
      spanned = spanned_more c.loop-place.span c.with-span.result patch c.with-span.ensures.more c.with-span.ensures.has before.spanned;
      end = c.with-span.ensures.most c.args.size before.end inside;
    }

pub returns-clause-has : goal.returns-clause-has
returns-clause-has g c private owned =
    owns_spanned private c.loop-place.span (g.P.PatchList.patches c.args.patches.now) owned
    (λ k d less within.
    c.loop-place.invariant.spanned k d (omega (arith, within, c.loop-place-test.false, c.count-place-end.ensures)) within)
