-- Segment by segment the memory comes to have the image's bytes; shared at the end, it has them and no private page.
use Rattle.std.proofs.Common.{◌≡◌, ℕ, ◌*◌, ◌/◌, length, replicate, sym, ap, ◌∙◌, List, rules}
use Rattle.node_memory.specs.Image.{Image, image_bytes}
use Rattle.node_memory.specs.Pages.{PagedMemory, none_private}
use Rattle.node_memory.proofs.ImageBytes.{length-image_bytes, image_bytes_none, lay_fits, image_bytes_more, all_laid, whole_pages}
use Rattle.node_memory.proofs.Zeros.{SharesZeros-new}
use Rattle.node_memory.proofs.memory.Memory.new.Goals as goal

pub loop-segment-init : goal.loop-segment-init
loop-segment-init g c =
    let whole : c.args.size / 4096 * 4096 ≡ c.args.size =
    whole_pages c.args.size (sym c.is_memory_size.ensures ∙ c.if-not-is_memory_size.false) in
    let zeros = ap (λ (m : PagedMemory). m.bytes) c.in_ok-laid.ensures in (
      zeros ∙ ap (λ n. replicate n 0) whole ∙ image_bytes_none _ _,
      SharesZeros-new _ _ zeros,
      c.in_ok-zeros.ensures,
    )

pub lay-requires-clause-fits : goal.lay-requires-clause-fits
lay-requires-clause-fits g c =
    let segments = c.as_slice-segment-items.ensures ∙ ap (λ (i : Image). i.segments) c.image.view_is in
    lay_fits _ _ _ _ _ _ _ segments c.loop-segment-test.true c.segment-item.is c.if-ends_past.ensures c.loop-segment.invariant.0

pub loop-segment-preserved : goal.loop-segment-preserved
loop-segment-preserved g c =
    let segments = c.as_slice-segment-items.ensures ∙ ap (λ (i : Image). i.segments) c.image.view_is in (
      image_bytes_more _ _ _ _ _ _ _ _ c.in_ok-lay.ensures.after segments c.loop-segment-test.true c.segment-item.is c.lay.ensures.valid
          c.if-ends_past.ensures c.loop-segment.invariant.0,
      c.in_ok-lay.ensures.rest,
      c.loop-segment.invariant.2,
    )

pub returns : goal.returns
returns g c = record {
  bad_size = search rules;
  segment_outside = search rules;
  ok =
      let segments = c.as_slice-segment-items.ensures ∙ ap (λ (i : Image). i.segments) c.image.view_is in
      let laid : c.loop-segment.laid.bytes ≡ image_bytes c.args.image.now c.args.size =
      all_laid _ _ _ _ _ _ segments c.loop-segment-test.false c.loop-segment.invariant.0 in
      let size : length c.loop-segment.laid.bytes ≡ c.args.size = ap length laid ∙ length-image_bytes c.args.image.now c.args.size in
      c.in_ok-share_pages.ensures
      ∙ ap (λ (bs : List ℕ). record { bytes = bs; private = none_private (length c.loop-segment.laid.bytes) }) laid
      ∙ ap (λ (n : ℕ). record { bytes = image_bytes c.args.image.now c.args.size; private = none_private n }) size;
  len =
      let laid = ap length c.loop-segment.invariant.0 ∙ length-image_bytes _ _ in
      ap (λ (m : PagedMemory). length m.bytes) c.in_ok-share_pages.ensures ∙ laid;
}
