-- The file header, an entry for each segment and then each segment's bytes are appended in turn, and no offset passes 32 bits.
use Rattle.std.proofs.Common.{◌≡◌, ◌<◌, ◌≤◌, List, length, get_or, subst, ap, ◌∙◌}
use Rattle.node_memory.specs.Image.{Image, Segment}
use Rattle.elf_image.proofs.Spelled.{count_fits, table_fits, offset_fits, next_offset_fits, bytes_small, header_written, bytes_offset-first}
use Rattle.elf_image.proofs.Spelled.{entry_written, offset_more, table_written, bytes_written, spelling_written}
use Rattle.elf_image.proofs.writer.save.Goals as goal

pub overflow_cast-segments : goal.overflow_cast-segments
overflow_cast-segments g c = count_fits _ _ c.as_slice-segments.ensures c.image.invariant.few

pub overflow_add-offset : goal.overflow_add-offset
overflow_add-offset g c = table_fits _ _ c.as_slice-segments.ensures c.image.invariant.few

pub loop-segment-init : goal.loop-segment-init
loop-segment-init g c = record {
  written = header_written _ _ _ _ _ c.image.view_is c.as_slice-segments.ensures c.new-out.ensures.items c.in_ok-put_file_header.ensures;
  next = bytes_offset-first c.args.image.now _ (c.as_slice-segments.ensures ∙ ap (λ (i : Image). i.segments) c.image.view_is);
}

pub overflow_cast-offset : goal.overflow_cast-offset
overflow_cast-offset g c = offset_fits _ _ c.loop-segment.segment-index _ c.image.view_is c.image.invariant c.loop-segment.invariant.next

pub put_program_header-requires : goal.put_program_header-requires
put_program_header-requires g c =
    bytes_small _ _ c.loop-segment.segment-index _ c.as_slice-segments.ensures c.loop-segment-test.true c.segment-item.is
    c.image.invariant.small

pub overflow_add-offset-in-loop-segment : goal.overflow_add-offset-in-loop-segment
overflow_add-offset-in-loop-segment g c =
    let fits = offset_fits _ _ c.loop-segment.segment-index _ c.image.view_is c.image.invariant c.loop-segment.invariant.next in
    next_offset_fits _ _ _ fits c.len-offset.ensures c.segment.invariant

pub loop-segment-preserved : goal.loop-segment-preserved
loop-segment-preserved g c =
    let segments : c.as_slice-segments.result.now ≡ c.args.image.now.segments =
    c.as_slice-segments.ensures ∙ ap (λ (i : Image). i.segments) c.image.view_is in
    let within : c.loop-segment.segment-index < length c.args.image.now.segments =
    subst (λ (ss : List Segment). c.loop-segment.segment-index < length ss) segments c.loop-segment-test.true in
    let place = c.segment-item.is ∙ ap (λ (ss : List Segment). get_or ss c.loop-segment.segment-index c.segment-item.result) segments in
    let len = c.len-offset.ensures ∙ ap (λ (s : Segment). length s.bytes) c.segment.view_is in
    record {
      written =
          entry_written c.args.image.now _ _ c.segment-item.result _ _ within place c.loop-segment.invariant.next
          c.loop-segment.invariant.written c.in_ok-put_program_header.ensures;
      next = offset_more c.args.image.now _ c.segment-item.result _ _ within place len c.loop-segment.invariant.next;
    }

pub loop-segment-2-init : goal.loop-segment-2-init
loop-segment-2-init g c =
    let segments : c.as_slice-segments.result.now ≡ c.args.image.now.segments =
    c.as_slice-segments.ensures ∙ ap (λ (i : Image). i.segments) c.image.view_is in
    table_written c.args.image.now _ _
    (subst (λ (ss : List Segment). length ss ≤ c.loop-segment.segment-index) segments c.loop-segment-test.false)
    c.loop-segment.invariant.written

pub loop-segment-2-preserved : goal.loop-segment-2-preserved
loop-segment-2-preserved g c =
    let segments : c.as_slice-segments.result.now ≡ c.args.image.now.segments =
    c.as_slice-segments.ensures ∙ ap (λ (i : Image). i.segments) c.image.view_is in
    let within : c.loop-segment-2.segment-index < length c.args.image.now.segments =
    subst (λ (ss : List Segment). c.loop-segment-2.segment-index < length ss) segments c.loop-segment-2-test.true in
    let item = c.segment-item-in-loop-segment-2 in
    let place = item.is ∙ ap (λ (ss : List Segment). get_or ss c.loop-segment-2.segment-index item.result) segments in
    bytes_written c.args.image.now _ item.result _ _ _ _ within place c.segment-in-loop-segment-2.view_is c.as_slice.ensures
    c.loop-segment-2.invariant c.in_ok-extend_from_slice.ensures.items

pub returns : goal.returns
returns g c =
    let segments : c.as_slice-segments.result.now ≡ c.args.image.now.segments =
    c.as_slice-segments.ensures ∙ ap (λ (i : Image). i.segments) c.image.view_is in
    spelling_written c.args.image.now _ _
    (subst (λ (ss : List Segment). length ss ≤ c.loop-segment-2.segment-index) segments c.loop-segment-2-test.false)
    c.loop-segment-2.invariant
