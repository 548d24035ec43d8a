-- All of the bytes are one segment at address 0, or there are none and no segment either; both are within the limits.
use Rattle.std.proofs.Common.{◌≡◌, ap, ◌∙◌}
use Rattle.elf_image.specs.Presents.{raw_image}
use Rattle.elf_image.proofs.Loads.{raw_some, raw_none, raw_is, raw_limits, raw_segment, raw_size}
use Rattle.elf_image.proofs.loader.raw.Goals as goal
use Rattle.elf_image.proofs.loader.raw.Goals.{then-not-is_empty+in_ok-from_slice+in_ok-push, else-not-is_empty}

pub overflow_cast-segment : goal.overflow_cast-segment
overflow_cast-segment g c = raw_size _ c.requires

pub invariant_of-segment : goal.invariant_of-segment
invariant_of-segment g c = raw_segment _ _ c.requires (c.from_vec.ensures ∙ c.in_ok-from_slice.ensures.items)

pub invariant_of-result : goal.invariant_of-result
invariant_of-result g c =
    let segments : c.from_vec-2.result ≡ (raw_image c.args.bytes.now).segments = elim c.if-not-is_empty.branch [
      | then-not-is_empty+in_ok-from_slice+in_ok-push w ↦
          raw_some _ _ _ _ _ _ c.is_empty.ensures w.if-not-is_empty.true (w.from_vec.ensures ∙ w.in_ok-from_slice.ensures.items)
          c.new-segments.ensures.items w.in_ok-push.ensures.items (c.from_vec-2.ensures ∙ ap (λ v. v.items) w.segments-is)
      | else-not-is_empty w ↦
          raw_none _ _ _ c.is_empty.ensures w.if-not-is_empty.false
          (c.from_vec-2.ensures ∙ ap (λ v. v.items) w.segments-is ∙ c.new-segments.ensures.items)
    ] in
    raw_limits _ _ c.requires segments

pub returns : goal.returns
returns g c =
    let segments : c.from_vec-2.result ≡ (raw_image c.args.bytes.now).segments = elim c.if-not-is_empty.branch [
      | then-not-is_empty+in_ok-from_slice+in_ok-push w ↦
          raw_some _ _ _ _ _ _ c.is_empty.ensures w.if-not-is_empty.true (w.from_vec.ensures ∙ w.in_ok-from_slice.ensures.items)
          c.new-segments.ensures.items w.in_ok-push.ensures.items (c.from_vec-2.ensures ∙ ap (λ v. v.items) w.segments-is)
      | else-not-is_empty w ↦
          raw_none _ _ _ c.is_empty.ensures w.if-not-is_empty.false
          (c.from_vec-2.ensures ∙ ap (λ v. v.items) w.segments-is ∙ c.new-segments.ensures.items)
    ] in
    raw_is _ _ segments
