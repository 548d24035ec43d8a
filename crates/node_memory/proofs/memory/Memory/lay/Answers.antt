-- The segment's bytes and the zeros after them are the segment laid, and writing into private pages leaves the shared ones zeros.
use Rattle.std.proofs.Common.{◌≡◌, ◌+◌, ◌-◌, ◌≤◌, false, length, replicate, refl, ap, ◌∙◌, arith}
use Rattle.std.proofs.lemmas.Result.{on_ok_weaker}
use Rattle.std.proofs.lemmas.Bool.Decides.{nat_tests}
use Rattle.node_memory.specs.Bytes.{with_bytes}
use Rattle.node_memory.specs.Image.{Segment, ends_past, with_segment}
use Rattle.node_memory.proofs.Writes.{segment_laid}
use Rattle.node_memory.proofs.Zeros.{SharesZeros-owned, SharesZeros-written}
use Rattle.node_memory.proofs.memory.Memory.lay.Goals as goal

pub returns-clause-after : goal.returns-clause-after
returns-clause-after g c =
    let m = c.args.self.now.bytes in
    let bytes = c.as_slice-bytes.result.now in
    let inside = c.segment.inside in
    let s : Segment = record { addr = inside.addr; bytes = inside.bytes; size = inside.size } in
    let within : ends_past (length m) s ≡ false = ap (ends_past (length m)) c.segment.view_is ∙ c.requires.fits in
    let fits : inside.addr + inside.size ≤ length m = grind (arith, nat_tests) in
    on_ok_weaker c.clear.result
    (λ cleared. cleared
    ∙ ap (λ x. with_bytes x (inside.addr + length bytes) (replicate (inside.size - length bytes) 0))
    (c.write_owned.ensures.bytes ∙ ap (λ x. with_bytes x inside.addr bytes) c.make_private.ensures.bytes)
    ∙ segment_laid m bytes s (inside.addr + length bytes) c.as_slice-bytes.ensures refl c.segment.invariant.holds_bytes fits
    ∙ ap (with_segment m) c.segment.view_is)
    c.clear.ensures.bytes

pub clear-requires-clause-rest : goal.clear-requires-clause-rest
clear-requires-clause-rest g c =
    SharesZeros-written _ _ c.segment.inside.addr c.as_slice-bytes.result.now
    (SharesZeros-owned _ _ _ _ c.requires.rest c.make_private.ensures.more c.make_private.ensures.bytes)
    c.in_ok-make_private.ensures.owned
    c.write_owned.ensures.within
    c.write_owned.ensures.bytes
    c.write_owned.ensures.same_private
