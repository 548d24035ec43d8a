-- An error of a segment's lines comes after the listings of the segments before it.
use Rattle.std.proofs.Common.{◌∙◌, ap, refl, arith}
use Rattle.std.proofs.lemmas.Result.{err_from_is_err_and}
use Rattle.node_memory.specs.Image.{Image}
use Rattle.bsp_session.specs.Streams.{stream}
use Rattle.bsp_session.proofs.Conversions.{IsErrorOfLines-at}
use Rattle.bsp_session.proofs.listing.write_listing.Goals as goal

pub returns-in_err-write_segment-clause-err : goal.returns-in_err-write_segment-clause-err
returns-in_err-write_segment-clause-err g c =
    let p = err_from_is_err_and c.from_residual.result c.from_residual.ensures.1 in
    rw (p.1, p.2)
    (IsErrorOfLines-at c.args.extensions c.args.image.now c.as_slice-segment-items.result.now c.loop-segment.segment-index
    c.segment-item.result
    (stream g.W.Write.contents c.args.out.now c.write_segment.new.out)
    (stream g.W.Write.contents c.loop-segment.out c.write_segment.new.out) _
    (c.as_slice-segment-items.ensures ∙ ap (λ (i : Image). i.segments) c.image.view_is)
    (omega arith) c.segment-item.is refl refl c.loop-segment.invariant.rises c.loop-segment.invariant.written
    c.in_err-write_segment.ensures.err)
