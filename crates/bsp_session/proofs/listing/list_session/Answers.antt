-- Each stage's error is the listing's.
use Rattle.std.proofs.Common.{refl, rules}
use Rattle.std.proofs.lemmas.Result.{IfErr-weaker, err_from_is_err_and}
use Rattle.bsp_session.specs.Conversion.{Conversion, IsErrorOfLines, IsErrorOfListing, ReadsImage, conversion_of, lines_of_image}
use Rattle.bsp_session.specs.Streams.{stream}
use Rattle.bsp_session.proofs.Conversions.{IsErrorOfListing-image, IsErrorOfListing-lines, IsErrorOfListing-reading}
use Rattle.bsp_session.proofs.listing.list_session.Goals as goal

pub returns-in_err-bytes-clause-err : goal.returns-in_err-bytes-clause-err
returns-in_err-bytes-clause-err g c =
    let p = err_from_is_err_and c.from_residual.result c.from_residual.ensures.1 in
    rw (p.1, p.2)
    (IsErrorOfListing-reading c.args.extensions
    (conversion_of (stream g.I.Read.remaining c.args.image.now c.read_at_most.new.from)
    (stream g.W.Write.contents c.args.out.now c.args.out.now) c.args.format) _
    (record { ended = rw c.most_bytes.ensures at c.in_err-bytes.ensures.err; unwritten = record { bytes = refl; failures = refl } }))

pub returns-in_err-image-clause-err : goal.returns-in_err-image-clause-err
returns-in_err-image-clause-err g c =
    let p = err_from_is_err_and c.from_residual-in_err-image.result c.from_residual-in_err-image.ensures.1 in
    rw (p.1, p.2)
    (IsErrorOfListing-image c.args.extensions
    (conversion_of (stream g.I.Read.remaining c.args.image.now c.read_at_most.new.from)
    (stream g.W.Write.contents c.args.out.now c.args.out.now) c.args.format)
    c.in_ok-bytes.bytes.items _ (search rules) (rw c.as_slice.ensures.value at c.in_err-image.ensures.err)
    (record { bytes = refl; failures = refl }))

pub returns-clause-err : goal.returns-clause-err
returns-clause-err g c =
    let conversion : Conversion = conversion_of (stream g.I.Read.remaining c.args.image.now c.read_at_most.new.from)
    (stream g.W.Write.contents c.args.out.now c.write_listing.new.out) c.args.format in
    let given : ReadsImage conversion c.in_ok-image.image = record {
      i = c.in_ok-bytes.bytes.items;
      read = search rules;
      gives = rw c.as_slice.ensures.value at c.in_ok-image.ensures.ok;
    } in
    IfErr-weaker c.write_listing.result (IsErrorOfLines c.args.extensions conversion.out (lines_of_image c.in_ok-image.image))
    (IsErrorOfListing c.args.extensions conversion)
    (λ e. IsErrorOfListing-lines c.args.extensions conversion c.in_ok-image.image e given) c.write_listing.ensures.err
