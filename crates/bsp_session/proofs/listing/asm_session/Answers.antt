-- Each stage's error is the assembly's.
use Rattle.std.proofs.Common.{refl, rules}
use Rattle.std.proofs.lemmas.Result.{err_from_is_err_and}
use Rattle.bsp_session.specs.declared.job.Format.TheVariants.{Asm}
use Rattle.bsp_session.specs.Conversion.{conversion_of}
use Rattle.bsp_session.specs.Streams.{stream}
use Rattle.bsp_session.proofs.Conversions.{IsErrorOfAssembly-image, IsErrorOfAssembly-reading}
use Rattle.bsp_session.proofs.listing.asm_session.Goals as goal

pub returns-in_err-bytes-clause-err : goal.returns-in_err-bytes-clause-err
returns-in_err-bytes-clause-err g c =
    let p = err_from_is_err_and c.from_residual.result c.from_residual.ensures.1 in
    rw (p.1, p.2)
    (IsErrorOfAssembly-reading
    (conversion_of (stream g.T.Read.remaining c.args.text.now c.read_at_most.new.from)
    (stream g.W.Write.contents c.args.out.now c.args.out.now) (Asm c.args.extensions)) _
    (record { ended = rw c.most_bytes.ensures at c.in_err-bytes.ensures.err; unwritten = record { bytes = refl; failures = refl } }))

pub returns-in_err-image-clause-err : goal.returns-in_err-image-clause-err
returns-in_err-image-clause-err g c =
    let p = err_from_is_err_and c.from_residual-in_err-image.result c.from_residual-in_err-image.ensures.1 in
    rw (p.1, p.2)
    (IsErrorOfAssembly-image c.args.extensions
    (conversion_of (stream g.T.Read.remaining c.args.text.now c.read_at_most.new.from)
    (stream g.W.Write.contents c.args.out.now c.args.out.now) (Asm c.args.extensions))
    c.in_ok-bytes.bytes.items _ refl (search rules) (rw c.as_slice.ensures.value at c.in_err-image.ensures.err)
    (record { bytes = refl; failures = refl }))
