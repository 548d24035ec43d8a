-- An error before the first byte leaves the output as it was, and one while writing comes after the bytes that were written.
use Rattle.std.proofs.Common.{◌∙◌, inr, refl}
use Rattle.std.proofs.lemmas.Result.{err_from_is_err_and}
use Rattle.bsp_session.proofs.listing.write_saved.Goals as goal

pub returns-in_err-file-clause-err : goal.returns-in_err-file-clause-err
returns-in_err-file-clause-err g c =
    let p = err_from_is_err_and c.from_residual.result c.from_residual.ensures.1 in
    rw (p.1, p.2)
    (λ text extensions given. inr (record { i = given.i; read = given.read; unwritten = record { bytes = refl; failures = refl } }))

pub returns-in_err-write_whole-clause-err : goal.returns-in_err-write_whole-clause-err
returns-in_err-write_whole-clause-err g c =
    let p = err_from_is_err_and c.from_residual-in_err-write_whole.result c.from_residual-in_err-write_whole.ensures.1 in
    rw (p.1, p.2) (λ text extensions given. record {
      m = c.args.image.now;
      given = given;
      written = rw (c.as_slice.ensures.value ∙ c.in_ok-file.ensures) at c.in_err-write_whole.ensures.err;
      failed = c.in_err-write_whole.ensures.fault;
    })

pub returns-clause-ok : goal.returns-clause-ok
returns-clause-ok g c = rw (c.as_slice.ensures.value ∙ c.in_ok-file.ensures) at c.in_ok-write_whole.ensures.ok
