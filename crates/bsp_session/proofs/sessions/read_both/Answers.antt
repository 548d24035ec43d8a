-- Nothing else was touched before the settings were tested, and no input before the image was read.
use Rattle.std.proofs.Common.{inl, inr, refl, sym, rules}
use Rattle.std.proofs.lemmas.Result.{err_from_is_err_and}
use Rattle.bsp_session.specs.Session.{job_fault}
use Rattle.bsp_session.specs.Streams.{stream}
use Rattle.bsp_session.proofs.SessionErrors.{IsErrorOfFiles-reading, IsErrorOfFiles-settings}
use Rattle.bsp_session.proofs.sessions.read_both.Goals as goal

pub returns-in_err-check_job-clause-err : goal.returns-in_err-check_job-clause-err
returns-in_err-check_job-clause-err g c =
    let p = err_from_is_err_and c.from_residual.result c.from_residual.ensures.1 in
    rw (p.1, p.2)
    (IsErrorOfFiles-settings c.args.job.now (stream g.I.Read.remaining c.args.image.now c.args.image.now)
    (stream g.R.Read.remaining c.args.input.now c.args.input.now) _
    (sym c.in_err-check_job.ensures) (record { bytes = refl; failures = refl }) (record { bytes = refl; failures = refl }))

pub returns-in_err-file-clause-err : goal.returns-in_err-file-clause-err
returns-in_err-file-clause-err g c =
    let p = err_from_is_err_and c.from_residual-in_err-file.result c.from_residual-in_err-file.ensures.1 in
    rw (p.1, p.2)
    (IsErrorOfFiles-reading job_fault c.args.job.now (stream g.I.Read.remaining c.args.image.now c.read_at_most.new.from)
    (stream g.R.Read.remaining c.args.input.now c.args.input.now) _
    (record {
      settings = sym c.in_ok-check_job.ensures;
      ended = inl (rw c.most_bytes.ensures at c.in_err-file.ensures.err, record { bytes = refl; failures = refl });
    }))

pub returns-in_err-input-clause-err : goal.returns-in_err-input-clause-err
returns-in_err-input-clause-err g c =
    let p = err_from_is_err_and c.from_residual-in_err-input.result c.from_residual-in_err-input.ensures.1 in
    rw (p.1, p.2)
    (IsErrorOfFiles-reading job_fault c.args.job.now (stream g.I.Read.remaining c.args.image.now c.read_at_most.new.from)
    (stream g.R.Read.remaining c.args.input.now c.read_at_most-2.new.from) _
    (record {
      settings = sym c.in_ok-check_job.ensures;
      ended = inr (c.in_ok-file.file.items, search rules, rw c.most_input.ensures at c.in_err-input.ensures.err);
    }))
