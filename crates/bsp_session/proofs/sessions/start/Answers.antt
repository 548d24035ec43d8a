-- No writer has any part in it.
use Rattle.std.proofs.Common.{subst}
use Rattle.std.proofs.lemmas.Result.{err_from_is_err_and}
use Rattle.machine_core.specs.declared.error.MachineError.TheVariants.{SegmentOutside}
use Rattle.bsp_session.specs.Session.{IsErrorOfFiles, job_fault, session_of}
use Rattle.bsp_session.specs.Streams.{stream}
use Rattle.bsp_session.proofs.Jobs.{fits_memory}
use Rattle.bsp_session.proofs.Refusals.{IsErrorOfRun-of_image, IsErrorOfRun-of_machine, error_of_machine-worker, image_of-worker}
use Rattle.bsp_session.proofs.SessionErrors.{IsErrorOf-files, IsErrorOf-run}
use Rattle.bsp_session.proofs.sessions.start.Goals as goal

pub returns-in_err-file-clause-err : goal.returns-in_err-file-clause-err
returns-in_err-file-clause-err g c =
    let p = err_from_is_err_and c.from_residual.result c.from_residual.ensures.1 in
    let i = stream g.I.Read.remaining c.args.image.now c.read_both.new.image in
    let n = stream g.R.Read.remaining c.args.input.now c.read_both.new.input in
    rw (p.1, p.2) (λ out untouched. IsErrorOf-files (session_of i n out c.args.job.now) _ c.in_err-file.ensures.err untouched)

pub returns-in_err-file-clause-no_worker : goal.returns-in_err-file-clause-no_worker
returns-in_err-file-clause-no_worker g c =
    let p = err_from_is_err_and c.from_residual.result c.from_residual.ensures.1 in
    let i = stream g.I.Read.remaining c.args.image.now c.read_both.new.image in
    let n = stream g.R.Read.remaining c.args.input.now c.read_both.new.input in
    rw (p.1, p.2) (λ is. subst (IsErrorOfFiles job_fault c.args.job.now i n) is c.in_err-file.ensures.err)

pub image_of-requires : goal.image_of-requires
image_of-requires g c = rw c.as_slice.ensures.value c.in_ok-file.ensures.ok.image_read.limited

pub returns-in_err-image-clause-err : goal.returns-in_err-image-clause-err
returns-in_err-image-clause-err g c =
    let p = err_from_is_err_and c.from_residual-in_err-image.result c.from_residual-in_err-image.ensures.1 in
    let i = stream g.I.Read.remaining c.args.image.now c.read_both.new.image in
    let n = stream g.R.Read.remaining c.args.input.now c.read_both.new.input in
    rw (p.1, p.2)
    (λ out untouched. IsErrorOf-run (session_of i n out c.args.job.now) c.in_ok-file.file.items c.in_ok-file.input.items _
    c.in_ok-file.ensures.ok
    (IsErrorOfRun-of_image c.args.job.now c.in_ok-file.file.items _ (rw c.as_slice.ensures.value at c.in_err-image.ensures.err)) untouched)

pub returns-in_err-image-clause-no_worker : goal.returns-in_err-image-clause-no_worker
returns-in_err-image-clause-no_worker g c =
    let p = err_from_is_err_and c.from_residual-in_err-image.result c.from_residual-in_err-image.ensures.1 in
    rw (p.1, p.2) (image_of-worker c.args.job.now.format _ _ c.in_err-image.ensures.err)

pub returns-in_err-new-clause-no_worker : goal.returns-in_err-new-clause-no_worker
returns-in_err-new-clause-no_worker g c =
    let p = err_from_is_err_and c.from_residual-in_err-new.result c.from_residual-in_err-new.ensures.1 in
    rw (p.1, p.2) (error_of_machine-worker _)

pub returns-in_err-new-clause-err : goal.returns-in_err-new-clause-err
returns-in_err-new-clause-err g c =
    let p = err_from_is_err_and c.from_residual-in_err-new.result c.from_residual-in_err-new.ensures.1 in
    let i = stream g.I.Read.remaining c.args.image.now c.read_both.new.image in
    let n = stream g.R.Read.remaining c.args.input.now c.read_both.new.input in
    rw (p.1, p.2)
    (λ out untouched. IsErrorOf-run (session_of i n out c.args.job.now) c.in_ok-file.file.items c.in_ok-file.input.items _
    c.in_ok-file.ensures.ok
    (IsErrorOfRun-of_machine c.args.job.now c.in_ok-file.file.items c.in_ok-image.image c.new.result _ c.in_ok-file.ensures.ok.settings
    (rw c.as_slice.ensures.value at c.in_ok-image.ensures.ok) c.in_err-new.was c.new.ensures.fault) untouched)

-- a machine was made, so no part of its image lies past the memory
pub returns-clause-ok : goal.returns-clause-ok
returns-clause-ok g c =
    λ out. record {
      i = c.in_ok-file.file.items;
      n = c.in_ok-file.input.items;
      m = c.in_ok-image.image;
      read = c.in_ok-file.ensures.ok;
      image = record {
        gives = rw c.as_slice.ensures.value at c.in_ok-image.ensures.ok;
        fits =
            fits_memory c.in_ok-image.image c.args.job.now c.in_ok-file.ensures.ok.settings
            (λ is. cc ((c.in_ok-new.ensures.fault SegmentOutside (λ same. cc)).1 is));
      };
      is = c.in_ok-new.ensures.ok;
    }
