-- Where the input was not read whole, the image was, and the limit of the input is that of the machine.
use Rattle.std.proofs.Common.{inr, sym, rules}
use Rattle.std.proofs.lemmas.Result.{err_from_is_err_and}
use Rattle.bsp_session.specs.Streams.{stream}
use Rattle.bsp_session.proofs.SessionErrors.{IsErrorOfFiles-reading}
use Rattle.bsp_console.specs.Console.{console_fault}
use Rattle.bsp_console.proofs.start.read_files.Goals as goal

pub returns-in_err-input-clause-err : goal.returns-in_err-input-clause-err
returns-in_err-input-clause-err g c =
    let p = err_from_is_err_and c.from_residual-in_err-input.result c.from_residual-in_err-input.ensures.1 in
    rw (p.1, p.2)
    (IsErrorOfFiles-reading console_fault c.args.job.now (stream g.I.Read.remaining c.args.image.now c.read_at_most.new.from)
    (stream g.R.Read.remaining c.args.input.now c.read_at_most-2.new.from) _
    (record {
      settings = sym c.in_ok-check_settings.ensures;
      ended = inr (c.in_ok-file.file.items, search rules, rw c.most_input.ensures at c.in_err-input.ensures.err);
    }))
