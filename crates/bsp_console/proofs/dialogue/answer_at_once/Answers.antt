-- A flush that fails leaves the whole reply written.
use Rattle.std.proofs.Common.{length, arith, refl, inr}
use Rattle.std.proofs.KnownBytes.{Appends-kept}
use Rattle.std.proofs.lemmas.List.{take_all}
use Rattle.std.proofs.lemmas.Result.{err_from_is_err_and}
use Rattle.bsp_console.proofs.Scripts.{HasRisen-above}
use Rattle.bsp_console.proofs.dialogue.answer_at_once.Goals as goal

pub returns-in_err-flush_whole-clause-err : goal.returns-in_err-flush_whole-clause-err
returns-in_err-flush_whole-clause-err g c =
    let exit = err_from_is_err_and c.from_residual-in_err-flush_whole.result c.from_residual-in_err-flush_whole.ensures.1 in
    let (text, answered, written) = c.in_ok-answer_to.ensures.ok in
    let all = take_all (length text) text (omega arith) in
    let rose = HasRisen-above c.args.out.now.failures c.answer_to.new.out.failures c.flush_whole.new.to.failures
    c.answer_to.ensures.never_falls c.in_err-flush_whole.ensures.fault in
    rw (exit.1, exit.2)
    (inr (
      refl,
      rose,
      text,
      length text,
      omega arith,
      answered,
      rw all (Appends-kept _ _ _ text written c.in_err-flush_whole.ensures.bytes),
    ))
