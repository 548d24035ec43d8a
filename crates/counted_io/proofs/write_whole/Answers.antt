-- Each write appends the next bytes of the whole.
use Rattle.std.proofs.Common.{◌<◌, ◌++◌, length, take, ap, arith, rules, length-append}
use Rattle.std.proofs.KnownBytes.{Appends-trans, Appends-kept}
use Rattle.std.proofs.lemmas.Result.{err_from_is_err_and}
use Rattle.counted_io.proofs.TransfersLemmas.{split-moved, AppendsPrefix-stopped}
use Rattle.counted_io.proofs.write_whole.Goals as goal

pub loop-rest-preserved : goal.loop-rest-preserved
loop-rest-preserved g c =
    let (done, split, appended) = c.loop-rest.invariant.written in
    let rest = c.loop-rest.rest.now in
    let n = c.in_ok-count.count in
    let left : 0 < length rest = search rules in
    record {
      written = (done ++ take n rest, split-moved _ done rest n split, Appends-trans _ _ _ _ _ appended c.in_ok-count.ensures.bytes);
      untouched = λ none. absurd (omega (arith, ap length split, length-append done rest));
      failures = search rules;
    }

pub returns-in_err-count-clause-err : goal.returns-in_err-count-clause-err
returns-in_err-count-clause-err g c =
    let (done, split, appended) = c.loop-rest.invariant.written in
    let returned = err_from_is_err_and c.from_residual.result c.from_residual.ensures.1 in
    rw returned.1
    (AppendsPrefix-stopped _ _ _ done c.loop-rest.rest.now split (search rules)
    (Appends-kept _ _ _ done appended c.in_err-count.ensures.bytes))
