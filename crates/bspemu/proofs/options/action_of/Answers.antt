-- An action is what the words ask for by clap's rules, and a refused parse answers the fault that these rules give.
use Rattle.std.proofs.Common.{ap, ◌∙◌}
use Rattle.std.proofs.lemmas.Result.{err_from_is_err_and}
use Rattle.clap.specs.Words.{is_simple_and_free}
use Rattle.bspemu.proofs.Laws.{asks_of_parse, fault_of_parse, is_free_line, lack_of_parse}
use Rattle.bspemu.proofs.options.action_of.Goals as goal

pub returns-in_err-matches-clause-err : goal.returns-in_err-matches-clause-err
returns-in_err-matches-clause-err g c =
    let app = c.in_ok-command.ensures in
    let simple = ap is_simple_and_free app.has.is ∙ is_free_line app.formats in
    let p = err_from_is_err_and c.from_residual-in_err-matches.result c.from_residual-in_err-matches.ensures.1 in
    rw (p.1, p.2) (fault_of_parse _ _ _ app (c.in_err-matches.ensures.kinds simple))

pub returns-in-Some-clause-ok : goal.returns-in-Some-clause-ok
returns-in-Some-clause-ok g c =
    let app = c.in_ok-command.ensures in
    let simple = ap is_simple_and_free app.has.is ∙ is_free_line app.formats in
    asks_of_parse _ _ _ _ app (c.in_ok-matches.ensures.kinds simple) c.in_ok-matches.ensures.matches c.in-Some.ensures.some

pub returns-clause-err : goal.returns-clause-err
returns-clause-err g c =
    let app = c.in_ok-command.ensures in
    let simple = ap is_simple_and_free app.has.is ∙ is_free_line app.formats in
    lack_of_parse _ _ _ _ _ app (c.in_ok-matches.ensures.kinds simple) c.in_ok-matches.ensures.matches c.in-None.ensures.none
    c.lack_of_matches-kind.ensures c.in_ok-refusal-in-None.ensures
