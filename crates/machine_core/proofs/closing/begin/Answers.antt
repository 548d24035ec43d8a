-- An output that is cut at its old length again is the old one, since it grew at its end.
use Rattle.std.proofs.Common.{take, ap, ◌∙◌}
use Rattle.machine_core.proofs.Turns.{cut}
use Rattle.machine_core.proofs.closing.begin.Goals as goal

pub returns-in-Err-clause-kept : goal.returns-in-Err-clause-kept
returns-in-Err-clause-kept g c =
    c.truncate.ensures.items
    ∙ ap (take c.len-before.result) c.in_ok-append_output.ensures.ok
    ∙ cut c.args.output.now.items _ c.len-before.result (c.len-before.ensures ∙ c.args.output.now.ok.0)
