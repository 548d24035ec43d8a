-- The steps are counted, and then the lines of the table written.
use Rattle.std.proofs.Common.{◌∙◌, ◌++◌, ◌^◌, List, ℕ, ap, string_bytes}
use Rattle.std.proofs.lemmas.Result.{on_ok_weaker}
use Rattle.step_counts.proofs.Parting.{part-lines}
use Rattle.step_counts.proofs.parts.count_part.Goals as goal

pub returns-clause-text : goal.returns-clause-text
returns-clause-text g c =
    let made = c.count_steps.ensures.made in
    on_ok_weaker c.write_lines.result
    (λ more. more ∙ ap (λ (ls : List ℕ). string_bytes c.args.text.now ++ ls)
    (part-lines (2 ^ 32) c.args.machine.now c.count_steps.new.machine c.args.rank c.superstep.result made.0 c.count_steps.new.table made.1
    c.superstep.ensures c.in_ok-count_steps.ensures.told))
    c.write_lines.ensures
