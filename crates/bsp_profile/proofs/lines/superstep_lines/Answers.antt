-- The rows come first, and then what went from rank to rank.
use Rattle.std.proofs.Common.{◌++◌, ◌∙◌, ap, List, ℕ}
use Rattle.bsp_profile.specs.Lines.{superstep_lines, row_lines, flow_lines}
use Rattle.bsp_profile.proofs.lines.superstep_lines.Goals as goal

pub returns : goal.returns
unfolding superstep_lines
returns g c =
    c.in_ok-write_flows.ensures
    ∙ ap (λ (bs : List ℕ). bs ++ flow_lines c.args.machine.now)
    (c.in_ok-write_rows.ensures ∙ ap (λ (bs : List ℕ). bs ++ row_lines c.args.machine.now) c.new-text.ensures.bytes)
