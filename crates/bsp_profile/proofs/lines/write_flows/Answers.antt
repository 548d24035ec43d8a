-- Each pass appends the lines of the next rank, from which bytes go.
use Rattle.std.proofs.Common.{string_bytes}
use Rattle.bsp_profile.specs.Lines.{flow_lines_from}
use Rattle.bsp_profile.proofs.Texts.{next_of_range}
use Rattle.bsp_profile.proofs.lines.write_flows.Goals as goal

pub loop-from-preserved : goal.loop-from-preserved
loop-from-preserved g c =
    next_of_range (flow_lines_from c.args.machine.now) c.loop-from.from (string_bytes c.args.text.now) (string_bytes c.loop-from.text)
    (string_bytes c.write_flows_from.new.text)
    c.loop-from.invariant c.in_ok-write_flows_from.ensures
