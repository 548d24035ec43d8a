-- The text has the lines of the ranks below this one to which bytes go, behind what it had before.
use Rattle.std.proofs.Common.{◌≡◌, ◌++◌, string_bytes}
use Rattle.std.specs.Prelude.{flat_map}
use Rattle.std.specs.List.{range_with_len}
use Rattle.bsp_profile.specs.Lines.{flow_lines_between}
use Rattle.bsp_profile.proofs.lines.write_flows_from.Given as goal

abbrev pub invariant-loop-to : goal.invariant-loop-to
invariant-loop-to g l =
    string_bytes l.text ≡ string_bytes l.initial.text ++ flat_map (flow_lines_between l.machine l.from) (range_with_len 0 l.to)
