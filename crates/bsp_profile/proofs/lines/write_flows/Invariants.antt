-- The text has the lines of the ranks below this one, behind what it had before.
use Rattle.std.proofs.Common.{◌≡◌, ◌++◌, string_bytes}
use Rattle.std.specs.Prelude.{flat_map}
use Rattle.std.specs.List.{range_with_len}
use Rattle.bsp_profile.specs.Lines.{flow_lines_from}
use Rattle.bsp_profile.proofs.lines.write_flows.Given as goal

abbrev pub invariant-loop-from : goal.invariant-loop-from
invariant-loop-from g l =
    string_bytes l.text ≡ string_bytes l.initial.text ++ flat_map (flow_lines_from l.machine) (range_with_len 0 l.from)
