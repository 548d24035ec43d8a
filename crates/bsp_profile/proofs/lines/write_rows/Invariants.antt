-- The text has the rows of the ranks below this one, behind what it had before.
use Rattle.std.proofs.Common.{◌≡◌, ◌++◌, take, string_bytes}
use Rattle.std.specs.Prelude.{flat_map}
use Rattle.bsp_profile.specs.Lines.{row_line}
use Rattle.bsp_profile.specs.Moves.{rows}
use Rattle.bsp_profile.proofs.lines.write_rows.Given as goal

abbrev pub invariant-loop-rank : goal.invariant-loop-rank
invariant-loop-rank g l = string_bytes l.text ≡ string_bytes l.initial.text ++ flat_map row_line (take l.rank (rows l.machine))
