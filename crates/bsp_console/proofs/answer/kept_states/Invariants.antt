-- The text and the states that are left make all lines.
use Rattle.std.proofs.Common.{◌≡◌, ◌++◌, drop, string_bytes}
use Rattle.std.specs.List.{flat_map, enumerate_from}
use Rattle.bsp_console.specs.Talk.{kept_line, kept_lines}
use Rattle.bsp_console.proofs.answer.kept_states.Given as goal

abbrev pub invariant-loop-number : goal.invariant-loop-number
invariant-loop-number g l =
    string_bytes l.text ++ flat_map kept_line (enumerate_from l.number (drop l.number l.states)) ≡ kept_lines l.states
