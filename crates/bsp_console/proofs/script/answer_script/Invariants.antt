-- How far the lines were answered.
use Rattle.std.proofs.Common.{◌≤◌, ◌+◌, [], length}
use Rattle.std.specs.Option.{option_map_or}
use Rattle.bsp_console.specs.Talk.{answered_lines, lines_of, plain}
use Rattle.bsp_console.proofs.Answering.{IsAnswering}
use Rattle.bsp_console.proofs.script.answer_script.Given as goal

abbrev pub invariant-lines : goal.invariant-lines
invariant-lines g l = record {
  answering : IsAnswering (plain l.job) (answered_lines l.script) (option_map_or (λ text. lines_of text.now) l.rest []) l.initial.debugger
      l.debugger (g.W.Write.contents l.initial.out.inner) (g.W.Write.contents l.out.inner);
  out : l.initial.out.failures ≤ l.out.failures;
}

abbrev pub decreases-lines : goal.decreases-lines
decreases-lines g l = option_map_or (λ text. length text.now + 1) l.rest 0
