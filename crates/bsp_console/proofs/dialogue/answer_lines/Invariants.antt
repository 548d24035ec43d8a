-- How far the lines were answered.
use Rattle.std.proofs.Common.{◌≤◌, ◌-◌}
use Rattle.bsp_console.specs.Dialogue.{says_in}
use Rattle.bsp_console.proofs.Talking.{IsTalking}
use Rattle.bsp_console.proofs.dialogue.answer_lines.Given as goal

abbrev pub invariant-loop-lines : goal.invariant-loop-lines
invariant-loop-lines g l = record {
  talking : IsTalking (says_in l.manner l.job) l.initial.debugger (g.C.Read.remaining l.initial.commands.inner)
      (g.C.Read.remaining l.commands.inner) (g.W.Write.contents l.initial.out.inner) (g.W.Write.contents l.out.inner) l.lines l.debugger;
  commands : l.initial.commands.failures ≤ l.commands.failures;
  out : l.initial.out.failures ≤ l.out.failures;
}

abbrev pub decreases-loop-lines : goal.decreases-loop-lines
decreases-loop-lines g l = l.lines.most - l.lines.given
