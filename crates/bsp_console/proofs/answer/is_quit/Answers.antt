-- Only the line `quit` ends the session: the arm of `Quit` answers true, and every other line is another one than `quit`.
use Rattle.std.proofs.Common.{sym, refl}
use Rattle.bsp_console.proofs.Scripts.{is_quit-other}
use Rattle.bsp_console.proofs.answer.is_quit.Goals as goal

pub returns-in-Quit : goal.returns-in-Quit
returns-in-Quit c = rw c.in-Quit.is refl

pub returns-in_default : goal.returns-in_default
returns-in_default c = sym (is_quit-other c.args.line c.in_default.not-Quit)
