-- What answering the lines came to is the program's answer to `debug`.
use Rattle.bspemu.proofs.Sessions.{answer_of_debug}
use Rattle.bspemu.proofs.program.debug.Goals as goal

pub returns : goal.returns
returns g c =
    rw c.ended.ensures (answer_of_debug c.args.options.now c.answer_lines.result c.answer_lines.ensures.ok c.answer_lines.ensures.err)
