-- The line, whose parts are joined in another order than the definition joins them in.
use Rattle.std.proofs.Common.{append_assoc}
use Rattle.std.proofs.lemmas.Result.{IfOk-weaker}
use Rattle.debug_lines.proofs.reply.node_line.Goals as goal

pub returns : goal.returns
returns g c =
    IfOk-weaker c.format.result _ _ (λ text written. let w = simp append_assoc at written in simp append_assoc w) c.format.ensures.ok
