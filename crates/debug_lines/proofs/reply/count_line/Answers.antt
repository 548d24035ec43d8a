-- The line, whose parts are joined in another order than the clause joins them in.
use Rattle.std.proofs.Common.{append_assoc}
use Rattle.std.proofs.lemmas.Result.{IfOk-weaker}
use Rattle.debug_lines.proofs.reply.count_line.Goals as goal

pub returns : goal.returns
returns g c =
    IfOk-weaker c.format.result _ _
    (λ text written. let is = rw c.payload_bytes-bytes.ensures at written in simp append_assoc is) c.format.ensures.ok
