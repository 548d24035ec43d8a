-- The words as they are written are those of the definition.
use Rattle.std.proofs.Common.{append_assoc}
use Rattle.std.proofs.lemmas.Result.{IfOk-weaker}
use Rattle.debug_lines.proofs.shown.add_get.Goals as goal

pub returns : goal.returns
returns g c = IfOk-weaker c.write.result _ _ (λ u written. simp append_assoc written) c.write.ensures.bytes
