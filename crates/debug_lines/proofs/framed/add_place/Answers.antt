-- The words as they are written are those of the definition.
use Rattle.std.proofs.Common.{append_assoc}
use Rattle.std.proofs.lemmas.Result.{IfOk-weaker}
use Rattle.debug_lines.proofs.framed.add_place.Goals as goal

pub returns : goal.returns
returns g c =
    IfOk-weaker c.writeln.result _ _ (λ u written. let parts = simp append_assoc at written in simp append_assoc parts)
    c.writeln.ensures.bytes
