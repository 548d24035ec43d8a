-- The text, whose parts are joined in another order than the definition joins them in.
use Rattle.std.proofs.Common.{append_assoc}
use Rattle.std.proofs.lemmas.Result.{IfOk-weaker}
use Rattle.debug_lines.proofs.kept.site_of.Goals as goal

pub returns : goal.returns
returns g c =
    IfOk-weaker c.format.result _ _
    (λ text written. let w = rw (c.pc.ensures, c.state-state.ensures) at written in let v = simp append_assoc at w in simp append_assoc v)
    c.format.ensures.ok
