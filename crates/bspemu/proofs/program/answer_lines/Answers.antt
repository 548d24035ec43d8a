-- The answer is that of the session of lines that the flags chose: framed, a dialogue, or a script.
use Rattle.std.proofs.Common.{inl, inr, refl}
use Rattle.std.proofs.lemmas.Result.{IfErr-weaker, on_ok_weaker}
use Rattle.bspemu.proofs.program.answer_lines.Goals as goal

pub returns-then-is_framed : goal.returns-then-is_framed
returns-then-is_framed g c = rw c.if-is_framed.true (record {
  ok = on_ok_weaker c.debug_framed.result (λ answered. (_, refl, answered)) c.debug_framed.ensures.ok;
  err = IfErr-weaker c.debug_framed.result _ _ (λ e known. (_, refl, known)) c.debug_framed.ensures.err;
})

pub returns-then-is_dialogue : goal.returns-then-is_dialogue
returns-then-is_dialogue g c = rw c.if-is_framed.false (record {
  ok = on_ok_weaker c.debug_dialogue.result (λ answered. (_, refl, inr answered)) c.debug_dialogue.ensures.ok;
  err = IfErr-weaker c.debug_dialogue.result _ _ (λ e known. (_, refl, inr known)) c.debug_dialogue.ensures.err;
})

pub returns-else-is_dialogue : goal.returns-else-is_dialogue
returns-else-is_dialogue g c = rw c.if-is_framed.false (record {
  ok = on_ok_weaker c.debug_session.result (λ answered. (_, refl, inl answered)) c.debug_session.ensures.ok;
  err = IfErr-weaker c.debug_session.result _ _ (λ e known. (_, refl, inl known)) c.debug_session.ensures.err;
})
