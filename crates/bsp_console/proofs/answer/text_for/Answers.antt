-- The reply that a header announces is that of the line, and so is whether it refuses.
use Rattle.std.proofs.Common.{ap₂, ◌∙◌}
use Rattle.std.proofs.lemmas.Result.{IfOk-weaker}
use Rattle.counted_io.specs.Framed.{framed_text}
use Rattle.bsp_console.proofs.answer.text_for.Goals as goal

pub returns-in-Script : goal.returns-in-Script
returns-in-Script g c = let told = rw c.in-Script.is at c.in_ok-answer.ensures.told in rw c.in-Script.is told

pub returns-in-Dialogue : goal.returns-in-Dialogue
returns-in-Dialogue g c = let told = rw c.in-Dialogue.is at c.in_ok-answer.ensures.told in rw c.in-Dialogue.is told

pub returns-in-Framed : goal.returns-in-Framed
returns-in-Framed g c =
    let answer = c.in_ok-answer.answer in
    let told = rw c.in-Framed.is at c.in_ok-answer.ensures.told in
    rw c.in-Framed.is (IfOk-weaker c.framed_text.result _ _
    (λ text is. (answer.text.items, told, is ∙ ap₂ framed_text c.in_ok-answer.ensures.refused c.as_slice.ensures.value))
    c.framed_text.ensures)
