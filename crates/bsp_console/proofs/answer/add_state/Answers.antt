-- The line of a state that is kept is that of its machine.
use Rattle.std.proofs.Common.{◌++◌, ◌∙◌, string_bytes, ap₂}
use Rattle.std.proofs.lemmas.Result.{IfOk-weaker}
use Rattle.debug_lines.specs.Kept.{kept_text}
use Rattle.bsp_console.proofs.answer.add_state.Goals as goal

pub returns-in-Some : goal.returns-in-Some
returns-in-Some g c =
    rw c.in-Some.is (IfOk-weaker c.add_kept.result _ _
    (λ u written. written ∙ ap₂ (λ k nodes. string_bytes c.args.text.now ++ kept_text c.args.number k nodes) c.superstep.ensures
    c.nodes.ensures) c.add_kept.ensures)
