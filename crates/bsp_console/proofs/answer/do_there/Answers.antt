-- A refusal is that of the command; and behind its reply stands where the node is.
use Rattle.std.proofs.Common.{◌≡◌, ◌∙◌, ◌++◌, [], ap}
use Rattle.machine_core.specs.Machine.{MachineState}
use Rattle.bsp_debug.specs.Debugger.{command_fault}
use Rattle.bsp_console.specs.Dialogue.{tells_in}
use Rattle.bsp_console.specs.Talk.{Replies, RepliesThere, place_or_refusal}
use Rattle.bsp_console.proofs.Theres.{refuses-same, does-more}
use Rattle.bsp_console.proofs.answer.do_there.Goals as goal

pub returns-then-answer-clause-told : goal.returns-then-answer-clause-told
returns-then-answer-clause-told g c =
    let a = c.in_ok-answer.answer in
    let d = c.args.debugger.now in
    let n = c.answer_command.new.debugger in
    let j = c.args.job.now in
    refuses-same (command_fault d.machine c.args.command) (Replies (tells_in c.args.manner j) c.args.command d n a.text.items)
    (RepliesThere (tells_in c.args.manner j) c.args.rank c.args.command d n a.text.items) (record d { last = [] }) n a.text.items a.refused
    c.in_ok-answer.ensures.refused c.if-answer.true c.in_ok-answer.ensures.told

pub returns-clause-told : goal.returns-clause-told
returns-clause-told g c =
    let a = c.in_ok-answer.answer in
    let d = c.args.debugger.now in
    let n = c.answer_command.new.debugger in
    let j = c.args.job.now in
    let placed = c.in_ok-place.ensures {u = tt} in
    let told : c.done.result.text.items ≡ a.text.items ++ place_or_refusal n.machine c.args.rank =
    rw c.done.ensures.told (c.in_ok-extend_from_slice.ensures.items ∙ ap (λ bs. a.text.items ++ bs)
    (c.as_slice.ensures.value ∙ placed.0 ∙ ap (λ (m : MachineState). place_or_refusal m c.args.rank) c.machine.ensures.value)) in
    does-more (command_fault d.machine c.args.command) (Replies (tells_in c.args.manner j) c.args.command d n a.text.items)
    (RepliesThere (tells_in c.args.manner j) c.args.rank c.args.command d n c.done.result.text.items) (record d { last = [] }) n
    a.text.items
    c.done.result.text.items a.refused c.in_ok-answer.ensures.refused c.if-answer.false
    (λ (does : Replies (tells_in c.args.manner j) c.args.command d n a.text.items).
    record { reply = a.text.items; does = does; told = told })
    c.in_ok-answer.ensures.told
