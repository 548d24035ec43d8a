-- Costs are answered of the machine as it is, and a refusal is told of a machine that is as it was.
use Rattle.std.proofs.Common.{◌≡◌, ◌∙◌, ◌⊎◌, inl, inr, ℕ, Bool, true, List, [], Option, Some, IsSome, ap, refl, sym, subst}
use Rattle.std.specs.Prelude.{is_some}
use Rattle.std.proofs.lemmas.Result.{IfOk-weaker}
use Rattle.bsp_debug.specs.declared.error.DebugError.{DebugError}
use Rattle.bsp_debug.specs.declared.error.DebugError.TheVariants.{NoMemory}
use Rattle.debug_lines.specs.declared.verdict.Verdict.TheVariants.{Refused}
use Rattle.debug_lines.specs.Verdicts.{verdict_text}
use Rattle.bsp_console.specs.Talk.{DoesOrRefuses}
use Rattle.machine_core.specs.Events.{after}
use Rattle.bsp_debug.specs.Debugger.{DebuggerState, Makes}
use Rattle.bsp_debug.specs.Made.{events_of}
use Rattle.bsp_console.proofs.Costs.{costs_are}
use Rattle.bsp_console.proofs.answer.answer_command.Goals as goal

pub told-requires : goal.told-requires
unfolding after
told-requires g c = λ rows is.
    let d = c.args.debugger.now in
    let makes = subst (Makes d.points d.machine c.args.command (events_of c.command.new.self.last)) is c.in-Ok.ensures.ok in
    let are = costs_are _ _ c.args.command _ rows makes in
    let same : c.command.new.self.machine ≡ d.machine = rw are.0 at c.command.ensures.machine in
    are.1 ∙ sym (ap (λ m. m.ledger) c.machine.ensures.value ∙ ap (λ m. m.ledger) same)

-- a refusal is told of a debugger that is as it was, but for what the last command made
told-refusal : (fault : Option DebugError) (done : Type 0) (old new : DebuggerState) (text : List ℕ) (e : DebugError)
    → ((e ≡ NoMemory) ⊎ (fault ≡ Some e)) → (e ≡ NoMemory → ⊥) → text ≡ verdict_text (Refused e)
    → new.machine ≡ after old.machine (events_of new.last) → new ≡ record old { machine = new.machine; last = new.last }
    → (IsSome fault → new.last ≡ [])
    → DoesOrRefuses fault done (record old { last = [] }) new text
unfolding after
told-refusal fault done old new text e (inl memory) other is machine others unmade = absurd (other memory)
told-refusal fault done old new text e (inr refused) other is machine others unmade =
    let none : new.last ≡ [] = unmade (rw refused refl) in
    let same : new.machine ≡ old.machine = rw none at machine in
    let as_it_was : new ≡ record old { last = [] } = others ∙ (λ i. record old { machine = same i; last = none i }) in
    rw refused (as_it_was, is)

pub returns-in-Err-clause-told : goal.returns-in-Err-clause-told
returns-in-Err-clause-told g c =
    IfOk-weaker c.verdict_of.result _ _
    (λ a verdict. told-refusal _ _ c.args.debugger.now c.command.new.self a.text.items c.in-Err.error c.in-Err.ensures.refused verdict.0
    verdict.1
    c.command.ensures.machine c.command.ensures.others c.command.ensures.unmade) c.verdict_of.ensures

-- and it is one
is_refusal : (fault : Option DebugError) (e : DebugError) (refused : Bool) → ((e ≡ NoMemory) ⊎ (fault ≡ Some e)) → (e ≡ NoMemory → ⊥)
    → refused ≡ true → refused ≡ is_some fault
is_refusal fault e refused (inl memory) other is = absurd (other memory)
is_refusal fault e refused (inr due) other is = rw due is

pub returns-in-Err-clause-refused : goal.returns-in-Err-clause-refused
returns-in-Err-clause-refused g c =
    IfOk-weaker c.verdict_of.result _ _ (λ a verdict. is_refusal _ c.in-Err.error a.refused c.in-Err.ensures.refused verdict.0 verdict.2)
    c.verdict_of.ensures
