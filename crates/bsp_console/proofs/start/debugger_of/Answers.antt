-- The image that was understood fits, and its machine is fresh.
use Rattle.std.proofs.Common.{[], ◌≡◌, ◌∙◌, ℕ, List, Bool, true, false, Option, Some, None, Result, Err, cond, ap, refl, rules, option_map}
use Rattle.std.specs.Option.{option_or}
use Rattle.std.proofs.lemmas.Result.{err_from_is_err_and}
use Rattle.machine_core.specs.declared.error.MachineError.{MachineError}
use Rattle.machine_core.specs.declared.error.MachineError.TheVariants.{BadNodes, BadMemory, BadLimit, SegmentOutside, NoMemory}
use Rattle.machine_core.specs.Faults.{NamesFault}
use Rattle.machine_core.specs.Machine.{MachineState, machine_fault, settings_fault}
use Rattle.node_memory.specs.Image.{Image, is_segment_outside}
use Rattle.bsp_debug.specs.Debugger.{DebuggerState}
use Rattle.bsp_session.specs.declared.job.Job.{Job}
use Rattle.bsp_session.specs.Images.{Gives}
use Rattle.bsp_session.specs.Outcome.{error_of_machine}
use Rattle.bsp_session.specs.Session.{IsErrorOfImage}
use Rattle.bsp_console.specs.Console.{console_fault}
use Rattle.bsp_console.proofs.start.debugger_of.Goals as goal

within : (fault : Option MachineError) (outside : Bool) → option_map error_of_machine fault ≡ None
    → (option_or fault (cond outside (Some SegmentOutside) None) ≡ Some SegmentOutside → ⊥) → outside ≡ false
within None false none fits = refl
within None true none fits = absurd (fits refl)
within (Some e) outside none fits = absurd (cc)

-- where the settings are good, only a part past the memory is refused
only_outside : (fault : Option MachineError) (outside : Bool) (cause : MachineError) → option_map error_of_machine fault ≡ None
    → option_or fault (cond outside (Some SegmentOutside) None) ≡ Some cause → (cause ≡ SegmentOutside) × (outside ≡ true)
only_outside None true cause none made = (cc, refl)
only_outside None false cause none made = cc
only_outside (Some fault) outside cause none made = cc

of_machine : {X : Type 0} (job : Job) (file : List ℕ) (m : Image) (r : Result X MachineError) (cause : MachineError)
    → console_fault job ≡ None → Gives job.format file m → r ≡ Err cause → NamesFault r (machine_fault m job.settings)
    → IsErrorOfImage job file (error_of_machine cause)
of_machine job file m r cause none gives is names = of_cause cause is
  where
    outside_of : (cause : MachineError) → machine_fault m job.settings ≡ Some cause
        → (cause ≡ SegmentOutside) × (is_segment_outside m job.settings.memory ≡ true)
    outside_of cause = only_outside (settings_fault job.settings) (is_segment_outside m job.settings.memory) cause none

    of_cause : (cause : MachineError) → r ≡ Err cause → IsErrorOfImage job file (error_of_machine cause)
    of_cause BadNodes is = let other = (outside_of BadNodes ((names BadNodes (λ same. cc)).0 is)).0 in cc
    of_cause BadMemory is = let other = (outside_of BadMemory ((names BadMemory (λ same. cc)).0 is)).0 in cc
    of_cause BadLimit is = let other = (outside_of BadLimit ((names BadLimit (λ same. cc)).0 is)).0 in cc
    of_cause SegmentOutside is = record {
      m = m;
      gives = gives;
      outside = (outside_of SegmentOutside ((names SegmentOutside (λ same. cc)).0 is)).1;
    }
    of_cause NoMemory is = tt

pub returns-in_err-machine-clause-err : goal.returns-in_err-machine-clause-err
returns-in_err-machine-clause-err g c =
    let p = err_from_is_err_and c.from_residual-in_err-machine.result c.from_residual-in_err-machine.ensures.1 in
    rw (p.1, p.2)
    (of_machine c.args.job.now c.args.file.now c.in_ok-image.image c.new.result _ c.requires.settings (search rules)
    c.in_err-machine.was c.new.ensures.fault)

pub returns-clause-ok : goal.returns-clause-ok
returns-clause-ok g c = record {
  m = c.in_ok-image.image;
  image = record {
    gives = search rules;
    fits =
        within (settings_fault c.args.job.now.settings) (is_segment_outside c.in_ok-image.image c.args.job.now.settings.memory)
        c.requires.settings
        (λ outside. let refused = (c.in_ok-machine.ensures.fault SegmentOutside (λ same. cc)).1 outside in cc);
  };
  is =
      c.new-2.ensures
      ∙ ap (λ (m : MachineState). let d : DebuggerState = record { first = m; machine = m; kept = []; points = []; last = [] } in d)
      c.in_ok-machine.ensures.ok;
}
