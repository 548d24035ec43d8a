-- What a command makes of a debugger: its trace forgets what was made, and then makes events of the machine as it was.
use Rattle.std.proofs.Common.{◌≡◌, List, [], Option, None, sym, ap, subst, ◌∙◌}
use Rattle.std.specs.Prelude.{IsSome}
use Rattle.machine_core.specs.Machine.{MachineState}
use Rattle.machine_core.specs.Events.{after}
use Rattle.bsp_debug.specs.declared.command.Command.{Command}
use Rattle.bsp_debug.specs.declared.error.DebugError.{DebugError}
use Rattle.bsp_debug.specs.declared.made.Made.{Made}
use Rattle.bsp_debug.specs.Debugger.{DebuggerState, command_fault, Makes, MakesPart}
use Rattle.bsp_debug.specs.Made.{events_of}
use Rattle.bsp_debug.specs.Reply.{Answer}
use Rattle.bsp_debug.specs.Trace.{Traced, IsTrace}

pub same-others : (d now : DebuggerState) (m : MachineState) (last : List Made) → d ≡ now
    → let a : DebuggerState = record d { machine = m; last = last } in
    let b : DebuggerState = record now { machine = m; last = last } in
    a ≡ b
same-others d now m last view = ap (λ (x : DebuggerState). let y : DebuggerState = record x { machine = m; last = last } in y) view

module _ (d now : DebuggerState) (t : Traced) (command : Command) (view : d ≡ now)
    (forgot : let forgotten : Traced = record { start = d.machine; machine = d.machine; made = [] } in t ≡ forgotten) where
  pub forgot-made : t.made ≡ []
  forgot-made = ap (λ (x : Traced). x.made) forgot

  pub forgot-start : t.start ≡ t.machine
  forgot-start = ap (λ (x : Traced). x.start) forgot ∙ sym (ap (λ (x : Traced). x.machine) forgot)

  forgot-machine : t.machine ≡ now.machine
  forgot-machine = ap (λ (x : Traced). x.machine) forgot ∙ ap (λ (x : DebuggerState). x.machine) view

  -- what is made from there is made of the machine as it was
  pub made-machine : (new : Traced) → IsTrace new → new.start ≡ t.start → new.machine ≡ after now.machine (events_of new.made)
  made-machine new is start = is.machine ∙ ap (λ (m : MachineState). after m (events_of new.made)) (start ∙ forgot-start ∙ forgot-machine)

  pub fault-of : (o : Option DebugError) → o ≡ command_fault t.machine command → command_fault now.machine command ≡ o
  fault-of o is = ap (λ (m : MachineState). command_fault m command) (sym forgot-machine) ∙ sym is

  pub faultless-command : None ≡ command_fault t.machine command → IsSome (command_fault now.machine command) → ⊥
  faultless-command none some = let is = fault-of None none in cc

  pub made-part : (made : List Made) → MakesPart d.points t.machine command (events_of made)
      → MakesPart now.points now.machine command (events_of made)
  made-part made part =
      subst (λ (x : DebuggerState). MakesPart x.points now.machine command (events_of made)) view
      (subst (λ (m : MachineState). MakesPart d.points m command (events_of made)) forgot-machine part)

  pub made-whole : (made : List Made) (reply : Answer) → Makes d.points t.machine command (events_of made) reply
      → Makes now.points now.machine command (events_of made) reply
  made-whole made reply whole =
      subst (λ (x : DebuggerState). Makes x.points now.machine command (events_of made) reply) view
      (subst (λ (m : MachineState). Makes d.points m command (events_of made) reply) forgot-machine whole)
