-- A turn that is not enabled changes nothing, and one that is begins as the call below says.
use Rattle.std.proofs.Common.{sym, ◌∙◌}
use Rattle.std.proofs.lemmas.Bool.{false≢true}
use Rattle.machine_core.specs.declared.event.Event.TheVariants.{Turn}
use Rattle.machine_core.proofs.Steps.{event-disabled}
use Rattle.machine_core.proofs.machine.Machine.begin_turn.Goals as goal

pub returns-then-not-can_turn : goal.returns-then-not-can_turn
returns-then-not-can_turn g c =
    let disabled = sym c.can_turn.ensures ∙ c.if-not-can_turn.true in (
      record { ok = sym (event-disabled c.args.self Turn disabled); enabled = sym disabled; err = tt; refuses = tt },
      λ made. absurd (false≢true made),
    )

pub begin_enabled-requires : goal.begin_enabled-requires
begin_enabled-requires g c = sym c.can_turn.ensures ∙ c.if-not-can_turn.false

pub returns : goal.returns
returns g c = c.begin_enabled.ensures
