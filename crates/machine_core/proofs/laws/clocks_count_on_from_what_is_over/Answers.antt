-- Events keep the settings and a sound machine sound, and a sound machine without outcome has its clocks.
use Rattle.std.proofs.Common.{subst}
use Rattle.std.specs.List.{AllZip}
use Rattle.machine_core.specs.declared.settings.Settings.{Settings}
use Rattle.machine_core.specs.Clock.{HasClock}
use Rattle.machine_core.specs.Events.{after}
use Rattle.machine_core.specs.Machine.{fresh}
use Rattle.machine_core.proofs.Fresh.{IsSoundMachine-fresh}
use Rattle.machine_core.proofs.Onward.{onward_after}
use Rattle.machine_core.proofs.Sound.{IsSoundMachine-after}
use Rattle.machine_core.proofs.laws.clocks_count_on_from_what_is_over.Goals as goal

pub returns : goal.returns
returns c image input settings events range none =
    let m = after (fresh image input settings) events in
    subst (λ (s : Settings). AllZip (HasClock s.clock m.ledger) m.nodes m.started)
    (onward_after (fresh image input settings) events).settings
    ((IsSoundMachine-after (fresh image input settings) events (IsSoundMachine-fresh image settings input range)).clocks none)
