-- Events keep the settings and a sound machine sound, and a sound machine has the instructions of A only where its settings say so.
use Rattle.std.proofs.Common.{◌∙◌, ap}
use Rattle.machine_core.specs.declared.settings.Settings.{Settings}
use Rattle.machine_core.specs.Events.{after}
use Rattle.machine_core.specs.Machine.{fresh}
use Rattle.machine_core.proofs.Absent.{lack_atomics}
use Rattle.machine_core.proofs.Fresh.{IsSoundMachine-fresh}
use Rattle.machine_core.proofs.Onward.{onward_after}
use Rattle.machine_core.proofs.Sound.{IsSoundMachine-after}
use Rattle.machine_core.proofs.laws.instructions_of_a_are_illegal_unless_they_are_asked_for.Goals as goal

pub returns : goal.returns
returns c image input settings events range off =
    let start = fresh image input settings in
    lack_atomics (after start events) (IsSoundMachine-after start events (IsSoundMachine-fresh image settings input range))
    (ap (λ (s : Settings). s.atomic) (onward_after start events).settings ∙ off)
