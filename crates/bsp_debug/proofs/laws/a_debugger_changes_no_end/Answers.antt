-- Events change no end, and a machine that has its outcome is at its end.
use Rattle.std.proofs.Common.{◌∙◌, sym}
use Rattle.machine_core.specs.Events.{after}
use Rattle.machine_core.proofs.Ends.{end_of-after, end_of-there}
use Rattle.bsp_debug.specs.Made.{events_of}
use Rattle.bsp_debug.proofs.laws.a_debugger_changes_no_end.Goals as goal

pub returns-clause-same : goal.returns-clause-same
returns-clause-same c m entries sound = end_of-after m (events_of entries) sound

pub returns-clause-there : goal.returns-clause-there
returns-clause-there c m entries sound over =
    sym (end_of-there (after m (events_of entries)) over) ∙ end_of-after m (events_of entries) sound
