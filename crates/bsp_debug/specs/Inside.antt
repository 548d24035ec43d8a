-- What the fields of a `Debugger` show.
use Rattle.bsp_debug.specs.declared.debugger.Debugger.TheInside.{Inside}
use Rattle.bsp_debug.specs.Debugger.{DebuggerState}

abbrev pub debugger_view : {A : Type 0} → Inside A → DebuggerState
debugger_view d = record { first = d.first.value; machine = d.trace.machine; kept = d.kept.items; points = d.points; last = d.trace.made }
