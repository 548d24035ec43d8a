-- The states that a debugger keeps, and how it goes back to one (own rules). A number is that of one state for good: one that is forgotten
-- leaves its place empty, and the next state that is kept has the next number. Points are no part of a state.
use Rattle.std.specs.Prelude.{ℕ, List, [], ◌∷◌, ◌++◌, slice_get, slice_set, Option, Some, None, is_some}
use Rattle.std.specs.Option.{option_flatten, option_map_or}
use Rattle.machine_core.specs.Machine.{MachineState}
use Rattle.bsp_debug.specs.declared.error.DebugError.{DebugError}
use Rattle.bsp_debug.specs.declared.error.DebugError.TheVariants.{NoSuchKept}
use Rattle.bsp_debug.specs.Debugger.{DebuggerState, refused_unless}

-- the state that is kept under a number, if one is
abbrev pub state_at : List (Option MachineState) → (number : ℕ) → Option MachineState
state_at kept number = option_flatten (slice_get kept number)

-- why a number is refused: no state was kept under it, or it was forgotten
abbrev pub kept_fault : List (Option MachineState) → (number : ℕ) → Option DebugError
kept_fault kept number = refused_unless (is_some (state_at kept number)) NoSuchKept

-- a debugger that keeps its machine's state too, under the next number
abbrev pub keeping : DebuggerState → DebuggerState
keeping d = record d { kept = d.kept ++ Some d.machine ∷ [] }

-- a debugger whose machine is in the state that is kept under a number, and has made no event there
abbrev pub back_at : (number : ℕ) → DebuggerState → DebuggerState
back_at number d = option_map_or (λ m. record d { machine = m; last = [] }) (state_at d.kept number) d

-- a debugger that has forgotten the state of a number
abbrev pub without : (number : ℕ) → DebuggerState → DebuggerState
without number d = record d { kept = slice_set d.kept number None }
