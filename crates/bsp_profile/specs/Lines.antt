-- The lines of a profile, and the profile of a run (own format: comma-separated values).
use Rattle.std.specs.Prelude.{ℕ, ◌+◌, zero, suc, nat_lt, List, [], ◌++◌, codes, length, flat_map, if◌then◌else◌, is_some}
use Rattle.std.specs.Fmt.{decimal}
use Rattle.std.specs.List.{range_with_len}
use Rattle.node_core.specs.declared.state.State.{State}
use Rattle.node_core.specs.declared.state.State.TheVariants.{Running, Synced, Ended, Aborted, Exhausted, Faulted}
use Rattle.machine_core.specs.Machine.{MachineState}
use Rattle.machine_core.specs.Turn.{with_phases, superstep}
use Rattle.bsp_profile.specs.declared.row.Flow.{Flow}
use Rattle.bsp_profile.specs.declared.row.Row.{Row}
use Rattle.bsp_profile.specs.Moves.{moved, moves, rows}

-- a state in one word: which fault it was is not said
abbrev pub state_word : State → List ℕ
state_word Running = codes "running"
state_word Synced = codes "synced"
state_word Ended = codes "ended"
state_word Aborted = codes "aborted"
state_word Exhausted = codes "exhausted"
state_word (Faulted _) = codes "faulted"

-- the names of the columns
abbrev pub header : List ℕ
header = codes "superstep,rank,to,ticks,sent,received,kept,messages,requests,state\n"

-- which superstep and rank it is, and the work, in four columns, of which the third is empty
unfoldable pub work_text : Row → List ℕ
work_text r = decimal r.superstep ++ codes "," ++ decimal r.rank ++ codes ",," ++ decimal r.ticks

-- the bytes that the rank moved, in three columns
unfoldable pub moved_text : Row → List ℕ
moved_text r = decimal r.sent ++ codes "," ++ decimal r.received ++ codes "," ++ decimal r.kept

-- what it received and asked for, and its state, in three columns
unfoldable pub asked_text : Row → List ℕ
asked_text r = decimal r.messages ++ codes "," ++ decimal r.requests ++ codes "," ++ state_word r.state

-- a rank's row
abbrev pub row_text : Row → List ℕ
row_text r = work_text r ++ codes "," ++ moved_text r ++ codes "," ++ asked_text r

-- the bytes from one rank to another, in the columns of ranks and of what is sent
abbrev pub flow_text : Flow → List ℕ
flow_text f =
    decimal f.superstep ++ codes "," ++ decimal f.from ++ codes "," ++ decimal f.to ++ codes ",," ++ decimal f.bytes ++ codes ",,,,,"

abbrev pub row_line : Row → List ℕ
row_line r = row_text r ++ codes "\n"

abbrev pub flow_line : Flow → List ℕ
flow_line f = flow_text f ++ codes "\n"

-- the line of two ranks, where bytes go from one to the other
abbrev pub flow_lines_between : MachineState → ℕ → ℕ → List ℕ
flow_lines_between m from to =
    if nat_lt 0 (moved (moves m.nodes) from to)
    then flow_line (record { superstep = m.exchanges; from = from; to = to; bytes = moved (moves m.nodes) from to })
    else []

abbrev pub flow_lines_from : MachineState → ℕ → List ℕ
flow_lines_from m from = flat_map (flow_lines_between m from) (range_with_len 0 (length m.nodes))

abbrev pub row_lines : MachineState → List ℕ
row_lines m = flat_map row_line (rows m)

-- by the rank that bytes go from, and then by the one that they go to
abbrev pub flow_lines : MachineState → List ℕ
flow_lines m = flat_map (flow_lines_from m) (range_with_len 0 (length m.nodes))

-- the lines of a superstep none of whose nodes runs any more, before its turn
unfoldable pub superstep_lines : MachineState → List ℕ
superstep_lines m = row_lines m ++ flow_lines m

-- the lines of the next supersteps up to the outcome, so many of them at most
unfoldable pub lines_within : ℕ → MachineState → List ℕ
lines_within zero m = []
lines_within (suc k) m =
    if is_some m.outcome then [] else superstep_lines (with_phases m) ++ lines_within k (superstep m)

-- those of all that are left. Each exchange costs every node a tick, so that one superstep more than a node may make ticks is enough
unfoldable pub lines_of : MachineState → List ℕ
lines_of m = lines_within (m.settings.limit + 1) m

-- the profile of a run that begins at a machine
abbrev pub profile_of : MachineState → List ℕ
profile_of m = header ++ lines_of m
