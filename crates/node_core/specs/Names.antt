-- What faults and states are called in texts for users (own names).
use Rattle.std.specs.Prelude.{ℕ, List, ◌++◌, codes}
use Rattle.node_core.specs.declared.state.Fault.{Fault}
use Rattle.node_core.specs.declared.state.Fault.TheVariants.{IllegalInstruction, FetchOutside, Misaligned, LoadOutside, StoreOutside, Break}
use Rattle.node_core.specs.declared.state.Fault.TheVariants.{UnknownCall, BadRank, RangeOutside, NotRegistered, TooMuch, BadSize}
use Rattle.node_core.specs.declared.state.State.{State}
use Rattle.node_core.specs.declared.state.State.TheVariants.{Running, Synced, Ended, Aborted, Exhausted, Faulted}

abbrev pub fault_name : Fault → List ℕ
fault_name IllegalInstruction = codes "IllegalInstruction"
fault_name FetchOutside = codes "FetchOutside"
fault_name Misaligned = codes "Misaligned"
fault_name LoadOutside = codes "LoadOutside"
fault_name StoreOutside = codes "StoreOutside"
fault_name Break = codes "Break"
fault_name UnknownCall = codes "UnknownCall"
fault_name BadRank = codes "BadRank"
fault_name RangeOutside = codes "RangeOutside"
fault_name NotRegistered = codes "NotRegistered"
fault_name TooMuch = codes "TooMuch"
fault_name BadSize = codes "BadSize"

-- the name of a faulted state has that of its fault
abbrev pub state_name : State → List ℕ
state_name Running = codes "running"
state_name Synced = codes "synced"
state_name Ended = codes "ended"
state_name Aborted = codes "aborted"
state_name Exhausted = codes "exhausted"
state_name (Faulted fault) = codes "fault " ++ fault_name fault
