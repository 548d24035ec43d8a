-- What the end of a machine is called in texts for users (own texts).
use Rattle.std.specs.Prelude.{ℕ, List, ◌++◌, codes}
use Rattle.std.specs.Fmt.{decimal}
use Rattle.node_core.specs.Names.{state_name}
use Rattle.bsp_exchange.specs.Faults.{fault_text}
use Rattle.machine_core.specs.declared.outcome.Outcome.{Outcome}
use Rattle.machine_core.specs.declared.outcome.Outcome.TheVariants.{Ended, NodeStopped, Desync, Refused}

abbrev pub outcome_text : Outcome → List ℕ
outcome_text Ended = codes "ended"
outcome_text (NodeStopped rank state) = codes "rank " ++ decimal rank ++ codes " stopped: " ++ state_name state
outcome_text (Desync ended synced) =
    codes "desync: rank " ++ decimal ended ++ codes " ended, rank " ++ decimal synced ++ codes " synced"
outcome_text (Refused fault) = codes "refused: " ++ fault_text fault
