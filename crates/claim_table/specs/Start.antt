-- What a phase begins with, by what its table is told.
use Rattle.std.specs.Prelude.{map}
use Rattle.node_core.specs.Node.{PreparedNode}
use Rattle.claim_table.specs.declared.rule.PhaseStart.{PhaseStart}
use Rattle.claim_table.specs.Claims.{StartOfPhase}

abbrev pub start_of : {A : Type 0} → PhaseStart A → StartOfPhase
start_of about = record { input = about.input.now; row = map (λ (p : PreparedNode). p.node) about.row.value.items }
