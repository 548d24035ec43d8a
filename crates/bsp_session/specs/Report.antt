-- The report of a run: what the nodes wrote, and where a job asks for them the costs of the supersteps in a version of the ledger, their
-- total at g a byte of the h-relation and l a superstep, and how the run ended (the cost of a superstep, w + g h + l: BSPlib, Hill and
-- others 1998). The texts are own rules.
use Rattle.std.specs.Prelude.{ℕ, List, [], ◌++◌, codes, if◌then◌else◌}
use Rattle.std.specs.Option.{option_map_or}
use Rattle.cost_ledger.specs.declared.LedgerText.{LedgerText}
use Rattle.cost_ledger.specs.CostRow.{cost_lines}
use Rattle.machine_core.specs.Machine.{MachineState}
use Rattle.machine_core.specs.Outcome.{outcome_text}
use Rattle.bsp_session.specs.declared.job.Job.{Job}

-- how a machine ended; no line where it has not
abbrev pub outcome_line : MachineState → List ℕ
outcome_line m = option_map_or (λ end. outcome_text end ++ codes "\n") m.outcome []

abbrev pub costs_and_outcome : LedgerText → ℕ → ℕ → MachineState → List ℕ
costs_and_outcome version g l m = cost_lines version g l m.ledger ++ outcome_line m

-- the lines that follow the output, where a job asks for them
abbrev pub report_lines : Job → MachineState → List ℕ
report_lines job m = if job.report then costs_and_outcome job.ledger job.g job.l m else []

-- the report of a machine at its end
abbrev pub report_of : Job → MachineState → List ℕ
report_of job m = m.output ++ report_lines job m
