-- No cost row is above the first version, so no row of a ledger is, and no total of such rows.
use Rattle.std.proofs.Common.{◌+◌}
use Rattle.std.proofs.lemmas.List.Elements.{All-nil}
use Rattle.cost_ledger.proofs.Totals.{total_is_at_most_v1}
use Rattle.machine_core.specs.Machine.{fresh}
use Rattle.machine_core.specs.Turn.{end_of}
use Rattle.machine_core.proofs.Costs.{cost_row-at_most}
use Rattle.machine_core.proofs.Ledgers.{AreAtMostV1-after, AreAtMostV1-supersteps}
use Rattle.machine_core.proofs.laws.no_total_is_above_the_first_version.Goals as goal

pub returns-clause-row : goal.returns-clause-row
returns-clause-row c = cost_row-at_most

pub returns-clause-several : goal.returns-clause-several
returns-clause-several c = AreAtMostV1-after

pub returns-clause-last : goal.returns-clause-last
unfolding end_of
returns-clause-last c m rows = AreAtMostV1-supersteps (m.settings.limit + 1) m rows

pub returns-clause-run : goal.returns-clause-run
returns-clause-run c image input settings events = AreAtMostV1-after (fresh image input settings) events (All-nil _)

pub returns-clause-total : goal.returns-clause-total
returns-clause-total c image input settings events g l =
    total_is_at_most_v1 g l _ (AreAtMostV1-after (fresh image input settings) events (All-nil _))
