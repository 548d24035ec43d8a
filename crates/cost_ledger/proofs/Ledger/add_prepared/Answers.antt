-- The row comes behind the others; written out, so that a wrong body is refused without another search.
use Rattle.std.proofs.Common.{rules}
use Rattle.cost_ledger.proofs.Ledger.add_prepared.Goals as goal

pub returns : goal.returns
returns g c = search rules
