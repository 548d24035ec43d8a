-- The landings before this one are compared, all their contested bytes are found, and `furthest` is the one that reaches furthest.
use Rattle.std.proofs.Common.{◌<◌}
use Rattle.std.specs.Prelude.{All}
use Rattle.contested_bytes.specs.Ranges.{IsContestedRange, EndsWithin}
use Rattle.contested_bytes.proofs.Swept.{AreFound, AreContested, ReachesFurthest}
use Rattle.contested_bytes.proofs.sweep.sweep.Given as goal

-- the landings before this one are compared
abbrev pub invariant-loop-at : goal.invariant-loop-at
invariant-loop-at g l = record {
  place : l.furthest < l.at;
  within : All EndsWithin l.found.items;
  contested : All (IsContestedRange l.all) l.found.items;
  complete : AreFound l.all l.at l.found.items;
  sound : AreContested l.all l.found.items;
  reach : ReachesFurthest l.all l.at l.furthest;
}
