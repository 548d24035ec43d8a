-- The ranges before this one are merged: the merged ones have their bytes, are apart, and begin no later than the rest.
use Rattle.std.proofs.Common.{List, take}
use Rattle.std.specs.Prelude.{All}
use Rattle.bsp_exchange.specs.Landings.{Landing}
use Rattle.contested_bytes.specs.Ranges.{IsContestedRange, AreApart, EndsWithin}
use Rattle.contested_bytes.proofs.Merged.{HasSameBytes, StartBeforeRest}
use Rattle.contested_bytes.proofs.merge.merge.Given as goal

-- the ranges before this one are merged
abbrev pub invariant-loop-range : goal.invariant-loop-range
invariant-loop-range g l = record {
  within : All EndsWithin l.merged.items;
  bytes : HasSameBytes l.merged.items (take l.range-index l.found);
  contested : (all : List Landing) → All (IsContestedRange all) l.found → All (IsContestedRange all) l.merged.items;
  apart : AreApart l.merged.items;
  starts : StartBeforeRest l.found l.range-index l.merged.items;
}
