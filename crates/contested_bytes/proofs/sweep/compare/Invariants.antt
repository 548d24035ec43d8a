-- The addresses below this one are compared: the bytes found are those of before, and those in which the two differ below it.
use Rattle.std.specs.Prelude.{All, Contains, List}
use Rattle.bsp_exchange.specs.Landings.{Landing}
use Rattle.contested_bytes.specs.Ranges.{IsContestedRange, EndsWithin}
use Rattle.contested_bytes.proofs.Compared.{IsFoundBelow}
use Rattle.contested_bytes.proofs.sweep.compare.Given as goal

-- the addresses below this one are compared
abbrev pub invariant-loop-addr : goal.invariant-loop-addr
invariant-loop-addr g l = record {
  within : All EndsWithin l.found.items;
  bytes : IsFoundBelow l.addr l.first l.second l.fn.found.items l.found.items;
  contested : (all : List Landing) → Contains all l.first → Contains all l.second → All (IsContestedRange all) l.fn.found.items
      → All (IsContestedRange all) l.found.items;
}
