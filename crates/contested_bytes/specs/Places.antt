-- The order by rank and address in which the code takes landings and ranges. The definitions of contested bytes do not rest on this.
use Rattle.std.specs.Prelude.{◌≡◌, ℕ, ◌+◌, ◌<◌, ◌≤◌, ◌⊎◌, List, length}
use Rattle.std.specs.List.{AllPairs}
use Rattle.bsp_exchange.specs.Landings.{Landing}
use Rattle.contested_bytes.specs.declared.range.ContestedRange.{ContestedRange}

-- by rank, and then by address
abbrev pub IsNoLater : ℕ → ℕ → ℕ → ℕ → Type 0
IsNoLater rank addr rank' addr' = (rank < rank') ⊎ ((rank ≡ rank') × (addr ≤ addr'))

abbrev pub ComeInOrder : List Landing → Type 0
ComeInOrder all = AllPairs (λ (a b : Landing). IsNoLater a.rank a.addr b.rank b.addr) all

-- the first ends no later
abbrev pub ReachesAsFar : Landing → Landing → Type 0
ReachesAsFar a b = IsNoLater a.rank (a.addr + length a.bytes) b.rank (b.addr + length b.bytes)

abbrev pub StartsBy : ℕ → ℕ → ContestedRange → Type 0
StartsBy rank addr c = IsNoLater c.rank c.addr rank addr

abbrev pub StartInOrder : List ContestedRange → Type 0
StartInOrder found = AllPairs (λ (c d : ContestedRange). StartsBy d.rank d.addr c) found

-- a range begins in another, or right behind it
pub record Joins (c d : ContestedRange) : Type 0 where
  pub rank : c.rank ≡ d.rank
  pub from : c.addr ≤ d.addr
  pub to : d.addr ≤ c.addr + c.len
