-- What two lists of the same landings, or of the same ranges, share.
use Rattle.std.proofs.Common.{◌↔◌, ℕ, List}
use Rattle.std.specs.Prelude.{All, Contains, IsPermutation}
use Rattle.std.proofs.lemmas.List.Elements.{All-weaker}
use Rattle.std.proofs.lemmas.List.Sorted.{All-permutation, Contains-permutation, IsPermutation-sym}
use Rattle.bsp_exchange.specs.Landings.{Landing}
use Rattle.contested_bytes.specs.declared.range.ContestedRange.{ContestedRange}
use Rattle.contested_bytes.specs.declared.range.Contender.{Contender}
use Rattle.contested_bytes.specs.Contested.{IsContested}
use Rattle.contested_bytes.specs.Ranges.{Brings, IsContestedRange, IsIn}

-- each of these landings is one of those
abbrev pub AreAmong : List Landing → List Landing → Type 0
AreAmong some all = (l : Landing) → Contains some l → Contains all l

contested_among : (some all : List Landing) (rank addr : ℕ) → AreAmong some all → IsContested some rank addr → IsContested all rank addr
contested_among some all rank addr among c = (c.0, c.1, among c.0 c.2, among c.1 c.3, c.4)

brings_among : (some all : List Landing) (rank addr : ℕ) (by : Contender) → AreAmong some all → Brings some rank addr by
    → Brings all rank addr by
brings_among some all rank addr by among b = (b.0, among b.0 b.1, b.2, b.3, b.4)

range_among : (some all : List Landing) (c : ContestedRange) → AreAmong some all → IsContestedRange some c → IsContestedRange all c
range_among some all c among is = record {
  some = is.some;
  first = brings_among some all c.rank c.addr c.first among is.first;
  second = brings_among some all c.rank c.addr c.second among is.second;
  differ = is.differ;
}

pub ranges_among : (some all : List Landing) (found sorted : List ContestedRange) → AreAmong some all → IsPermutation found sorted
    → All (IsContestedRange some) found → All (IsContestedRange all) sorted
ranges_among some all found sorted among moved contested =
    All-permutation (IsContestedRange all) found sorted moved
    (All-weaker (IsContestedRange some) (IsContestedRange all) (λ c is. range_among some all c among is) found contested)

in_sorted : (found sorted : List ContestedRange) (rank addr : ℕ) → IsPermutation found sorted → IsIn found rank addr → IsIn sorted rank addr
in_sorted found sorted rank addr moved here = (here.0, Contains-permutation found sorted here.0 moved here.1, here.2)

-- the ranges that were merged of those that were found have just the bytes that are contested
pub exact : (some all : List Landing) (found sorted merged : List ContestedRange) (rank addr : ℕ) → AreAmong some all → AreAmong all some
    → IsPermutation found sorted → (IsIn found rank addr ↔ IsContested some rank addr) → (IsIn merged rank addr ↔ IsIn sorted rank addr)
    → IsIn merged rank addr ↔ IsContested all rank addr
exact some all found sorted merged rank addr there back moved swept same = (
  λ here. contested_among some all rank addr there
      (swept.0 (in_sorted sorted found rank addr (IsPermutation-sym found sorted moved) (same.0 here))),
  λ contested. same.1 (in_sorted found sorted rank addr moved (swept.1 (contested_among all some rank addr back contested))),
)
