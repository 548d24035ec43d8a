-- Contested bytes as ranges: what the answer of the pass means.
use Rattle.std.specs.Prelude.{◌≡◌, ◌≢◌, ℕ, ◌+◌, ◌<◌, ◌≤◌, ◌⊎◌, ◌^◌, IsTrue, List, Contains}
use Rattle.std.specs.List.{AllPairs}
use Rattle.contested_bytes.specs.declared.range.Kind.{Kind}
use Rattle.contested_bytes.specs.declared.range.Kind.TheVariants.{Get, Put}
use Rattle.contested_bytes.specs.declared.range.Contender.{Contender}
use Rattle.contested_bytes.specs.declared.range.ContestedRange.{ContestedRange}
use Rattle.bsp_exchange.specs.Landings.{Key, Landing, landing_byte}
use Rattle.contested_bytes.specs.Contested.{reaches}

-- as in the key of a landing
abbrev pub number_of : Kind → ℕ
number_of Get = 0
number_of Put = 1

abbrev pub key_of : Contender → Key
key_of c = record { kind = number_of c.kind; caller = c.caller; issue = c.issue }

-- one of the landings is that of this request, and brings this byte to an address of a rank
abbrev pub Brings : List Landing → ℕ → ℕ → Contender → Type 0
Brings all rank addr c =
    (l : Landing) × Contains all l × (l.key ≡ key_of c) × IsTrue (reaches rank addr l) × (landing_byte addr l ≡ c.byte)

-- a range has the byte at an address of a rank
abbrev pub Has : ContestedRange → ℕ → ℕ → Type 0
Has c rank addr = (c.rank ≡ rank) × (c.addr ≤ addr) × (addr < c.addr + c.len)

-- one of the ranges has it
abbrev pub IsIn : List ContestedRange → ℕ → ℕ → Type 0
IsIn found rank addr = (c : ContestedRange) × Contains found c × Has c rank addr

-- a range of some bytes, of whose first one its requests bring different ones
pub record IsContestedRange (all : List Landing) (c : ContestedRange) : Type 0 where
  pub some : 0 < c.len
  pub first : Brings all c.rank c.addr c.first
  pub second : Brings all c.rank c.addr c.second
  pub differ : c.first.byte ≢ c.second.byte

-- a range comes before another in their order by rank and address, and a byte that neither has lies between them
abbrev pub EndsBefore : ContestedRange → ContestedRange → Type 0
EndsBefore c d = (c.rank < d.rank) ⊎ ((c.rank ≡ d.rank) × (c.addr + c.len < d.addr))

abbrev pub AreApart : List ContestedRange → Type 0
AreApart found = AllPairs EndsBefore found

-- no memory has bytes behind this
abbrev pub EndsWithin : ContestedRange → Type 0
EndsWithin c = c.addr + c.len ≤ 2 ^ 31
