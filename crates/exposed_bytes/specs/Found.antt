-- Exposed bytes as ranges with their two calls: what the answer of the search means.
use Rattle.std.specs.Prelude.{◌≡◌, ◌≢◌, ℕ, ◌+◌, ◌<◌, ◌≤◌, ◌↔◌, List, All, Contains}
use Rattle.std.specs.List.{AllPairs}
use Rattle.exposed_bytes.specs.declared.call.Call.{Call}
use Rattle.exposed_bytes.specs.declared.exposure.Exposure.{Exposure}
use Rattle.exposed_bytes.specs.Exposed.{Exposes}

-- a range has the byte at an address of a rank
abbrev pub Has : Exposure → ℕ → ℕ → Type 0
Has e rank addr = (e.rank ≡ rank) × (e.addr ≤ addr) × (addr < e.addr + e.len)

-- a range is just what its two calls expose, and not empty
pub record IsWhole (e : Exposure) : Type 0 where
  pub some : 0 < e.len
  pub exact : (rank addr : ℕ) → Has e rank addr ↔ Exposes rank addr e.reader e.writer

-- a range is of two calls of a superstep
pub record IsOf (calls : List Call) (e : Exposure) : Type 0 where
  pub reader : Contains calls e.reader
  pub writer : Contains calls e.writer
  pub whole : IsWhole e

-- one of the ranges is of calls that were made at these places of the code
abbrev pub IsTold : List Exposure → ℕ → ℕ → Type 0
IsTold found reader writer =
    (e : Exposure) × Contains found e × (e.reader.place ≡ reader) × (e.writer.place ≡ writer)

-- of two ranges the readers or the writers have different places
abbrev pub HaveOtherPlaces : Exposure → Exposure → Type 0
HaveOtherPlaces d e = d.reader.place ≡ e.reader.place → d.writer.place ≢ e.writer.place

abbrev pub AreOfOtherPlaces : List Exposure → Type 0
AreOfOtherPlaces found = AllPairs HaveOtherPlaces found

-- ranges are those that the calls of a superstep expose: each one is of two calls, and all that these expose; of each two places of the
-- code from which two calls expose bytes there is one, and not another
pub record AreExposures (calls : List Call) (found : List Exposure) : Type 0 where
  pub sound : All (IsOf calls) found
  pub told : (reader writer : Call) (rank addr : ℕ) → Contains calls reader → Contains calls writer → Exposes rank addr reader writer
      → IsTold found reader.place writer.place
  pub once : AreOfOtherPlaces found

-- one of the ranges has the byte
abbrev pub IsIn : List Exposure → ℕ → ℕ → Type 0
IsIn found rank addr = (e : Exposure) × Contains found e × Has e rank addr

-- no two calls have one place
abbrev pub HavePlacesOfTheirOwn : List Call → Type 0
HavePlacesOfTheirOwn calls = (c d : Call) → Contains calls c → Contains calls d → c.place ≡ d.place → c ≡ d
