-- How the search goes on: it takes calls by rank, and then by address, as one number. The definitions of exposed bytes do not rest on this.
use Rattle.std.specs.Prelude.{ℕ, ◌+◌, ◌*◌, ◌^◌, List, All, Contains}
use Rattle.exposed_bytes.specs.declared.call.Call.{Call}
use Rattle.exposed_bytes.specs.declared.exposure.Exposure.{Exposure}
use Rattle.exposed_bytes.specs.Found.{IsTold, IsOf, AreOfOtherPlaces}

abbrev pub source_key : Call → ℕ
source_key c = c.source_rank * 2 ^ 32 + c.source

abbrev pub target_key : Call → ℕ
target_key c = c.target_rank * 2 ^ 32 + c.target

-- what was found grows by ranges of calls of these two lists
pub record AddsFrom (readers writers : List Call) (old new : List Exposure) : Type 0 where
  pub keeps : (p q : ℕ) → IsTold old p q → IsTold new p q
  pub sound : (calls : List Call) → ((c : Call) → Contains readers c → Contains calls c)
      → ((c : Call) → Contains writers c → Contains calls c)
      → All (IsOf calls) old → All (IsOf calls) new
  pub once : AreOfOtherPlaces old → AreOfOtherPlaces new
