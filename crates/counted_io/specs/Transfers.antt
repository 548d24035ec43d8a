-- What a transfer that was cut short did to the known bytes of a reader or a writer.
use Rattle.std.specs.Prelude.{ℕ, ◌<◌, ◌≤◌, List, length, take, Option}
use Rattle.std.specs.Io.KnownBytes.{Appends, Consumes}

-- known bytes lose a prefix
abbrev pub ConsumesPrefix : Option (List ℕ) → Option (List ℕ) → Type 0
ConsumesPrefix old new = (prefix : List ℕ) × Consumes old new prefix

-- known bytes lose a prefix of at most `most` bytes
abbrev pub ConsumesAtMost : Option (List ℕ) → Option (List ℕ) → ℕ → Type 0
ConsumesAtMost old new most = (prefix : List ℕ) × (length prefix ≤ most) × Consumes old new prefix

-- known bytes lose a prefix of some bytes, at most `most`
abbrev pub ConsumesWithin : Option (List ℕ) → Option (List ℕ) → ℕ → Type 0
ConsumesWithin old new most = (prefix : List ℕ) × (0 < length prefix) × (length prefix ≤ most) × Consumes old new prefix

-- known bytes lose a prefix of more than `most` bytes
abbrev pub ConsumesPast : Option (List ℕ) → Option (List ℕ) → ℕ → Type 0
ConsumesPast old new most = (prefix : List ℕ) × (most < length prefix) × Consumes old new prefix

-- known bytes grow by the first k of `bytes`, and not by all
abbrev pub AppendsPrefix : Option (List ℕ) → Option (List ℕ) → List ℕ → Type 0
AppendsPrefix old new bytes = (k : ℕ) × (k < length bytes) × Appends old new (take k bytes)
