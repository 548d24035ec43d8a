-- The numbers that `byteorder` reads are those of the definitions.
use Rattle.std.proofs.Common.{◌≡◌, ℕ, List, drop, arith}
use Rattle.std.proofs.lemmas.List.{places}
use Rattle.byteorder.specs.Endian.{little_number}
use Rattle.node_memory.specs.Bytes.{half_at, word_at}

pub little_number-half : (bytes : List ℕ) (at : ℕ) → little_number 2 (drop at bytes) ≡ half_at bytes at
little_number-half bytes at = grind (arith, places)

pub little_number-word : (bytes : List ℕ) (at : ℕ) → little_number 4 (drop at bytes) ≡ word_at bytes at
little_number-word bytes at = grind (arith, places)

pub ruleset fields = (little_number-half, little_number-word)
