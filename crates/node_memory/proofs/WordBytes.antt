-- A half-word and a word, byte by byte.
use Rattle.std.proofs.Common.{◌≡◌, ℕ, ◌+◌, ◌*◌, ◌≤◌, List, length, Some, None, get_or, arith}
use Rattle.std.specs.Prelude.{if◌then◌else◌}
use Rattle.std.proofs.lemmas.Grind.{common_steps}
use Rattle.node_memory.specs.Bytes.{fits, half_at, word_at}

pub half_read : (m bytes : List ℕ) (addr value : ℕ) → bytes ≡ m → addr + 2 ≤ length bytes
    → value ≡ get_or bytes addr 0 + get_or bytes (addr + 1) 0 * 256
    → Some value ≡ (if fits (length m) addr 2 then Some (half_at m addr) else None)
half_read m bytes addr value is within read = grind (arith, common_steps)

pub word_read : (m bytes : List ℕ) (addr value : ℕ) → bytes ≡ m → addr + 4 ≤ length bytes
    → value ≡ get_or bytes addr 0 + get_or bytes (addr + 1) 0 * 256 + get_or bytes (addr + 2) 0 * 65536
    + get_or bytes (addr + 3) 0 * 16777216
    → Some value ≡ (if fits (length m) addr 4 then Some (word_at m addr) else None)
word_read m bytes addr value is within read = grind (arith, common_steps)
