-- A memory as the list of its bytes, and little-endian numbers in it (RISC-V Unprivileged ISA 20191213, section 1.4
-- "Memory"; section 2.6 "Load and Store Instructions").
use Rattle.std.specs.Prelude.{ℕ, ◌+◌, ◌*◌, ◌%◌, ◌^◌, ◌==◌, Bool, ◌&&◌, nat_le, List, length, slice_index}
use Rattle.std.specs.List.{slice_range, replace_range}
use Rattle.std.specs.Int.{w16, w32, from_le_bytes}

-- own rule: 4,096 to 2 ^ 31 bytes, in whole pages of 4,096
abbrev pub is_memory_size : ℕ → Bool
is_memory_size n = nat_le 4096 n && nat_le n (2 ^ 31) && n % 4096 == 0

-- own rule: a range of `len` bytes from `addr` on lies in a memory of `size` bytes; an empty one may begin at its end
abbrev pub fits : ℕ → ℕ → ℕ → Bool
fits size addr len = nat_le (addr + len) size

-- the bytes of a range
abbrev pub bytes_at : List ℕ → ℕ → ℕ → List ℕ
bytes_at m addr len = slice_range m addr (addr + len)

-- the memory with `bytes` in the place of as many from `addr` on
abbrev pub with_bytes : List ℕ → ℕ → List ℕ → List ℕ
with_bytes m addr bytes = replace_range m addr (addr + length bytes) bytes

abbrev pub byte_at : List ℕ → ℕ → ℕ
byte_at m addr = slice_index m addr

-- the half-word and the word whose little-endian bytes begin at `addr`
abbrev pub half_at : List ℕ → ℕ → ℕ
half_at m addr = from_le_bytes w16 (bytes_at m addr 2)

abbrev pub word_at : List ℕ → ℕ → ℕ
word_at m addr = from_le_bytes w32 (bytes_at m addr 4)

-- the two words whose bytes begin at `addr`, as one number, the lower one first
abbrev pub double_word_at : List ℕ → ℕ → ℕ
double_word_at m addr = word_at m addr + word_at m (addr + 4) * 2 ^ 32
