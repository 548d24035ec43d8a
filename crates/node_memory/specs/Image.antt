-- An image, as the program headers of an executable describe it (System V ABI, chapter 5 "Program Loading and Dynamic
-- Linking", section "Program Header": p_vaddr, p_filesz, p_memsz), and the memory that it gives. The ABI leaves open what
-- segments that overlap give: here the later one counts (own rule).
use Rattle.std.specs.Prelude.{ℕ, ◌+◌, ◌-◌, ◌≤◌, ◌^◌, ◌++◌, List, [], ◌∷◌, length, map, find, reverse, replicate, sum_by, Bool, ◌&&◌, nat_le}
use Rattle.std.specs.Prelude.{nat_lt, slice_index}
use Rattle.std.specs.List.{range_with_len, list_any}
use Rattle.std.specs.Option.{option_map_or}
use Rattle.node_memory.specs.Bytes.{with_bytes}

-- bytes from an address on, and zeros after them up to the segment's size
pub record Segment : Type 0 where
  pub addr : ℕ
  pub bytes : List ℕ
  pub size : ℕ

-- a segment has no more bytes than its size, and ends within the addresses of 32 bits
pub record IsSegment (s : Segment) : Type 0 where
  pub holds_bytes : length s.bytes ≤ s.size
  pub in_addresses : s.addr + s.size ≤ 2 ^ 32

-- where a program starts, and its segments in the order in which they are laid
pub record Image : Type 0 where
  pub entry : ℕ
  pub segments : List Segment

-- at most 65,534 segments, and 2 ^ 28 bytes in all of them (own limits)
pub record IsWithinLimits (i : Image) : Type 0 where
  pub few : length i.segments ≤ 65534
  pub small : sum_by (λ (s : Segment). length s.bytes) i.segments ≤ 2 ^ 28

abbrev pub covers : ℕ → Segment → Bool
covers addr s = nat_le s.addr addr && nat_lt addr (s.addr + s.size)

-- a segment's byte at an address that it covers: 0 past its bytes
abbrev pub segment_byte : ℕ → Segment → ℕ
segment_byte addr s = slice_index s.bytes (addr - s.addr)

-- an image's byte at an address: that of the last segment that covers it, and 0 where none does
abbrev pub image_byte : Image → ℕ → ℕ
image_byte i addr = option_map_or (segment_byte addr) (find (covers addr) (reverse i.segments)) 0

-- the first `size` bytes of an image
unfoldable pub image_bytes : Image → ℕ → List ℕ
image_bytes i size = map (image_byte i) (range_with_len 0 size)

-- a memory with a segment laid over it: its bytes, and zeros after them up to its size. An image's bytes do not rest on
-- this: it is what laying one segment does
abbrev pub with_segment : List ℕ → Segment → List ℕ
with_segment m s = with_bytes m s.addr (s.bytes ++ replicate (s.size - length s.bytes) 0)

-- a segment has some size and ends past a memory of `size` bytes
abbrev pub ends_past : ℕ → Segment → Bool
ends_past size s = nat_lt 0 s.size && nat_lt size (s.addr + s.size)

-- some segment of an image does so
abbrev pub is_segment_outside : Image → ℕ → Bool
is_segment_outside i size = list_any (ends_past size) i.segments

-- bytes as segments: one at address 0 that has them all, and none where there are no bytes
abbrev pub segments_from_0 : List ℕ → List Segment
segments_from_0 [] = []
segments_from_0 (b ∷ rest) = record { addr = 0; bytes = b ∷ rest; size = length (b ∷ rest) } ∷ []
