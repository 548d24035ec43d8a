-- The image that the bytes of a file present.
use Rattle.std.specs.Prelude.{◌≡◌, List, map, filter, ℕ}
use Rattle.node_memory.specs.Bytes.{bytes_at}
use Rattle.node_memory.specs.Image.{Image, Segment, segments_from_0}
use Rattle.elf_image.specs.Headers.{ProgramHeader, file_header, program_headers, is_load}

-- the segment of a program header: the p_filesz bytes at p_offset in the file, which lie in memory from p_vaddr on, with
-- zeros after them up to p_memsz (System V ABI, chapter 5, section "Program Header", PT_LOAD)
abbrev pub segment_of : List ℕ → ProgramHeader → Segment
segment_of bytes p = record { addr = p.p_vaddr; bytes = bytes_at bytes p.p_offset p.p_filesz; size = p.p_memsz }

-- a file presents an image: it starts at e_entry, and its segments are those of the PT_LOAD headers, in the table's order
pub record Presents (bytes : List ℕ) (i : Image) : Type 0 where
  pub entry : i.entry ≡ (file_header bytes).e_entry
  pub segments : i.segments ≡ map (segment_of bytes) (filter is_load (program_headers bytes))

-- the image of a raw file: its bytes are the memory's from address 0 on, and pc starts there. An empty file has no segment
abbrev pub raw_image : List ℕ → Image
raw_image bytes = record { entry = 0; segments = segments_from_0 bytes }
