-- The listing of an image, as disassemblers write one: a line for each instruction, with its address and its statement (own
-- layout).
use Rattle.std.specs.Prelude.{ℕ, zero, suc, ◌+◌, ◌-◌, List, ◌∷◌, ◌++◌, codes, length, map}
use Rattle.std.specs.List.{flat_map, range_with_len}
use Rattle.std.specs.Option.{option_map_or}
use Rattle.node_memory.specs.Bytes.{byte_at}
use Rattle.node_memory.specs.Image.{Image, Segment}
use Rattle.rv_tables.specs.declared.code.Code.{Code as AnyCode}
use Rattle.rv_tables.specs.declared.code.Code.TheVariants.{Half, Word}
use Rattle.rv_tables.specs.Codes.{length_of, code_at}
use Rattle.rv_atomics.specs.declared.extensions.Extensions.{Extensions}
use Rattle.rv_listing.specs.declared.lines.Line.{Line}
use Rattle.rv_listing.specs.declared.lines.Line.TheVariants.{Code, Byte}
use Rattle.rv_listing.specs.Named.{named_statement_of}
use Rattle.rv_listing.specs.Numerals.{two_digits, four_digits, eight_digits}
use Rattle.rv_listing.specs.Statement.{statement_of}

-- a byte as data
abbrev pub byte_data : ℕ → List ℕ
byte_data byte = codes ".byte 0x" ++ two_digits byte

-- a line: its address, the code or the byte there, and in one column for all of them the code's statement, or the byte as data
abbrev pub text_with : (AnyCode → ℕ → List ℕ) → Line → List ℕ
text_with statement (Code addr (Half half)) =
    eight_digits addr ++ codes ": " ++ four_digits half ++ codes "      " ++ statement (Half half) addr
text_with statement (Code addr (Word word)) =
    eight_digits addr ++ codes ": " ++ eight_digits word ++ codes "  " ++ statement (Word word) addr
text_with statement (Byte addr byte) = eight_digits addr ++ codes ": " ++ two_digits byte ++ codes "        " ++ byte_data byte

abbrev pub text_of : Line → List ℕ
text_of = text_with statement_of

-- a line in which instructions of some extensions have their names; those of others are data, as any code without an instruction
abbrev pub shown_text : Extensions → Line → List ℕ
shown_text extensions = text_with (named_statement_of extensions)

-- of bytes from an address on: the line of the byte at an offset
abbrev pub byte_line : ℕ → List ℕ → ℕ → Line
byte_line addr bytes at = Byte (addr + at) (byte_at bytes at)

-- the lines of the bytes from an offset on, one for each
abbrev pub byte_lines : ℕ → List ℕ → ℕ → List Line
byte_lines addr bytes at = map (byte_line addr bytes) (range_with_len at (length bytes - at))

-- the lines of the bytes from an offset on, of which at most n are of codes: that of the code there and those of the bytes
-- behind it; or one for each byte, where what is left is no whole code
abbrev pub lines_from : ℕ → ℕ → List ℕ → ℕ → List Line
lines_from zero addr bytes at = byte_lines addr bytes at
lines_from (suc n) addr bytes at =
    option_map_or (λ code. Code (addr + at) code ∷ lines_from n addr bytes (at + length_of code)) (code_at bytes at)
    (byte_lines addr bytes at)

-- the lines of bytes from an address on. There are fewer codes than bytes
unfoldable pub listing_lines : ℕ → List ℕ → List Line
listing_lines addr bytes = lines_from (length bytes) addr bytes 0

-- a line's text and the line feed that ends it
abbrev pub ended_text : Line → List ℕ
ended_text line = text_of line ++ codes "\n"

abbrev pub ended_line : Extensions → Line → List ℕ
ended_line extensions line = shown_text extensions line ++ codes "\n"

-- the listing of a segment: the lines of its bytes, and none for the zeros after them
abbrev pub listing_of_segment : Extensions → Segment → List ℕ
listing_of_segment extensions s = flat_map (ended_line extensions) (listing_lines s.addr s.bytes)

-- the listing of an image: those of its segments, in their order
abbrev pub listing_of : Extensions → Image → List ℕ
listing_of extensions i = flat_map (listing_of_segment extensions) i.segments
