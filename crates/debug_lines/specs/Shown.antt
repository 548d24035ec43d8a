-- How points, memory, areas and requests are shown (own formats). Each line ends with a line feed.
use Rattle.std.specs.Prelude.{ℕ, ◌+◌, ◌*◌, ◌/◌, ◌%◌, ◌==◌, ◌&&◌, Bool, not, nat_le}
use Rattle.std.specs.Prelude.{if◌then◌else◌, min, List, [], ◌∷◌, ◌++◌, length, take, codes}
use Rattle.std.specs.Fmt.{decimal}
use Rattle.std.specs.List.{enumerate_from, flat_map, prefix_len, range_with_len}
use Rattle.rv_atomics.specs.declared.extensions.Extensions.{Extensions}
use Rattle.node_memory.specs.Bytes.{word_at}
use Rattle.bsp_slots.specs.declared.area.Area.{Area}
use Rattle.bsp_requests.specs.Request.{Asked, asks_put, asks_get, asks_send}
use Rattle.rv_listing.specs.Listing.{ended_line, listing_lines}
use Rattle.rv_listing.specs.Numerals.{two_digits, eight_digits}
use Rattle.bsp_debug.specs.declared.point.Point.{Point}
use Rattle.debug_lines.specs.declared.form.Form.{Form}
use Rattle.debug_lines.specs.declared.form.Form.TheVariants.{Words, Text, Codes}
use Rattle.debug_lines.specs.Replies.{entry_end, point_text}

-- ---- points

abbrev pub point_line : Point → List ℕ
point_line p = point_text p ++ codes "\n"

-- points, a line for each
abbrev pub point_lines : List Point → List ℕ
point_lines points = flat_map point_line points

-- ---- memory

-- how many bytes there are to look at for one of what a form shows: a word has four and a character one, and a code has at most four
abbrev pub unit_of : Form → ℕ
unit_of Words = 4
unit_of Text = 1
unit_of Codes = 4

-- and for so many, where so many bytes are left up to the end of the memory
abbrev pub shown_len : Form → (count left : ℕ) → ℕ
shown_len form count left = min (count * unit_of form) left

-- the head of a row, for the first of its four words
abbrev pub word_head : (addr at : ℕ) → List ℕ
word_head addr at = if at % 4 == 0 then eight_digits (addr + 4 * at) ++ codes ": " else []

-- of the words of bytes from an address on, `count` of them, the one at a place
abbrev pub word_entry : (addr count : ℕ) → List ℕ → ℕ → List ℕ
word_entry addr count bs at = word_head addr at ++ eight_digits (word_at bs (4 * at)) ++ entry_end 4 count at

-- the whole words of bytes from an address on, the low byte of each first: four in a row, behind the address of the first
abbrev pub word_lines : ℕ → List ℕ → List ℕ
word_lines addr bs = flat_map (word_entry addr (length bs / 4) bs) (range_with_len 0 (length bs / 4))

-- a byte that ASCII prints
abbrev pub is_printed : ℕ → Bool
is_printed b = nat_le 32 b && nat_le b 126

-- a byte as a character, in quotes: what ASCII does not print by an escape, and so the quote and the backslash
abbrev pub character : ℕ → List ℕ
character b =
    if b == 9 then codes "\\t" else
    (if b == 10 then codes "\\n" else
    (if b == 13 then codes "\\r" else
    (if b == 34 then codes "\\\"" else
    (if b == 92 then codes "\\\\" else
    (if is_printed b then b ∷ [] else codes "\\x" ++ two_digits b)))))

-- a byte that does not end a text
abbrev pub is_of_text : ℕ → Bool
is_of_text b = not (b == 0)

-- bytes as a text, up to the first that is 0
abbrev pub text_line : List ℕ → List ℕ
text_line bs = codes "\"" ++ flat_map character (take (prefix_len is_of_text bs) bs) ++ codes "\"\n"

-- the first lines of the listing of bytes from an address on, so many of them, in which instructions of floating point have their names, or
-- are data
abbrev pub code_lines : (extensions : Extensions) → (addr count : ℕ) → List ℕ → List ℕ
code_lines extensions addr count bs = flat_map (ended_line extensions) (take count (listing_lines addr bs))

-- bytes from an address on in a form that shows so many words, characters or codes
abbrev pub shown_text : Form → (extensions : Extensions) → (addr count : ℕ) → List ℕ → List ℕ
shown_text Words extensions addr count bs = word_lines addr bs
shown_text Text extensions addr count bs = text_line bs
shown_text Codes extensions addr count bs = code_lines extensions addr count bs

-- ---- what a node has registered, and what it has asked for

-- an area, by its number
abbrev pub area_line : ℕ × Area → List ℕ
area_line at = codes "area " ++ decimal at.0 ++ codes " at " ++ eight_digits at.1.addr ++ codes " size " ++ decimal at.1.size ++ codes "\n"

abbrev pub area_lines : List Area → List ℕ
area_lines areas = flat_map area_line (enumerate_from 0 areas)

-- a put: to whom, into which area of that rank, from which of its bytes on, and how many bytes
abbrev pub put_text : (target slot offset bytes : ℕ) → List ℕ
put_text target slot offset bytes =
    codes "put to rank " ++ decimal target ++ codes " area " ++ decimal slot ++ codes " offset " ++ decimal offset ++ codes " bytes "
    ++ decimal bytes

-- a get: the same of whom it is, and the address into which the bytes go
abbrev pub get_text : (target slot offset bytes dst : ℕ) → List ℕ
get_text target slot offset bytes dst =
    codes "get from rank " ++ decimal target ++ codes " area " ++ decimal slot ++ codes " offset " ++ decimal offset ++ codes " bytes "
    ++ decimal bytes
    ++ codes " into " ++ eight_digits dst

-- a message: to whom, and how long its payload and its tag are
abbrev pub send_text : (target payload tag : ℕ) → List ℕ
send_text target payload tag =
    codes "send to rank " ++ decimal target ++ codes " bytes " ++ decimal payload ++ codes " tag bytes " ++ decimal tag

abbrev pub asked_text : Asked → List ℕ
asked_text (asks_put p) = put_text p.target p.slot p.offset (length p.bytes)
asked_text (asks_get g) = get_text g.target g.slot g.offset g.len g.dst
asked_text (asks_send s) = send_text s.target (length s.payload) (length s.tag)

-- a request, by its number
abbrev pub request_line : ℕ × Asked → List ℕ
request_line at = codes "request " ++ decimal at.0 ++ codes " " ++ asked_text at.1 ++ codes "\n"

abbrev pub request_lines : List Asked → List ℕ
request_lines asked = flat_map request_line (enumerate_from 0 asked)
