-- The lines that tell of contested bytes (own format: comma-separated values).
use Rattle.std.specs.Prelude.{ℕ, List, ◌++◌, codes, flat_map}
use Rattle.std.specs.Fmt.{decimal}
use Rattle.rv_listing.specs.Numerals.{two_digits, eight_digits}
use Rattle.contested_bytes.specs.declared.range.Contender.{Contender}
use Rattle.contested_bytes.specs.declared.range.ContestedRange.{ContestedRange}
use Rattle.contested_bytes.specs.declared.range.Kind.{Kind}
use Rattle.contested_bytes.specs.declared.range.Kind.TheVariants.{Get, Put}

-- the names of the columns
abbrev pub header : List ℕ
header =
    codes "superstep,rank,address,bytes,first_kind,first_rank,first_request,first_byte,second_kind,second_rank,second_request,second_byte\n"

abbrev pub kind_word : Kind → List ℕ
kind_word Get = codes "get"
kind_word Put = codes "put"

-- a request and the byte that it brings, in four columns: what it is, the rank that asked for it, its number, and the byte
unfoldable pub contender_text : Contender → List ℕ
contender_text c =
    kind_word c.kind ++ codes "," ++ decimal c.caller ++ codes "," ++ decimal c.issue ++ codes "," ++ two_digits c.byte

-- where contested bytes of a superstep are, in four columns: the superstep, the rank, the address, and how many there are
unfoldable pub place_text : ℕ → ContestedRange → List ℕ
place_text number c =
    decimal number ++ codes "," ++ decimal c.rank ++ codes "," ++ eight_digits c.addr ++ codes "," ++ decimal c.len

-- the line of a range: where it is, and two requests that bring its first byte
abbrev pub range_line : ℕ → ContestedRange → List ℕ
range_line number c =
    place_text number c ++ codes "," ++ contender_text c.first ++ codes "," ++ contender_text c.second ++ codes "\n"

-- the lines of ranges of a superstep, in their order
unfoldable pub range_lines : ℕ → List ContestedRange → List ℕ
range_lines number found = flat_map (range_line number) found
