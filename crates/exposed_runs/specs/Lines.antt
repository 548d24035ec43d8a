-- The lines that tell of exposed bytes (own format: comma-separated values).
use Rattle.std.specs.Prelude.{ℕ, List, ◌++◌, codes, flat_map}
use Rattle.std.specs.Fmt.{decimal}
use Rattle.rv_listing.specs.Numerals.{eight_digits}
use Rattle.exposed_bytes.specs.declared.call.Call.{Call}
use Rattle.exposed_bytes.specs.declared.call.Sort.{Sort}
use Rattle.exposed_bytes.specs.declared.call.Sort.TheVariants.{Put, HpPut, Get, HpGet, Send, DirectGet}
use Rattle.exposed_bytes.specs.declared.exposure.Exposure.{Exposure}

-- the names of the columns
abbrev pub header : List ℕ
header =
    codes "superstep,rank,address,bytes,reader_kind,reader_rank,reader_request,reader_pc,writer_kind,writer_rank,writer_request,writer_pc\n"

abbrev pub sort_word : Sort → List ℕ
sort_word Put = codes "put"
sort_word HpPut = codes "hpput"
sort_word Get = codes "get"
sort_word HpGet = codes "hpget"
sort_word Send = codes "send"
sort_word DirectGet = codes "direct_get"

-- a call, in four columns: what it is, the rank that makes it, its number, and where in the code it is made
unfoldable pub call_text : Call → List ℕ
call_text c =
    sort_word c.sort ++ codes "," ++ decimal c.caller ++ codes "," ++ decimal c.number ++ codes "," ++ eight_digits c.place

-- where exposed bytes of a superstep are, in four columns: the superstep, the rank, the address, and how many there are
unfoldable pub place_text : ℕ → Exposure → List ℕ
place_text number e =
    decimal number ++ codes "," ++ decimal e.rank ++ codes "," ++ eight_digits e.addr ++ codes "," ++ decimal e.len

-- the line of a range: where it is, the call that reads it, and the one that writes it
abbrev pub exposure_line : ℕ → Exposure → List ℕ
exposure_line number e =
    place_text number e ++ codes "," ++ call_text e.reader ++ codes "," ++ call_text e.writer ++ codes "\n"

-- the lines of ranges of a superstep, in their order
unfoldable pub exposure_lines : ℕ → List Exposure → List ℕ
exposure_lines number found = flat_map (exposure_line number) found
