-- The segments of a table that has no fault, one by one, those of a raw file, and what an answer says of a file's fault.
use Rattle.std.proofs.Common.{◌≡◌, ◌≢◌, ◌↔◌, ℕ, zero, suc, ◌+◌, ◌^◌, ◌<◌, ◌≤◌, Fits, w32, Bool, true, false, cond, ◌&&◌, ◌==◌, List, []}
use Rattle.std.proofs.Common.{◌∷◌, ◌++◌, length, map, filter, take, Option, Some, None, Result, Ok, Err, refl, sym, ap, ◌∙◌, arith, sum_by}
use Rattle.std.proofs.Common.{length-take}
use Rattle.std.specs.Prelude.{IfErr}
use Rattle.std.specs.List.{flat_map, range_with_len, list_all}
use Rattle.std.specs.Option.{option_or}
use Rattle.std.proofs.lemmas.Bool.Decides.{nat_tests}
use Rattle.std.proofs.lemmas.List.{places, take_all, map-append, append-nil, length-map}
use Rattle.std.proofs.lemmas.List.Sums.{length-filter, count_by-le-length, sum_by-cons}
use Rattle.node_memory.specs.Image.{Segment, IsSegment, IsWithinLimits}
use Rattle.elf_image.specs.declared.error.ElfError.{ElfError}
use Rattle.elf_image.specs.declared.error.ElfError.TheVariants.{NoMemory}
use Rattle.elf_image.specs.Headers.{ProgramHeader, file_header, program_header_at, program_headers, is_load}
use Rattle.elf_image.specs.Presents.{segment_of, raw_image}
use Rattle.elf_image.specs.Faults.{Check, first_fault, file_header_checks, entry_checks, table_checks, file_checks, file_fault}
use Rattle.elf_image.proofs.Checks.{first_fault-append}
use Rattle.elf_image.proofs.Table.{loads_more, length-program_headers, filesz_small}

-- the segments of the headers among the first n
abbrev pub segments_of : List ℕ → ℕ → List Segment
segments_of bytes n = map (segment_of bytes) (filter is_load (take n (program_headers bytes)))

more : (bytes : List ℕ) (i : ℕ) → i < (file_header bytes).e_phnum
    → segments_of bytes (i + 1) ≡ segments_of bytes i ++ map (segment_of bytes)
    (cond (is_load (program_header_at bytes i)) (program_header_at bytes i ∷ []) [])
more bytes i h =
    ap (map (segment_of bytes)) (loads_more bytes i h)
    ∙ map-append (segment_of bytes) (filter is_load (take i (program_headers bytes)))
    (cond (is_load (program_header_at bytes i)) (program_header_at bytes i ∷ []) [])

-- a step of the loading: `p` is entry i, and `loads` says whether it is of a segment
pub segments_of_push : (bytes : List ℕ) (i : ℕ) (p : ProgramHeader) (loads : Bool) (before after : List Segment) (s : Segment)
    → i < (file_header bytes).e_phnum → p ≡ program_header_at bytes i → loads ≡ is_load p → loads ≡ true → before ≡ segments_of bytes i
    → s ≡ segment_of bytes p → after ≡ before ++ s ∷ [] → after ≡ segments_of bytes (i + 1)
segments_of_push bytes i p loads before after s h is test holds was made pushed =
    let here : cond (is_load (program_header_at bytes i)) (program_header_at bytes i ∷ []) [] ≡ p ∷ [] =
    ap (λ (q : ProgramHeader). cond (is_load q) (q ∷ []) []) (sym is) ∙ ap (λ b. cond b (p ∷ []) []) (sym test ∙ holds) in
    pushed
    ∙ ap (λ (ss : List Segment). ss ++ s ∷ []) was
    ∙ ap (λ (t : Segment). segments_of bytes i ++ t ∷ []) made
    ∙ sym (more bytes i h ∙ ap (λ (ps : List ProgramHeader). segments_of bytes i ++ map (segment_of bytes) ps) here)

pub segments_of_skip : (bytes : List ℕ) (i : ℕ) (p : ProgramHeader) (loads : Bool) (before : List Segment) → i < (file_header bytes).e_phnum
    → p ≡ program_header_at bytes i → loads ≡ is_load p → loads ≡ false → before ≡ segments_of bytes i → before ≡ segments_of bytes (i + 1)
segments_of_skip bytes i p loads before h is test fails was =
    let here : cond (is_load (program_header_at bytes i)) (program_header_at bytes i ∷ []) [] ≡ [] =
    ap (λ (q : ProgramHeader). cond (is_load q) (q ∷ []) []) (sym is) ∙ ap (λ b. cond b (p ∷ []) []) (sym test ∙ fails) in
    was
    ∙ sym (more bytes i h ∙ ap (λ (ps : List ProgramHeader). segments_of bytes i ++ map (segment_of bytes) ps) here
    ∙ append-nil (segments_of bytes i))

pub segments_of_all : (bytes : List ℕ) (n : ℕ) (segments loaded : List Segment) → n ≡ (file_header bytes).e_phnum
    → loaded ≡ segments_of bytes n → segments ≡ loaded → segments ≡ map (segment_of bytes) (filter is_load (program_headers bytes))
segments_of_all bytes n segments loaded all was same =
    same ∙ was ∙ ap (λ (ps : List ProgramHeader). map (segment_of bytes) (filter is_load ps))
    (take_all n (program_headers bytes) (omega (arith, length-program_headers bytes)))

-- where a loop over the table ends
pub end_of_table : (i n m : ℕ) → m ≤ i → i ≤ m → m ≡ n → i ≡ n
end_of_table i n m all most same = omega arith

-- ---- limits

length-segment : (bytes : List ℕ) (p : ProgramHeader) → length (segment_of bytes p).bytes ≤ p.p_filesz
length-segment bytes p = grind (arith, places)

few_bytes : (bytes : List ℕ) (ps : List ProgramHeader)
    → sum_by (λ (s : Segment). length s.bytes) (map (segment_of bytes) ps) ≤ sum_by (λ (p : ProgramHeader). p.p_filesz) ps
few_bytes bytes [] = omega arith
few_bytes bytes (p ∷ ps) =
    let rest = few_bytes bytes ps in
    let first = length-segment bytes p in
    let of_segments = sum_by-cons (λ (s : Segment). length s.bytes) (segment_of bytes p) (map (segment_of bytes) ps) in
    let of_headers = sum_by-cons (λ (q : ProgramHeader). q.p_filesz) p ps in
    omega (arith, rest, first, of_segments, of_headers)

pub within_limits : (large : Bool) (bytes : List ℕ) (entry n : ℕ) (segments loaded : List Segment) → first_fault (table_checks large bytes) ≡ None
    → n ≡ (file_header bytes).e_phnum → n ≤ 65534 → loaded ≡ segments_of bytes n → segments ≡ loaded
    → IsWithinLimits (record { entry = entry; segments = segments })
within_limits large bytes entry n segments loaded none all few was same = record {
  few =
      let headers = take n (program_headers bytes) in
      omega (
        arith,
        ap length (same ∙ was),
        length-map (filter is_load headers) (segment_of bytes),
        length-filter is_load headers,
        count_by-le-length is_load headers,
        length-take n (program_headers bytes),
      );
  small =
      rw (same, was)
      (omega (arith, few_bytes bytes (filter is_load (take n (program_headers bytes))), filesz_small large bytes n none (omega arith)));
}

-- ---- raw files

not_zero : (n : ℕ) → (suc n == 0) ≡ false
not_zero n = grind (arith, nat_tests)

-- the segments of a raw file: one where it has some bytes, and none where it is empty
pub raw_some : (bytes copied : List ℕ) (empty : Bool) (before after segments : List Segment) → empty ≡ (length bytes == 0) → empty ≡ false
    → copied ≡ bytes → before ≡ [] → after ≡ before ++ record { addr = 0; bytes = copied; size = length bytes } ∷ [] → segments ≡ after
    → segments ≡ (raw_image bytes).segments
raw_some [] copied empty before after segments test some same none pushed is = absurd cc
raw_some (b ∷ bs) copied empty before after segments test some same none pushed is =
    is ∙ pushed
    ∙ ap (λ (ss : List Segment). ss ++ record { addr = 0; bytes = copied; size = length (b ∷ bs) } ∷ []) none
    ∙ ap (λ (c : List ℕ). record { addr = 0; bytes = c; size = length (b ∷ bs) } ∷ []) same

pub raw_none : (bytes : List ℕ) (empty : Bool) (segments : List Segment) → empty ≡ (length bytes == 0) → empty ≡ true → segments ≡ []
    → segments ≡ (raw_image bytes).segments
raw_none [] empty segments test none is = is
raw_none (b ∷ bs) empty segments test none is = let some = not_zero (length bs) in absurd (let never : false ≡ true = cc in cc)

raw_image_limits : (bytes : List ℕ) → length bytes ≤ 2 ^ 28 → IsWithinLimits (raw_image bytes)
raw_image_limits [] h = record { few = omega arith; small = omega arith }
raw_image_limits (b ∷ bs) h = record { few = omega arith; small = omega arith }

pub raw_is : (bytes : List ℕ) (segments : List Segment) → segments ≡ (raw_image bytes).segments
    → record { entry = 0; segments = segments } ≡ raw_image bytes
raw_is [] segments same = ap (λ (ss : List Segment). record { entry = 0; segments = ss }) same
raw_is (b ∷ bs) segments same = ap (λ (ss : List Segment). record { entry = 0; segments = ss }) same

pub raw_limits : (bytes : List ℕ) (segments : List Segment) → length bytes ≤ 2 ^ 28 → segments ≡ (raw_image bytes).segments
    → IsWithinLimits (record { entry = 0; segments = segments })
raw_limits bytes segments h same = rw (raw_is bytes segments same) (raw_image_limits bytes h)

pub raw_segment : (bytes copied : List ℕ) → length bytes ≤ 2 ^ 28 → copied ≡ bytes
    → IsSegment (record { addr = 0; bytes = copied; size = length bytes })
raw_segment bytes copied h same = record { holds_bytes = omega (arith, ap length same); in_addresses = omega arith }

pub raw_size : (n : ℕ) → n ≤ 2 ^ 28 → Fits w32 n
raw_size n h = omega arith

-- ---- faults of files

-- an error that is the fault of a file
abbrev is_fault : ElfError → Bool
is_fault NoMemory = false
is_fault _ = true

abbrev all_faults : List Check → Bool
all_faults checks = list_all (λ (c : Check). is_fault c.1) checks

first_is_fault : (b : Bool) (e d : ElfError) (rest : Option ElfError) → is_fault e ≡ true → (rest ≡ Some d → is_fault d ≡ true)
    → cond b (Some e) rest ≡ Some d → is_fault d ≡ true
first_is_fault true e d rest here there found = let same : e ≡ d = cc in rw (← same) here
first_is_fault false e d rest here there found = there found

both : (a b : Bool) → (a && b) ≡ true → (a ≡ true) × (b ≡ true)
both true b h = (refl, h)
both false b h = absurd cc

is_fault-first_fault : (checks : List Check) (d : ElfError) → all_faults checks ≡ true → first_fault checks ≡ Some d → is_fault d ≡ true
is_fault-first_fault [] d all found = absurd cc
is_fault-first_fault (c ∷ checks) d all found =
    let parts = both (is_fault c.1) (all_faults checks) all in
    first_is_fault c.0 c.1 d (first_fault checks) parts.0 (is_fault-first_fault checks d parts.1) found

all_faults-entries : (large : Bool) (bytes : List ℕ) (a n : ℕ) → all_faults (flat_map (entry_checks large bytes) (range_with_len a n)) ≡ true
unfolding entry_checks
all_faults-entries large bytes a zero = refl
all_faults-entries large bytes a (suc n) = all_faults-entries large bytes (a + 1) n

all_faults-file : (large : Bool) (bytes : List ℕ) → all_faults (file_checks large bytes) ≡ true
unfolding file_checks file_header_checks table_checks
all_faults-file large bytes = all_faults-entries large bytes 0 (file_header bytes).e_phnum

is_some_fault : (d : ElfError) → is_fault d ≡ true → d ≢ NoMemory
is_some_fault d is same = let e : is_fault d ≡ false = ap is_fault same in cc

-- want of memory is no fault of a file
pub file_fault-ne : (large : Bool) (bytes : List ℕ) (e : ElfError) → file_fault large bytes ≡ Some e → e ≢ NoMemory
file_fault-ne large bytes e found = is_some_fault e (is_fault-first_fault (file_checks large bytes) e (all_faults-file large bytes) found)

-- the first fault of a file is that of its file header, or else of the table
pub fault_of_header : (large : Bool) (bytes : List ℕ) (e : ElfError) → Some e ≡ first_fault (file_header_checks bytes) → file_fault large bytes ≡ Some e
unfolding file_checks
fault_of_header large bytes e found =
    first_fault-append (file_header_checks bytes) (table_checks large bytes)
    ∙ ap (λ (o : Option ElfError). option_or o (first_fault (table_checks large bytes))) (sym found)

pub fault_after_header : (large : Bool) (bytes : List ℕ) (o : Option ElfError) → None ≡ first_fault (file_header_checks bytes)
    → o ≡ first_fault (table_checks large bytes) → file_fault large bytes ≡ o
unfolding file_checks
fault_after_header large bytes o none found =
    first_fault-append (file_header_checks bytes) (table_checks large bytes)
    ∙ ap (λ (o : Option ElfError). option_or o (first_fault (table_checks large bytes))) (sym none)
    ∙ sym found

-- an answer's clause on faults, at each kind of answer
abbrev pub TellsFault : {T : Type 0} → Bool → List ℕ → Result T ElfError → Type 0
TellsFault large bytes r = (e : ElfError) → (file_fault large bytes ≡ Some e) ↔ ((r ≡ Err e) × (e ≢ NoMemory))

pub TellsFault-at_fault : {T : Type 0} → (large : Bool) (bytes : List ℕ) (r : Result T ElfError) (d : ElfError) → file_fault large bytes ≡ Some d → r ≡ Err d
    → TellsFault large bytes r
TellsFault-at_fault large bytes r d found is e = (
  λ h. let same : d ≡ e = cc in (is ∙ ap Err same, file_fault-ne large bytes e h),
  λ h. let same : d ≡ e = cc (is, h.0) in
      found ∙ ap Some same,
)

pub TellsFault-at_memory : {T : Type 0} → (large : Bool) (bytes : List ℕ) (r : Result T ElfError) → file_fault large bytes ≡ None → r ≡ Err NoMemory
    → TellsFault large bytes r
TellsFault-at_memory large bytes r none is e =
    (λ h. absurd cc, λ h. absurd (h.1 (let same : e ≡ NoMemory = cc (is, h.0) in same)))

pub TellsFault-at_ok : {T : Type 0} → (large : Bool) (bytes : List ℕ) (r : Result T ElfError) (x : T) → file_fault large bytes ≡ None → r ≡ Ok x
    → TellsFault large bytes r
TellsFault-at_ok large bytes r x none is e = (λ h. absurd cc, λ h. absurd (cc (is, h.0)))

-- the error of an answer that tells the fault
pub IfErr-from_TellsFault : {T : Type 0} → (large : Bool) (bytes : List ℕ) (r : Result T ElfError) → TellsFault large bytes r
    → IfErr r (λ e. e ≢ NoMemory → file_fault large bytes ≡ Some e)
IfErr-from_TellsFault large bytes (Ok x) tells = tt
IfErr-from_TellsFault large bytes (Err e) tells = λ other. (tells e).1 (refl, other)
