-- What the stages of a listing and of an assembly give, and their errors.
use Rattle.std.proofs.Common.{◌≡◌, ◌≢◌, ◌∙◌, ℕ, Bool, suc, ◌<◌, ◌≤◌, inl, inr, List, [], ◌∷◌, ◌++◌, length, get_or, take, drop, Option}
use Rattle.std.proofs.Common.{Some, ap, sym, refl, subst, arith, append_assoc, length-append}
use Rattle.std.specs.List.{flat_map}
use Rattle.std.specs.Io.KnownBytes.{Appends}
use Rattle.std.proofs.KnownBytes.{Appends-trans}
use Rattle.std.proofs.lemmas.Grind.{flat_map-append}
use Rattle.rv_atomics.specs.declared.extensions.Extensions.{Extensions}
use Rattle.counted_io.specs.declared.ReadError.{ReadError}
use Rattle.counted_io.specs.declared.ReadError.TheVariants as read
use Rattle.counted_io.specs.Transfers.{AppendsPrefix}
use Rattle.node_memory.specs.Image.{Image, Segment}
use Rattle.rv_listing.specs.declared.lines.Line.{Line}
use Rattle.rv_listing.specs.Listing.{ended_line, listing_of, listing_of_segment}
use Rattle.bsp_session.specs.declared.errors.SessionError.{SessionError}
use Rattle.bsp_session.specs.declared.errors.SessionError.TheVariants.{BadSettings, TooLong, Text, BadImage, SegmentOutside, ReadFault}
use Rattle.bsp_session.specs.declared.errors.SessionError.TheVariants.{TooManyNodes, WriteFault, NoWorker, NoMemory}
use Rattle.bsp_session.specs.declared.job.Format.TheVariants.{Asm}
use Rattle.bsp_session.specs.Conversion.{AppendsFirstLines, Conversion, EndsUnread, IsErrorOfAssembly, IsErrorOfLines, IsErrorOfListing}
use Rattle.bsp_session.specs.Conversion.{ReadsImage, lines_of_image, lines_of_segment}
use Rattle.bsp_session.specs.Images.{image_fault, most_bytes}
use Rattle.bsp_session.specs.Outcome.{error_of_read}
use Rattle.bsp_session.specs.Streams.{IsUntouched, ReadsWhole, Stream}
use Rattle.bsp_session.proofs.Outputs.{AppendsPrefix-at, HasRisen-above, flat_map-at}
use Rattle.bsp_session.proofs.Refusals.{of_image, text_alone}

-- ---- the file was not read whole

pub IsErrorOfListing-reading : (extensions : Extensions) (c : Conversion) (why : ReadError) → EndsUnread c why
    → IsErrorOfListing extensions c (error_of_read why)
IsErrorOfListing-reading extensions c read.TooLong ended = ended
IsErrorOfListing-reading extensions c read.ReadFault ended = ended
IsErrorOfListing-reading extensions c read.NoMemory ended = inl (inl ended)

pub IsErrorOfAssembly-reading : (c : Conversion) (why : ReadError) → EndsUnread c why → IsErrorOfAssembly c (error_of_read why)
IsErrorOfAssembly-reading c read.TooLong ended = ended
IsErrorOfAssembly-reading c read.ReadFault ended = ended
IsErrorOfAssembly-reading c read.NoMemory ended = inl ended

-- ---- the file was read, and gives no image, or memory was refused

pub IsErrorOfListing-image : (extensions : Extensions) (c : Conversion) (i : List ℕ) (e : SessionError)
    → ReadsWhole c.file i (most_bytes c.format)
    → (e ≢ NoMemory → image_fault c.format i ≡ Some e) → IsUntouched c.out → IsErrorOfListing extensions c e
IsErrorOfListing-image extensions c i e whole made untouched =
    of_image c.format i (IsErrorOfListing extensions c) (inl (inr (record { i = i; read = whole; unwritten = untouched })))
    (λ cause is. record { i = i; read = whole; refused = is; unwritten = untouched })
    (λ cause is. record { i = i; read = whole; refused = is; unwritten = untouched }) e made

pub IsErrorOfAssembly-image : (extensions : Extensions) (c : Conversion) (i : List ℕ) (e : SessionError) → c.format ≡ Asm extensions
    → ReadsWhole c.file i (most_bytes c.format)
    → (e ≢ NoMemory → image_fault c.format i ≡ Some e) → IsUntouched c.out → IsErrorOfAssembly c e
IsErrorOfAssembly-image extensions c i e text whole made untouched =
    of_image c.format i (IsErrorOfAssembly c) (inr (record { i = i; read = whole; unwritten = untouched }))
    (λ cause is. record { i = i; read = whole; refused = is; unwritten = untouched })
    (λ cause is. absurd (text_alone extensions i cause (subst (λ f. image_fault f i ≡ Some (BadImage cause)) text is))) e made

-- ---- lines that were not all written

-- the texts of lines of lines, one after another
texts-flat : (extensions : Extensions) {X : Type 0} (lines : X → List Line) (xs : List X)
    → flat_map (ended_line extensions) (flat_map lines xs) ≡ flat_map (λ x. flat_map (ended_line extensions) (lines x)) xs
texts-flat extensions lines [] = refl
texts-flat extensions lines (x ∷ xs) =
    flat_map-append (ended_line extensions) (lines x) (flat_map lines xs)
    ∙ ap (λ rest. flat_map (ended_line extensions) (lines x) ++ rest) (texts-flat extensions lines xs)

-- the text of lines in three parts
pub texts-parted : (extensions : Extensions) (all first mid last : List Line) → all ≡ first ++ (mid ++ last)
    → flat_map (ended_line extensions) all ≡ flat_map (ended_line extensions) first
    ++ (flat_map (ended_line extensions) mid ++ flat_map (ended_line extensions) last)
texts-parted extensions all first mid last is =
    ap (flat_map (ended_line extensions)) is ∙ flat_map-append (ended_line extensions) first (mid ++ last)
    ∙ ap (λ bs. flat_map (ended_line extensions) first ++ bs) (flat_map-append (ended_line extensions) mid last)

-- an image's listing has the texts of its lines
pub listing-lines : (extensions : Extensions) (m : Image) → flat_map (ended_line extensions) (lines_of_image m) ≡ listing_of extensions m
listing-lines extensions m = texts-flat extensions lines_of_segment m.segments

-- the lines of some segments, and some first ones of the next
first_lines : (extensions : Extensions) (segments : List Segment) (place : ℕ) (segment : Segment) (start mid end : Option (List ℕ))
    → place < length segments
    → segment ≡ get_or segments place segment
    → Appends start mid (flat_map (listing_of_segment extensions) (take place segments))
    → AppendsFirstLines extensions mid end (lines_of_segment segment)
    → AppendsFirstLines extensions start end (flat_map lines_of_segment segments)
first_lines extensions segments place segment start mid end within is before p =
    let done = flat_map lines_of_segment (take place segments) in
    let behind = flat_map lines_of_segment (drop (suc place) segments) in
    record {
      first = done ++ p.first;
      rest = p.rest ++ behind;
      split = flat_map-at lines_of_segment segments place segment within is ∙ ap (λ ls. done ++ (ls ++ behind)) p.split
          ∙ ap (λ ls. done ++ ls) (append_assoc p.first p.rest behind) ∙ sym (append_assoc done p.first (p.rest ++ behind));
      some_left = omega (arith, p.some_left, length-append p.rest behind);
      written = subst (Appends start end)
          (sym (flat_map-append (ended_line extensions) done p.first
          ∙ ap (λ bs. bs ++ flat_map (ended_line extensions) p.first) (texts-flat extensions lines_of_segment (take place segments))))
          (Appends-trans start mid end _ _ before p.written);
    }

-- an error of a segment's lines, after those of the segments before it
pub IsErrorOfLines-at : (extensions : Extensions) (image : Image) (segments : List Segment) (place : ℕ) (segment : Segment)
    (out next : Stream)
    (e : SessionError)
    → segments ≡ image.segments
    → place < length segments → segment ≡ get_or segments place segment → out.after ≡ next.after → out.failures_after ≡ next.failures_after
    → out.failures_before ≤ next.failures_before
    → Appends out.before next.before (flat_map (listing_of_segment extensions) (take place segments))
    → IsErrorOfLines extensions next (lines_of_segment segment) e
    → IsErrorOfLines extensions out (lines_of_image image) e
IsErrorOfLines-at extensions image segments place segment out next WriteFault all within is same count rises before (some, failed) = (
  rw (
    same,
    ap (λ i. flat_map (ended_line extensions) (flat_map lines_of_segment i))
        (sym all),
    texts-flat extensions lines_of_segment segments,
  )
      (AppendsPrefix-at (listing_of_segment extensions) segments place segment out.before next.before next.after within is before some),
  rw count (HasRisen-above _ _ _ rises failed),
)
IsErrorOfLines-at extensions image segments place segment out next NoMemory all within is same count rises before first =
    rw (same, sym all) (first_lines extensions segments place segment out.before next.before next.after within is before first)
IsErrorOfLines-at extensions image segments place segment out next (BadSettings cause) all within is same count rises before p = absurd p
IsErrorOfLines-at extensions image segments place segment out next TooLong all within is same count rises before p = absurd p
IsErrorOfLines-at extensions image segments place segment out next (Text cause) all within is same count rises before p = absurd p
IsErrorOfLines-at extensions image segments place segment out next (BadImage cause) all within is same count rises before p = absurd p
IsErrorOfLines-at extensions image segments place segment out next SegmentOutside all within is same count rises before p = absurd p
IsErrorOfLines-at extensions image segments place segment out next TooManyNodes all within is same count rises before p = absurd p
IsErrorOfLines-at extensions image segments place segment out next ReadFault all within is same count rises before p = absurd p
IsErrorOfLines-at extensions image segments place segment out next NoWorker all within is same count rises before p = absurd p

-- an error of an image's lines is one of the listing
pub IsErrorOfListing-lines : (extensions : Extensions) (c : Conversion) (m : Image) (e : SessionError) → ReadsImage c m
    → IsErrorOfLines extensions c.out (lines_of_image m) e → IsErrorOfListing extensions c e
IsErrorOfListing-lines extensions c m WriteFault given (some, failed) =
    record {
      m = m;
      given = given;
      written = subst (AppendsPrefix c.out.before c.out.after)
          (listing-lines extensions m) some;
      failed = failed;
    }
IsErrorOfListing-lines extensions c m NoMemory given p = inr (record { m = m; given = given; written = p })
IsErrorOfListing-lines extensions c m (BadSettings cause) given p = absurd p
IsErrorOfListing-lines extensions c m TooLong given p = absurd p
IsErrorOfListing-lines extensions c m (Text cause) given p = absurd p
IsErrorOfListing-lines extensions c m (BadImage cause) given p = absurd p
IsErrorOfListing-lines extensions c m SegmentOutside given p = absurd p
IsErrorOfListing-lines extensions c m TooManyNodes given p = absurd p
IsErrorOfListing-lines extensions c m ReadFault given p = absurd p
IsErrorOfListing-lines extensions c m NoWorker given p = absurd p
