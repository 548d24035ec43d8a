-- The sessions that run nothing: the file of an image is read, and what is written is the image's listing, or the file that it is
-- saved as.
use Rattle.std.specs.Prelude.{◌≡◌, ◌<◌, ◌⊎◌, Bool, List, ◌++◌, ℕ, length, Option, Some}
use Rattle.std.specs.List.{flat_map}
use Rattle.std.specs.Io.KnownBytes.{Appends}
use Rattle.rv_atomics.specs.declared.extensions.Extensions.{Extensions}
use Rattle.counted_io.specs.Transfers.{AppendsPrefix}
use Rattle.counted_io.specs.declared.ReadError.{ReadError}
use Rattle.counted_io.specs.declared.ReadError.TheVariants as read
use Rattle.elf_image.specs.Spelling.{spelling_of}
use Rattle.node_memory.specs.Image.{Image, Segment}
use Rattle.rv_listing.specs.declared.lines.Line.{Line}
use Rattle.rv_listing.specs.Listing.{ended_line, listing_lines, listing_of}
use Rattle.bsp_session.specs.declared.errors.SessionError.{SessionError}
use Rattle.bsp_session.specs.declared.errors.SessionError.TheVariants.{TooLong, Text, BadImage, ReadFault, WriteFault, NoMemory}
use Rattle.bsp_session.specs.declared.job.Format.{Format}
use Rattle.bsp_session.specs.Images.{most_bytes, Gives, image_fault}
use Rattle.bsp_session.specs.Streams.{Stream, IsUntouched, ReadsWhole, HasFailed, IsReadErrorOf}

-- what such a session reads, what it writes to, and the format of the file
pub record Conversion : Type 0 where
  pub file : Stream
  pub out : Stream
  pub format : Format

abbrev pub conversion_of : (file out : Stream) → Format → Conversion
conversion_of file out format = record { file = file; out = out; format = format }

-- the file was read, and gives an image
pub record ReadsImage (c : Conversion) (m : Image) : Type 0 where
  pub i : List ℕ
  pub read : ReadsWhole c.file i (most_bytes c.format)
  pub gives : Gives c.format i m

-- all of what is to be written of the image was
pub record WritesWhole (written_of : Image → List ℕ) (c : Conversion) : Type 0 where
  pub m : Image
  pub given : ReadsImage c m
  pub written : Appends c.out.before c.out.after (written_of m)

-- an answer of a listing, with the names of instructions of floating point or without them, and one of an assembly
abbrev pub AnswersListing : (extensions : Extensions) → Conversion → Type 0
AnswersListing extensions c = WritesWhole (listing_of extensions) c

abbrev pub AnswersAssembly : Conversion → Type 0
AnswersAssembly c = WritesWhole spelling_of c

-- the writer failed after some first bytes of it were written, and not all
pub record WritesPart (written_of : Image → List ℕ) (c : Conversion) : Type 0 where
  pub m : Image
  pub given : ReadsImage c m
  pub written : AppendsPrefix c.out.before c.out.after (written_of m)
  pub failed : HasFailed c.out

-- some first lines are appended to known bytes, and not all of them
pub record AppendsFirstLines (extensions : Extensions) (old new : Option (List ℕ)) (lines : List Line) : Type 0 where
  pub first : List Line
  pub rest : List Line
  pub split : lines ≡ first ++ rest
  pub some_left : 0 < length rest
  pub written : Appends old new (flat_map (ended_line extensions) first)

-- the lines of a segment's listing, and those of an image's, segment by segment
abbrev pub lines_of_segment : Segment → List Line
lines_of_segment s = listing_lines s.addr s.bytes

abbrev pub lines_of_image : Image → List Line
lines_of_image m = flat_map lines_of_segment m.segments

-- what is known of a writer where lines were not all written: it failed after some first bytes of them, or memory was refused after
-- some first lines, each whole
abbrev pub IsErrorOfLines : (extensions : Extensions) → Stream → List Line → SessionError → Type 0
IsErrorOfLines extensions out lines WriteFault = AppendsPrefix out.before out.after (flat_map (ended_line extensions) lines) × HasFailed out
IsErrorOfLines extensions out lines NoMemory = AppendsFirstLines extensions out.before out.after lines
IsErrorOfLines extensions out lines _ = ⊥

-- some first lines of the image's listing were written, each whole, and not all of them
pub record ListsFirstLines (extensions : Extensions) (c : Conversion) : Type 0 where
  pub m : Image
  pub given : ReadsImage c m
  pub written : AppendsFirstLines extensions c.out.before c.out.after (lines_of_image m)

-- the file was not read whole, for this, and nothing was written
pub record EndsUnread (c : Conversion) (why : ReadError) : Type 0 where
  pub ended : IsReadErrorOf (most_bytes c.format) c.file why
  pub unwritten : IsUntouched c.out

-- the file was read, and is refused for this; nothing was written
pub record IsRefused (c : Conversion) (e : SessionError) : Type 0 where
  pub i : List ℕ
  pub read : ReadsWhole c.file i (most_bytes c.format)
  pub refused : image_fault c.format i ≡ Some e
  pub unwritten : IsUntouched c.out

-- the file was read, and nothing was written
pub record EndsUnwritten (c : Conversion) : Type 0 where
  pub i : List ℕ
  pub read : ReadsWhole c.file i (most_bytes c.format)
  pub unwritten : IsUntouched c.out

-- what is known where memory was refused before anything was written
abbrev pub LacksMemory : Conversion → Type 0
LacksMemory c = EndsUnread c read.NoMemory ⊎ EndsUnwritten c

-- what is known where a listing ended by an error. There are no settings, no memory that an image could reach past, and no workers
abbrev pub IsErrorOfListing : (extensions : Extensions) → Conversion → SessionError → Type 0
IsErrorOfListing extensions c TooLong = EndsUnread c read.TooLong
IsErrorOfListing extensions c (Text cause) = IsRefused c (Text cause)
IsErrorOfListing extensions c (BadImage cause) = IsRefused c (BadImage cause)
IsErrorOfListing extensions c ReadFault = EndsUnread c read.ReadFault
IsErrorOfListing extensions c WriteFault = WritesPart (listing_of extensions) c
IsErrorOfListing extensions c NoMemory = LacksMemory c ⊎ ListsFirstLines extensions c
IsErrorOfListing extensions c _ = ⊥

-- what is known where an assembly ended by an error. What it reads is a text, so it is refused as no other file
abbrev pub IsErrorOfAssembly : Conversion → SessionError → Type 0
IsErrorOfAssembly c TooLong = EndsUnread c read.TooLong
IsErrorOfAssembly c (Text cause) = IsRefused c (Text cause)
IsErrorOfAssembly c ReadFault = EndsUnread c read.ReadFault
IsErrorOfAssembly c WriteFault = WritesPart spelling_of c
IsErrorOfAssembly c NoMemory = LacksMemory c
IsErrorOfAssembly c _ = ⊥
