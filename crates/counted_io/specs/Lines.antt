-- The lines of a text that is read as they are wanted.
use Rattle.std.specs.Prelude.{ℕ, ◌≡◌, ◌≢◌, ◌+◌, ◌<◌, ◌≤◌, ◌⊎◌, Bool, true, List, [], ◌∷◌, ◌++◌, length, drop, slice_index, All, Option}
use Rattle.std.specs.Io.KnownBytes.{Consumes, IsAtEnd}

-- what a contract sees of a `LineReader`
pub record LineReaderState : Type 0 where
  -- the bytes that were read
  pub read : List ℕ
  -- how many of them were given out, with their line feeds
  pub given : ℕ
  -- the line that the last call gave, without its line feed; empty where it gave none
  pub line : List ℕ
  -- the most bytes that the text may have
  pub most : ℕ
  -- whether the reader came to its end: nothing more is read then
  pub ended : Bool

-- no byte is a line feed
abbrev pub LacksFeed : List ℕ → Type 0
LacksFeed bytes = All (λ b. b ≢ 10) bytes

-- among some bytes is a line feed
abbrev pub HasFeed : List ℕ → Type 0
HasFeed bytes = (i : ℕ) × (i < length bytes) × (slice_index bytes i ≡ 10)

-- of what is not given yet, the first line is given, and the line feed that ends it
pub record GivesLine (old new : LineReaderState) : Type 0 where
  pub one_line : LacksFeed new.line
  pub first : (after : List ℕ) × (drop old.given new.read ≡ new.line ++ 10 ∷ after)
  pub given : new.given ≡ old.given + length new.line + 1

-- all that is not given yet is given, as a line that no line feed ends
pub record GivesLast (old new : LineReaderState) : Type 0 where
  pub one_line : LacksFeed new.line
  pub last : new.line ≡ drop old.given new.read
  pub some : 0 < length new.line
  pub given : new.given ≡ length new.read

-- all was given before
pub record GivesNone (old new : LineReaderState) : Type 0 where
  pub none : drop old.given new.read ≡ []
  pub line : new.line ≡ []
  pub given : new.given ≡ old.given

-- the text is at its end, and stays there: the reader came to its end in this call, or before
pub record IsOver (rest : Option (List ℕ)) (old new : LineReaderState) : Type 0 where
  pub ended : new.ended ≡ true
  pub at_end : (old.ended ≡ true) ⊎ IsAtEnd rest

-- what a reader lost was appended to what was read
abbrev pub ReadsOn : Option (List ℕ) → Option (List ℕ) → List ℕ → List ℕ → Type 0
ReadsOn old_rest new_rest old new = (bytes : List ℕ) × Consumes old_rest new_rest bytes × (new ≡ old ++ bytes)

-- a text grew to its limit, and the reader lost one byte more
pub record PassesLimit (old_rest new_rest : Option (List ℕ)) (old new : List ℕ) (most : ℕ) : Type 0 where
  pub bytes : (bytes : List ℕ) × (byte : ℕ) × Consumes old_rest new_rest (bytes ++ byte ∷ []) × (new ≡ old ++ bytes)
  pub full : length new ≡ most

-- ---- for private contracts, which speak of a part of a text by its indices

-- the first line feed of a text from `start` on is at `at`
pub record IsFirstFeed (text : List ℕ) (start at : ℕ) : Type 0 where
  pub from : start ≤ at
  pub within : at < length text
  pub feed : slice_index text at ≡ 10
  pub first : (k : ℕ) → start ≤ k → k < at → slice_index text k ≢ 10

-- a text has no line feed from `start` up to `end`
abbrev pub LacksFeedWithin : List ℕ → ℕ → ℕ → Type 0
LacksFeedWithin text start end = (k : ℕ) → start ≤ k → k < end → slice_index text k ≢ 10
