-- The lines of a text (own language).
use Rattle.std.specs.Prelude.{ℕ, ◌&&◌, ◌-◌, if◌then◌else◌, List, ◌∷◌, length, take, nat_lt, slice_index}
use Rattle.std.specs.List.{slice_split}
use Rattle.asm_syntax.specs.Bytes.{is_line_feed, is_carriage_return}

-- a line that a line feed ended, without the carriage return that may stand before the line feed
abbrev pub without_return : List ℕ → List ℕ
without_return line =
    if nat_lt 0 (length line) && is_carriage_return (slice_index line (length line - 1)) then take (length line - 1) line else line

-- of each line but the last, which no line feed ended, the carriage return at its end
abbrev pub without_returns : List (List ℕ) → List (List ℕ)
without_returns (line ∷ next ∷ rest) = without_return line ∷ without_returns (next ∷ rest)
without_returns lines = lines

-- the lines of a text: what stands between its line feeds, with one carriage return right before a line feed dropped.
-- There is one more than there are line feeds, so the last may be empty
unfoldable pub lines_of : List ℕ → List (List ℕ)
lines_of text = without_returns (slice_split is_line_feed text)
