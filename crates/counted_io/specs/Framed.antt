-- Replies behind a header (own format), which says whether what was asked for was refused, and how many lines there are.
use Rattle.std.specs.Prelude.{ℕ, ◌==◌, Bool, if◌then◌else◌, List, ◌++◌, length, codes}
use Rattle.std.specs.Fmt.{decimal}
use Rattle.std.specs.List.{filter}

-- how many lines a text has, each of which a line feed ends
abbrev pub line_count : List ℕ → ℕ
line_count text = length (filter (λ b. b == 10) text)

-- the header of a reply of so many lines: whether the line was refused, and how many they are
abbrev pub header_text : (refused : Bool) → (lines : ℕ) → List ℕ
header_text refused lines = (if refused then codes "refused " else codes "done ") ++ decimal lines ++ codes "\n"

-- a reply behind its header
abbrev pub framed_text : (refused : Bool) → (reply : List ℕ) → List ℕ
framed_text refused reply = header_text refused (line_count reply) ++ reply
