-- The words of a line (own format): spaces alone part words, and at the ends of a line they count for nothing.
use Rattle.std.specs.Prelude.{ℕ, ◌==◌, Bool, not, List, length}
use Rattle.std.specs.List.{filter, slice_split}

-- a space
abbrev pub is_space : ℕ → Bool
is_space b = b == 32

-- some bytes at least
abbrev pub has_bytes : List ℕ → Bool
has_bytes part = not (length part == 0)

-- what stands between the spaces of a line
abbrev pub words : List ℕ → List (List ℕ)
words line = filter has_bytes (slice_split is_space line)
