-- What the labels of a text stand for.
use Rattle.std.specs.Prelude.{ℕ, List, fold, Option, Some, None, if◌then◌else◌}
use Rattle.std.specs.Str.{bytes_eq}

-- the address of each label, by its name
abbrev pub Symbols : Type 0
Symbols = List ℕ → Option ℕ

-- no label has an address
abbrev pub no_symbols : Symbols
no_symbols name = None

-- with a label added
abbrev pub with_symbol : Symbols → List ℕ → ℕ → Symbols
with_symbol symbols label address name = if bytes_eq label name then Some address else symbols name

-- with the labels of a line added
abbrev pub with_labels : Symbols → List (List ℕ) → ℕ → Symbols
with_labels symbols labels address = fold (λ known label. with_symbol known label address) symbols labels
