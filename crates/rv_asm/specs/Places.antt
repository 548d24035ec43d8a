-- Where the lines of a text stand (own rules).
use Rattle.std.specs.Prelude.{ℕ, ◌+◌, List, [], ◌∷◌, fold, Bool, false, ◌||◌, Option, None, Result, Ok, Err}
use Rattle.std.specs.List.{list_any}
use Rattle.std.specs.Option.{option_map_or}
use Rattle.std.specs.Str.{bytes_eq}
use Rattle.rv_atomics.specs.declared.extensions.Extensions.{Extensions}
use Rattle.asm_syntax.specs.Lines.{lines_of}
use Rattle.asm_syntax.specs.Parse.{line_of}
use Rattle.asm_syntax.specs.Statements.{Statement, Line}
use Rattle.asm_syntax.specs.declared.error.LineError.{LineError}
use Rattle.rv_asm.specs.Symbols.{Symbols, no_symbols, with_labels}
use Rattle.rv_asm.specs.Layout.{size_of}

-- a line where it stands: its number, its address, whether a name is a label of a line before it, and what the line says
-- or its own fault
pub record Place : Type 0 where
  pub number : ℕ
  pub address : ℕ
  pub is_earlier : List ℕ → Bool
  pub line : Result Line LineError

-- the labels and the statement of a line that has no fault
abbrev pub line_labels : Result Line LineError → List (List ℕ)
line_labels (Ok line) = line.labels
line_labels (Err fault) = []

abbrev pub line_statement : Result Line LineError → Option Statement
line_statement (Ok line) = line.statement
line_statement (Err fault) = None

-- where a statement at an address ends; where there is none, at the address
abbrev pub end_of_statement : ℕ → Option Statement → ℕ
end_of_statement address statement = option_map_or (λ s. address + size_of s address) statement address

-- where a line at an address ends
abbrev pub end_from : ℕ → Result Line LineError → ℕ
end_from address line = end_of_statement address (line_statement line)

-- a name is one of some labels
abbrev pub is_among : List (List ℕ) → List ℕ → Bool
is_among labels name = list_any (λ label. bytes_eq label name) labels

-- lines from a number and an address on, each where the one before it ends, with the labels of those before. They are in the language
-- with the statements of some extensions
abbrev pub placed : (extensions : Extensions) → ℕ → ℕ → (List ℕ → Bool) → List (List ℕ) → List Place
placed extensions number address is_earlier [] = []
placed extensions number address is_earlier (text ∷ rest) =
    record { number = number; address = address; is_earlier = is_earlier; line = line_of extensions text }
    ∷ placed extensions (number + 1) (end_from address (line_of extensions text))
    (λ name. is_among (line_labels (line_of extensions text)) name || is_earlier name) rest

-- the lines of a text: they are counted from 1, and the first is at address 0
abbrev pub places_of : (extensions : Extensions) → List ℕ → List Place
places_of extensions text = placed extensions 1 0 (λ _. false) (lines_of text)

-- the labels of lines, each with its line's address
abbrev pub symbols_of : List Place → Symbols
symbols_of places = fold (λ known place. with_labels known (line_labels place.line) place.address) no_symbols places
