-- The image of a text (own rules throughout).
use Rattle.std.specs.Prelude.{◌≡◌, ℕ, Bool, ◌+◌, ◌++◌, List, [], ◌∷◌, length, map}
use Rattle.std.specs.Prelude.{fold, All, Any, Contains, Option, Some, None, IsSome, Ok, unwrap_or}
use Rattle.rv_atomics.specs.declared.extensions.Extensions.{Extensions}
use Rattle.node_memory.specs.Image.{Image, segments_from_0}
use Rattle.asm_syntax.specs.Lines.{lines_of}
use Rattle.asm_syntax.specs.Parse.{line_of}
use Rattle.asm_syntax.specs.Statements.{Statement, Line, entry}
use Rattle.rv_asm.specs.Symbols.{Symbols}
use Rattle.rv_asm.specs.Targets.{value_of}
use Rattle.rv_asm.specs.Layout.{HasBytes}

-- the bytes of what may be a statement
abbrev pub LineHasBytes : Symbols → ℕ → Option Statement → List ℕ → Type 0
LineHasBytes symbols address None private = private ≡ []
LineHasBytes symbols address (Some statement) private = HasBytes symbols address statement private

-- lines from an address on: the labels of the first stand for that address, its statement has the first bytes, and the
-- next line starts where these end
abbrev pub AreLaid : Symbols → ℕ → List Line → List ℕ → Type 0
AreLaid symbols address [] bytes = bytes ≡ []
AreLaid symbols address (line ∷ rest) bytes =
    (private : List ℕ) × (more : List ℕ) × (bytes ≡ private ++ more) × All (λ label. symbols label ≡ Some address) line.labels
    × LineHasBytes symbols address line.statement private × AreLaid symbols (address + length private) rest more

-- the address that a line asks to start at
abbrev pub entry_of : Symbols → Option Statement → Option ℕ
entry_of symbols (Some (entry target)) = value_of symbols target
entry_of symbols _ = None

-- the last `.entry` counts; before any the entry is `start`
abbrev pub last_entry : Symbols → ℕ → List Line → ℕ
last_entry symbols start lines = fold (λ at line. unwrap_or (entry_of symbols line.statement) at) start lines

-- the lines of a text, in the language with the statements of some extensions, laid from 0 on with these addresses of labels, have these
-- bytes and this entry
pub record IsLaidOut (extensions : Extensions) (symbols : Symbols) (texts : List (List ℕ)) (bytes : List ℕ) (entry : ℕ) : Type 0 where
  pub lines : List Line
  pub are_lines : map (line_of extensions) texts ≡ map Ok lines
  pub laid : AreLaid symbols 0 lines bytes
  pub entry_is : last_entry symbols 0 lines ≡ entry

-- an image of a text: some addresses of its labels, and of nothing else, exist with which its lines are laid out as the
-- image's bytes
pub record IsImageOfText (extensions : Extensions) (text : List ℕ) (image : Image) : Type 0 where
  pub symbols : Symbols
  pub bytes : List ℕ
  pub out : IsLaidOut extensions symbols (lines_of text) bytes image.entry
  pub only_labels : (name : List ℕ) → IsSome (symbols name) → Any (λ line. Contains line.labels name) out.lines
  pub segments_are : image.segments ≡ segments_from_0 bytes
