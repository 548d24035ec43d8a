-- What a line says, or its fault (own language). A line with several faults has the least in the order of `LineError`:
-- its tokens are judged first, then its mnemonic, then the kinds of its operands, then their ranges.
use Rattle.std.specs.Prelude.{ℕ, List, [], ◌∷◌, Option, Some, None, Result, Ok, Err}
use Rattle.rv_atomics.specs.declared.extensions.Extensions.{Extensions}
use Rattle.asm_syntax.specs.Tokens.{Token, name, colon, tokens_of}
use Rattle.asm_syntax.specs.Operands.{operands_in}
use Rattle.asm_syntax.specs.Statements.{Statement, Line}
use Rattle.asm_syntax.specs.declared.form.Form.{Form}
use Rattle.asm_syntax.specs.Faults.{if_ok}
use Rattle.asm_syntax.specs.Forms.{form_named, reading}
use Rattle.asm_syntax.specs.declared.error.LineError.{LineError}
use Rattle.asm_syntax.specs.declared.error.LineError.TheVariants.{BadToken, UnknownMnemonic}

-- the labels that tokens begin with, each a name and `:`
abbrev pub labels_in : List Token → List (List ℕ)
labels_in (name label ∷ colon ∷ rest) = label ∷ labels_in rest
labels_in _ = []

-- the tokens behind them
abbrev pub behind_labels : List Token → List Token
behind_labels (name label ∷ colon ∷ rest) = behind_labels rest
behind_labels ts = ts

-- what operands say behind a mnemonic, where that has a form
abbrev pub statement_of_form : Option Form → List (List Token) → Result Statement LineError
statement_of_form None operands = Err UnknownMnemonic
statement_of_form (Some form) operands = reading form operands

-- the statement that tokens without labels spell, if there is one
abbrev pub statement_in : (extensions : Extensions) → List Token → Result (Option Statement) LineError
statement_in extensions [] = Ok None
statement_in extensions (name mnemonic ∷ ts) = if_ok Some (statement_of_form (form_named extensions mnemonic) (operands_in ts))
statement_in extensions _ = Err UnknownMnemonic

-- what tokens say, where the bytes of the line are some
abbrev pub line_with : (extensions : Extensions) → Option (List Token) → Result Line LineError
line_with extensions None = Err BadToken
line_with extensions (Some ts) =
    if_ok (λ s. record { labels = labels_in ts; statement = s }) (statement_in extensions (behind_labels ts))

-- what a line says, in the language with the statements of some extensions; or its fault, which is never `NoMemory`
unfoldable pub line_of : (extensions : Extensions) → List ℕ → Result Line LineError
line_of extensions line = line_with extensions (tokens_of line)
