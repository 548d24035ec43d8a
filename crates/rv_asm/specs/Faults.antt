-- The fault of a text (own rules throughout). Lines are judged twice: by what can be known of them without the addresses
-- of labels, and, where no line has a fault then, by their uses of labels.
use Rattle.std.specs.Prelude.{◌≡◌, ◌≢◌, ℕ, ◌^◌, Bool, false, ◌||◌, nat_lt, if◌then◌else◌, List, [], ◌∷◌, Option, Some, None, option_map}
use Rattle.std.specs.Prelude.{option_and_then, Result, Ok, Err}
use Rattle.std.specs.Str.{bytes_eq}
use Rattle.std.specs.Option.{option_map_or, option_or}
use Rattle.rv_atomics.specs.declared.extensions.Extensions.{Extensions}
use Rattle.asm_syntax.specs.Statements.{Statement, Line}
use Rattle.asm_syntax.specs.declared.error.LineError.{LineError}
use Rattle.asm_syntax.specs.declared.error.LineError.TheVariants as private
use Rattle.rv_asm.specs.declared.errors.AsmError.{AsmError}
use Rattle.rv_asm.specs.declared.errors.AsmKind.{AsmKind}
use Rattle.rv_asm.specs.declared.errors.AsmKind.TheVariants.{BadToken, UnknownMnemonic, BadOperand, OutOfRange, DuplicateLabel}
use Rattle.rv_asm.specs.declared.errors.AsmKind.TheVariants.{UndefinedLabel, TooLarge, NoMemory}
use Rattle.rv_asm.specs.Symbols.{Symbols, no_symbols}
use Rattle.rv_asm.specs.Targets.{is_out_of_reach, uses_undefined}
use Rattle.rv_asm.specs.Places.{Place, line_statement, end_from, places_of, symbols_of}

-- the fault that a line has by itself, as one of a text; a line never has `NoMemory`
abbrev pub kind_of : LineError → AsmKind
kind_of private.BadToken = BadToken
kind_of private.UnknownMnemonic = UnknownMnemonic
kind_of private.BadOperand = BadOperand
kind_of private.OutOfRange = OutOfRange
kind_of private.NoMemory = NoMemory

-- what is wrong with the line of this number is of this kind; want of memory is no line's
pub record IsErrorAt (number : ℕ) (what : AsmKind) (e : AsmError) : Type 0 where
  pub kind : e.kind ≡ what
  pub line : what ≢ NoMemory → e.line ≡ number
  pub no_memory : what ≡ NoMemory → e.line ≡ 0

-- a label of a line is a label of an earlier line, or stands twice in the line
abbrev pub has_duplicate : (List ℕ → Bool) → List (List ℕ) → Bool
has_duplicate is_earlier [] = false
has_duplicate is_earlier (label ∷ rest) = is_earlier label || has_duplicate (λ name. bytes_eq label name || is_earlier name) rest

-- the least fault of a line at an address in the first judging: its own; the offset of a jump to a number; a label that
-- stands already; an end past 2 ^ 24
abbrev pub fault_of_line : ℕ → (List ℕ → Bool) → Result Line LineError → Option AsmKind
fault_of_line address is_earlier (Err fault) = Some (kind_of fault)
fault_of_line address is_earlier (Ok line) =
    if option_map_or (is_out_of_reach no_symbols address) line.statement false then Some OutOfRange
    else (if has_duplicate is_earlier line.labels then Some DuplicateLabel
    else (if nat_lt (2 ^ 24) (end_from address (Ok line)) then Some TooLarge
    else None))

abbrev pub fault_alone : Place → Option AsmKind
fault_alone place = fault_of_line place.address place.is_earlier place.line

-- the least fault in a statement's use of labels: the offset of a jump; a label that no line has
abbrev pub fault_of_use : Symbols → ℕ → Statement → Option AsmKind
fault_of_use symbols address statement =
    if is_out_of_reach symbols address statement then Some OutOfRange
    else (if uses_undefined symbols statement then Some UndefinedLabel else None)

-- the fault of a line in the second judging
abbrev pub fault_of_uses : Symbols → Place → Option AsmKind
fault_of_uses symbols place = option_and_then (fault_of_use symbols place.address) (line_statement place.line)

-- the number and the fault of the first line that has one
abbrev pub first_faulty_line : (Place → Option AsmKind) → List Place → Option (ℕ × AsmKind)
first_faulty_line fault_of [] = None
first_faulty_line fault_of (place ∷ rest) =
    option_or (option_map (λ kind. (place.number, kind)) (fault_of place)) (first_faulty_line fault_of rest)

-- the first faulty line of the first judging and its fault; where there is none, those of the second
unfoldable pub text_fault : (extensions : Extensions) → List ℕ → Option (ℕ × AsmKind)
text_fault extensions text =
    let places = places_of extensions text in
    option_or (first_faulty_line fault_alone places) (first_faulty_line (fault_of_uses (symbols_of places)) places)
