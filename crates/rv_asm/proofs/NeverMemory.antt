-- Want of memory is no fault of a text.
use Rattle.std.proofs.Common.{◌≡◌, ◌≢◌, ℕ, ◌+◌, Bool, true, false, ◌||◌, List, [], ◌∷◌, Option, Some, None, Result, Ok, Err, option_map}
use Rattle.std.proofs.Common.{option_and_then, refl, sym, ◌∙◌, ap, ◌⊎◌, inl, inr, ⊎_elim}
use Rattle.std.specs.List.{list_any}
use Rattle.std.specs.Option.{option_or, option_map_or}
use Rattle.std.specs.Str.{bytes_eq}
use Rattle.std.proofs.Common.{nat_lt, ◌^◌}
use Rattle.rv_atomics.specs.declared.extensions.Extensions.{Extensions}
use Rattle.asm_syntax.specs.Lines.{lines_of}
use Rattle.asm_syntax.specs.Parse.{line_of}
use Rattle.asm_syntax.specs.Statements.{Line, Statement}
use Rattle.asm_syntax.specs.declared.error.LineError.{LineError}
use Rattle.asm_syntax.specs.declared.error.LineError.TheVariants as private
use Rattle.rv_asm.specs.declared.errors.AsmKind.{AsmKind}
use Rattle.rv_asm.specs.declared.errors.AsmKind.TheVariants.{NoMemory}
use Rattle.rv_asm.specs.Faults.{text_fault, fault_of_line, fault_alone, fault_of_use, fault_of_uses, first_faulty_line, has_duplicate}
use Rattle.rv_asm.specs.Places.{placed, places_of, symbols_of, line_labels, line_statement, end_of_statement, end_from}
use Rattle.rv_asm.specs.Symbols.{Symbols, no_symbols}
use Rattle.rv_asm.specs.Targets.{is_out_of_reach, uses_undefined}
use Rattle.rv_asm.proofs.Judging.{by_tests}
use Rattle.rv_asm.proofs.Laying.{uses_from, uses-placed}
use Rattle.rv_asm.proofs.SomeImage.{by_uses}

tests_never : (reach duplicate large : Bool) → by_tests reach duplicate large ≢ Some NoMemory
tests_never true duplicate large h = cc
tests_never false true large h = cc
tests_never false false true h = cc
tests_never false false false h = cc

uses_never : (reach undefined : Bool) → by_uses reach undefined ≢ Some NoMemory
uses_never true undefined h = cc
uses_never false true h = cc
uses_never false false h = cc

line_never : (address : ℕ) (known : List ℕ → Bool) (line : Result Line LineError) → line ≢ Err private.NoMemory
    → fault_of_line address known line ≢ Some NoMemory
line_never address known (Err private.BadToken) not_memory h = cc
line_never address known (Err private.UnknownMnemonic) not_memory h = cc
line_never address known (Err private.BadOperand) not_memory h = cc
line_never address known (Err private.OutOfRange) not_memory h = cc
line_never address known (Err private.NoMemory) not_memory h = not_memory refl
line_never address known (Ok line) not_memory h =
    tests_never (option_map_or (is_out_of_reach no_symbols address) line.statement false) (has_duplicate known line.labels)
    (nat_lt (2 ^ 24) (end_of_statement address line.statement)) h

use_never : (symbols : Symbols) (address : ℕ) (statement : Option Statement)
    → option_and_then (fault_of_use symbols address) statement ≢ Some NoMemory
use_never symbols address None h = cc
use_never symbols address (Some statement) h = uses_never (is_out_of_reach symbols address statement) (uses_undefined symbols statement) h

same_kind : (p q : ℕ × AsmKind) → Some p ≡ Some q → p.1 ≡ q.1
same_kind p q h = let e : p ≡ q = cc in ap (λ (r : ℕ × AsmKind). r.1) e

first_or_later : (number line : ℕ) (fault : Option AsmKind) (others : Option (ℕ × AsmKind))
    → option_or (option_map (λ kind. (number, kind)) fault) others ≡ Some (line, NoMemory)
    → (fault ≡ Some NoMemory) ⊎ (others ≡ Some (line, NoMemory))
first_or_later number line None others h = inr h
first_or_later number line (Some kind) others h = inl (ap Some (same_kind (number, kind) (line, NoMemory) h))

module _ (extensions : Extensions) (never : (text : List ℕ) → line_of extensions text ≢ Err private.NoMemory) where
  alone_never : (number address : ℕ) (known : List ℕ → Bool) (texts : List (List ℕ)) (line : ℕ)
      → first_faulty_line fault_alone (placed extensions number address known texts) ≢ Some (line, NoMemory)
  alone_never number address known [] line h = cc
  alone_never number address known (text ∷ rest) line h =
      let known' : List ℕ → Bool =
      (λ name. list_any (λ label. bytes_eq label name) (line_labels (line_of extensions text)) || known name) in
      ⊎_elim (line_never address known (line_of extensions text) (never text))
      (alone_never (number + 1) (end_from address (line_of extensions text)) known' rest line)
      (first_or_later number line (fault_of_line address known (line_of extensions text))
      (first_faulty_line fault_alone (placed extensions (number + 1) (end_from address (line_of extensions text)) known' rest)) h)

  from_never : (symbols : Symbols) (number address : ℕ) (texts : List (List ℕ)) (line : ℕ)
      → uses_from extensions symbols number address texts ≢ Some (line, NoMemory)
  from_never symbols number address [] line h = cc
  from_never symbols number address (text ∷ rest) line h =
      ⊎_elim (use_never symbols address (line_statement (line_of extensions text)))
      (from_never symbols (number + 1) (end_from address (line_of extensions text)) rest line)
      (first_or_later number line (option_and_then (fault_of_use symbols address) (line_statement (line_of extensions text)))
      (uses_from extensions symbols (number + 1) (end_from address (line_of extensions text)) rest) h)

  pub never_memory : (text : List ℕ) (line : ℕ) → text_fault extensions text ≢ Some (line, NoMemory)
  unfolding text_fault
  never_memory text line h = by (first_faulty_line fault_alone (places_of extensions text)) refl h
    where
      second : Option (ℕ × AsmKind)
      second = first_faulty_line (fault_of_uses (symbols_of (places_of extensions text))) (places_of extensions text)

      by : (first : Option (ℕ × AsmKind)) → first_faulty_line fault_alone (places_of extensions text) ≡ first
          → option_or first second ≢ Some (line, NoMemory)
      by None e k =
          from_never (symbols_of (places_of extensions text)) 1 0 (lines_of text) line
          (sym (uses-placed extensions (symbols_of (places_of extensions text)) 1 0 (λ _. false) (lines_of text)) ∙ k)
      by (Some fault) e k = alone_never 1 0 (λ _. false) (lines_of text) line (e ∙ k)
