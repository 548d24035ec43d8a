-- What is left of a text, and one line more of it in the first judging.
use Rattle.std.proofs.Common.{◌≡◌, ℕ, ◌+◌, ◌<◌, ◌≤◌, IfSome, arith, Bool, true, false, ◌||◌, List, [], ◌∷◌, length, fold, Option, Some}
use Rattle.std.proofs.Common.{None, is_some, Bor, option_map, refl, sym, ◌∙◌, ap}
use Rattle.std.specs.List.{list_any}
use Rattle.std.specs.Option.{option_map_or, option_or}
use Rattle.std.specs.Str.{bytes_eq}
use Rattle.rv_atomics.specs.declared.extensions.Extensions.{Extensions}
use Rattle.asm_syntax.specs.Lines.{lines_of}
use Rattle.asm_syntax.specs.Parse.{line_of}
use Rattle.rv_asm.specs.Faults.{fault_of_line, fault_alone, first_faulty_line}
use Rattle.rv_asm.specs.Places.{Place, placed, line_labels, end_from}
use Rattle.rv_asm.specs.Symbols.{Symbols, with_symbol, with_labels}
use Rattle.rv_asm.proofs.LabelSteps.{is_some-with_symbol}

-- the lines in what is left of a text, and a number that falls with each
abbrev pub lines_in : Option (Bor (List ℕ)) → List (List ℕ)
lines_in rest = option_map_or (λ r. lines_of r.now) rest []

abbrev pub left_in : Option (Bor (List ℕ)) → ℕ
left_in rest = option_map_or (λ r. length r.now + 1) rest 0

-- the labels known and those of further lines
abbrev pub symbols_from : Symbols → List Place → Symbols
symbols_from known places = fold (λ s place. with_labels s (line_labels place.line) place.address) known places

or_mid : (a b c : Bool) → (b || (a || c)) ≡ ((a || b) || c)
or_mid true true c = refl
or_mid true false c = refl
or_mid false true c = refl
or_mid false false c = refl

pub is_some-with_labels : (symbols : Symbols) (labels : List (List ℕ)) (address : ℕ) (name : List ℕ)
    → is_some (with_labels symbols labels address name) ≡ (list_any (λ label. bytes_eq label name) labels || is_some (symbols name))
is_some-with_labels symbols [] address name = refl
is_some-with_labels symbols (label ∷ rest) address name =
    is_some-with_labels (with_symbol symbols label address) rest address name
    ∙ ap (λ b. list_any (λ l. bytes_eq l name) rest || b) (is_some-with_symbol symbols label address name)
    ∙ or_mid (bytes_eq label name) (list_any (λ l. bytes_eq l name) rest) (is_some (symbols name))

module _ (extensions : Extensions) (symbols grown : Symbols) (number address end : ℕ) (line : List ℕ) (texts : List (List ℕ))
    (ends : end ≡ end_from address (line_of extensions line))
    (labels : (name : List ℕ) → grown name ≡ with_labels symbols (line_labels (line_of extensions line)) address name) where
  known_next : (name : List ℕ) → (list_any (λ label. bytes_eq label name) (line_labels (line_of extensions line)) || is_some (symbols name))
      ≡ is_some (grown name)
  known_next name = sym (ap is_some (labels name) ∙ is_some-with_labels symbols (line_labels (line_of extensions line)) address name)

  pub judged_more : fault_of_line address (λ name. is_some (symbols name)) (line_of extensions line) ≡ None
      → first_faulty_line fault_alone (placed extensions number address (λ name. is_some (symbols name)) (line ∷ texts))
      ≡ first_faulty_line fault_alone (placed extensions (number + 1) end (λ name. is_some (grown name)) texts)
  judged_more none =
      ap (λ f. option_or (option_map (λ kind. (number, kind)) f)
      (first_faulty_line fault_alone
      (placed extensions (number + 1) (end_from address (line_of extensions line))
      (λ name. list_any (λ label. bytes_eq label name) (line_labels (line_of extensions line)) || is_some (symbols name)) texts))) none
      ∙ (λ i. first_faulty_line fault_alone (placed extensions (number + 1) (sym ends i) (λ name. known_next name i) texts))

  pub known_more : (name : List ℕ) → symbols_from symbols (placed extensions number address (λ p. is_some (symbols p)) (line ∷ texts)) name
      ≡ symbols_from grown (placed extensions (number + 1) end (λ p. is_some (grown p)) texts) name
  known_more name = λ i. symbols_from (λ p. sym (labels p) i) (placed extensions (number + 1) (sym ends i) (λ p. known_next p i) texts) name

pub left-below : (rest : Option (Bor (List ℕ))) (n : ℕ) → IfSome rest (λ r. length r.now < n) → left_in rest ≤ n
left-below None n h = omega arith
left-below (Some r) n h = omega (arith, h)
