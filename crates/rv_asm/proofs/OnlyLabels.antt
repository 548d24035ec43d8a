-- What has an address is a label of some line.
use Rattle.std.proofs.Common.{◌≡◌, ℕ, suc, ◌+◌, Bool, true, false, ◌||◌, List, [], ◌∷◌, map, Any, Contains, is_some, IsSome, Ok, refl, sym}
use Rattle.std.proofs.Common.{◌∙◌, ap, subst, ◌⊎◌, inl, inr, ⊎_elim, arith}
use Rattle.std.specs.List.{list_any}
use Rattle.std.specs.Str.{bytes_eq}
use Rattle.std.specs.Cmp.Lexicographic.{bytes_decides}
use Rattle.rv_atomics.specs.declared.extensions.Extensions.{Extensions}
use Rattle.asm_syntax.specs.Lines.{lines_of}
use Rattle.asm_syntax.specs.Parse.{line_of}
use Rattle.asm_syntax.specs.Statements.{Line}
use Rattle.rv_asm.specs.Places.{placed, places_of, line_labels, end_from, symbols_of}
use Rattle.rv_asm.specs.Symbols.{Symbols, no_symbols, with_labels}
use Rattle.rv_asm.proofs.Passes.{symbols_from, is_some-with_labels}

or_cases : (a b : Bool) → (a || b) ≡ true → (a ≡ true) ⊎ (b ≡ true)
or_cases true b h = inl refl
or_cases false b h = inr h

Contains-cons : {X : Type 0} (y : X) (xs : List X) (x : X) → Contains xs x → Contains (y ∷ xs) x
Contains-cons y xs x (k, lt, e) = (suc k, omega (arith, lt), e)

Any-cons : {X : Type 0} (P : X → Type 0) (y : X) (xs : List X) → Any P xs → Any P (y ∷ xs)
Any-cons P y xs (k, x, lt, e, p) = (suc k, x, omega (arith, lt), e, p)

pub Contains-from_list_any : (labels : List (List ℕ)) (name : List ℕ) → list_any (λ label. bytes_eq label name) labels ≡ true
    → Contains labels name
Contains-from_list_any [] name h = cc
Contains-from_list_any (label ∷ rest) name h =
    ⊎_elim (λ same. (0, omega arith, (bytes_decides label name).0 same))
    (λ later. Contains-cons label rest name (Contains-from_list_any rest name later))
    (or_cases (bytes_eq label name) (list_any (λ l. bytes_eq l name) rest) h)

from_lines : (extensions : Extensions) (symbols : Symbols) (number address : ℕ) (known : List ℕ → Bool)
    (texts : List (List ℕ)) (lines : List Line)
    (name : List ℕ)
    → map (line_of extensions) texts ≡ map Ok lines
    → is_some (symbols_from symbols (placed extensions number address known texts) name) ≡ true
    → (is_some (symbols name) ≡ true) ⊎ Any (λ line. Contains line.labels name) lines
from_lines extensions symbols number address known [] lines name are h = inl h
from_lines extensions symbols number address known (text ∷ rest) [] name are h = cc
from_lines extensions symbols number address known (text ∷ rest) (line ∷ lines) name are h =
    let says : line_of extensions text ≡ Ok line = cc in
    let further : map (line_of extensions) rest ≡ map Ok lines = cc in
    let labels : line_labels (line_of extensions text) ≡ line.labels = ap line_labels says in
    ⊎_elim
    (λ before. ⊎_elim
    (λ here.
    inr (
      0,
      line,
      omega arith,
      refl,
      subst (λ l. Contains l name) labels (Contains-from_list_any (line_labels (line_of extensions text)) name here),
    ))
    (λ already. inl already)
    (or_cases (list_any (λ label. bytes_eq label name) (line_labels (line_of extensions text))) (is_some (symbols name))
    (sym (is_some-with_labels symbols (line_labels (line_of extensions text)) address name) ∙ before)))
    (λ later. inr (Any-cons (λ l. Contains l.labels name) line lines later))
    (from_lines extensions (with_labels symbols (line_labels (line_of extensions text)) address) (number + 1)
    (end_from address (line_of extensions text))
    (λ other. list_any (λ label. bytes_eq label other) (line_labels (line_of extensions text)) || known other) rest lines name further h)

pub only_labels_of : (extensions : Extensions) (symbols : Symbols) (text : List ℕ) (lines : List Line)
    → ((name : List ℕ) → symbols name ≡ symbols_of (places_of extensions text) name) → map (line_of extensions) (lines_of text)
    ≡ map Ok lines
    → (name : List ℕ) → IsSome (symbols name) → Any (λ line. Contains line.labels name) lines
only_labels_of extensions symbols text lines known are name some =
    ⊎_elim (λ none. cc) (λ any. any)
    (from_lines extensions no_symbols 1 0 (λ _. false) (lines_of text) lines name are (ap is_some (sym (known name)) ∙ some))
