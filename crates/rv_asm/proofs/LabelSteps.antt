-- One label more.
use Rattle.std.proofs.Common.{◌≡◌, ℕ, ◌+◌, ◌<◌, length, drop, get_or, Bor, add-one, drop-cons, Bool, true, false, ◌||◌, List, ◌∷◌, map}
use Rattle.std.proofs.Common.{is_some, Some, None, refl, sym, ◌∙◌, ap, if◌then◌else◌}
use Rattle.std.specs.Str.{bytes_eq}
use Rattle.rv_asm.specs.Faults.{has_duplicate}
use Rattle.rv_asm.specs.Symbols.{Symbols, with_symbol, with_labels}

pub is_some-with_symbol : (symbols : Symbols) (label : List ℕ) (address : ℕ) (name : List ℕ)
    → is_some (with_symbol symbols label address name) ≡ (bytes_eq label name || is_some (symbols name))
is_some-with_symbol symbols label address name = by (bytes_eq label name)
  where
    by : (b : Bool) → is_some (if b then Some address else symbols name) ≡ (b || is_some (symbols name))
    by true = refl
    by false = refl

-- after a label that was not known, the rest is judged with it
pub duplicate-step : (symbols grown : Symbols) (label : List ℕ) (rest : List (List ℕ)) (address : ℕ)
    → ((name : List ℕ) → grown name ≡ with_symbol symbols label address name)
    → symbols label ≡ None
    → has_duplicate (λ name. is_some (symbols name)) (label ∷ rest) ≡ has_duplicate (λ name. is_some (grown name)) rest
duplicate-step symbols grown label rest address h absent =
    ap (λ o. is_some o || has_duplicate (λ name. bytes_eq label name || is_some (symbols name)) rest) absent
    ∙ (λ i. has_duplicate (λ name. (sym (ap is_some (h name) ∙ is_some-with_symbol symbols label address name)) i) rest)

pub with_labels-step : (symbols grown : Symbols) (label : List ℕ) (rest : List (List ℕ)) (address : ℕ)
    → ((name : List ℕ) → grown name ≡ with_symbol symbols label address name)
    → (name : List ℕ) → with_labels symbols (label ∷ rest) address name ≡ with_labels grown rest address name
with_labels-step symbols grown label rest address h name = λ i. with_labels (λ p. (sym (h p)) i) rest address name

-- the names of a list from an index on
names_from : (names : List (Bor (List ℕ))) (i : ℕ) (other : Bor (List ℕ)) → i < length names
    → map (λ n. n.now) (drop i names) ≡ (get_or names i other).now ∷ map (λ n. n.now) (drop (i + 1) names)
names_from names i other lt = rw add-one (ap (map (λ n. n.now)) (drop-cons names i other lt))

pub known_from : (symbols grown : Symbols) (names : List (Bor (List ℕ))) (i : ℕ) (other : Bor (List ℕ)) (address : ℕ) → i < length names
    → ((name : List ℕ) → grown name ≡ with_symbol symbols (get_or names i other).now address name)
    → (name : List ℕ) → with_labels symbols (map (λ n. n.now) (drop i names)) address name
    ≡ with_labels grown (map (λ n. n.now) (drop (i + 1) names)) address name
known_from symbols grown names i other address lt h name =
    ap (λ l. with_labels symbols l address name) (names_from names i other lt)
    ∙ with_labels-step symbols grown (get_or names i other).now (map (λ n. n.now) (drop (i + 1) names)) address h name

pub judged_from : (symbols grown : Symbols) (names : List (Bor (List ℕ))) (i : ℕ) (other : Bor (List ℕ)) (address : ℕ) → i < length names
    → ((name : List ℕ) → grown name ≡ with_symbol symbols (get_or names i other).now address name)
    → symbols (get_or names i other).now ≡ None
    → has_duplicate (λ name. is_some (symbols name)) (map (λ n. n.now) (drop i names))
    ≡ has_duplicate (λ name. is_some (grown name)) (map (λ n. n.now) (drop (i + 1) names))
judged_from symbols grown names i other address lt h absent =
    ap (has_duplicate (λ name. is_some (symbols name))) (names_from names i other lt)
    ∙ duplicate-step symbols grown (get_or names i other).now (map (λ n. n.now) (drop (i + 1) names)) address h absent
