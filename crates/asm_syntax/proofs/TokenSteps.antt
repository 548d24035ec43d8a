-- Tokens, one at a time.
use Rattle.std.proofs.Common.{◌≡◌, ℕ, zero, suc, ◌+◌, ◌++◌, Bool, true, append_assoc, append-nil, map, Some, None, ◌<◌, ◌-◌, List, [], ◌∷◌}
use Rattle.std.proofs.Common.{length, get_or, take, drop, length-drop, Option, refl, sym, ap, ◌∙◌, arith}
use Rattle.std.proofs.lemmas.List.{take_all, drop-drop, map-append}
use Rattle.std.specs.List.{prefix_len, take_while}
use Rattle.std.specs.Option.{option_map}
use Rattle.asm_syntax.specs.Tokens.{Token, Head, head_of, bytes_behind, tokens_with, tokens_behind}

-- bytes to skip are bytes to drop
pub tokens_behind-drop : (k : ℕ) (line : List ℕ) → tokens_behind k line ≡ tokens_behind 0 (drop k line)
tokens_behind-drop zero line = refl
tokens_behind-drop (suc k) [] = refl
tokens_behind-drop (suc k) (b ∷ rest) = tokens_behind-drop k rest

-- a line begins with a head, and goes on behind it
first_step : (line : List ℕ) (h : Head) → 0 < length line → h ≡ head_of (get_or line 0 0) (drop 1 line)
    → tokens_behind 0 line ≡ tokens_with h (tokens_behind 0 (drop (bytes_behind h) (drop 1 line)))
first_step [] h within is = absurd (omega arith)
first_step (b ∷ rest) h within is =
    ap (λ x. tokens_with x (tokens_behind (bytes_behind x) rest)) (sym is) ∙ ap (tokens_with h) (tokens_behind-drop (bytes_behind h) rest)

-- the same from an index on
pub tokens_behind-step : (line : List ℕ) (at : ℕ) (h : Head) → at < length line
    → h ≡ head_of (get_or (take (length line - at) (drop at line)) 0 0) (drop 1 (take (length line - at) (drop at line))) → (next : ℕ)
    → next ≡ at + 1 + bytes_behind h → tokens_behind 0 (drop at line) ≡ tokens_with h (tokens_behind 0 (drop next line))
tokens_behind-step line at h within is next goes_on =
    let all : take (length line - at) (drop at line) ≡ drop at line = take_all _ _ (omega (arith, length-drop at line)) in
    first_step (drop at line) h (omega (arith, length-drop at line)) (rw all at is)
    ∙ ap (λ s. tokens_with h (tokens_behind 0 s))
    (ap (drop (bytes_behind h)) (drop-drop 1 at line) ∙ drop-drop (bytes_behind h) _ line ∙ ap (λ k. drop k line) (omega arith))

-- the tokens so far, and what is left of the line: a token more, the end, or no token
pub further : {X : Type 0} (value : X → Token) (done items : List X) (t : X) (rest here whole : Option (List Token))
    → items ≡ done ++ (t ∷ []) → here ≡ option_map (λ ts. value t ∷ ts) rest → option_map (λ ts. map value done ++ ts) here ≡ whole
    → option_map (λ ts. map value items ++ ts) rest ≡ whole
further value done items t None here whole grown step is = rw step at is
further value done items t (Some ts) here whole grown step is =
    let all : Some (map value done ++ (value t ∷ ts)) ≡ whole = rw step at is in
    rw (grown, map-append value done (t ∷ [])) (ap Some (append_assoc (map value done) (value t ∷ []) ts) ∙ all)

pub ended : (done : List Token) (here whole : Option (List Token)) → here ≡ Some [] → option_map (λ ts. done ++ ts) here ≡ whole
    → whole ≡ Some done
ended done here whole end is = sym (rw end at is) ∙ ap Some (append-nil done)

pub refused : (done : List Token) (here whole : Option (List Token)) → here ≡ None → option_map (λ ts. done ++ ts) here ≡ whole
    → whole ≡ None
refused done here whole none is = sym (rw none at is)

-- the word that a line begins with
pub word_parts : (p : ℕ → Bool) (line : List ℕ) (n : ℕ) → 0 < length line → p (get_or line 0 0) ≡ true → n ≡ prefix_len p line
    → (get_or (take n line) 0 0 ≡ get_or line 0 0) × (drop 1 (take n line) ≡ take_while p (drop 1 line))
    × (n ≡ prefix_len p (drop 1 line) + 1)
word_parts p [] n some passes is = absurd (omega arith)
word_parts p (b ∷ rest) n some passes is =
    let len : n ≡ suc (prefix_len p rest) = omega (arith, rw passes at is) in
    rw len (refl, refl, omega arith)
