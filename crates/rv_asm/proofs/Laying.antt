-- The second pass over a text: what is judged, and what is laid.
use Rattle.std.proofs.Common.{◌≡◌, ℕ, ◌+◌, ◌^◌, ◌≤◌, Bool, ◌||◌, List, [], ◌∷◌, ◌++◌, length, map, All, Option, Some, None, IsOkAnd, Result}
use Rattle.std.proofs.Common.{Ok, Err, option_map, unwrap_or, refl, sym, ◌∙◌, ap, subst, append_assoc, append-nil, length-append, arith}
use Rattle.std.specs.List.{list_any}
use Rattle.std.specs.Option.{option_or, option_and_then}
use Rattle.std.specs.Str.{bytes_eq}
use Rattle.rv_atomics.specs.declared.extensions.Extensions.{Extensions}
use Rattle.asm_syntax.specs.Parse.{line_of}
use Rattle.asm_syntax.specs.Statements.{Line}
use Rattle.asm_syntax.specs.declared.error.LineError.{LineError}
use Rattle.rv_asm.specs.declared.errors.AsmKind.{AsmKind}
use Rattle.rv_asm.specs.Faults.{first_faulty_line, fault_of_use, fault_of_uses}
use Rattle.rv_asm.specs.Places.{placed, line_labels, line_statement, end_of_statement, end_from}
use Rattle.rv_asm.specs.Symbols.{Symbols}
use Rattle.rv_asm.specs.Text.{LineHasBytes, AreLaid, IsLaidOut, entry_of, last_entry}
use Rattle.rv_asm.specs.Writing.{Adds}
use Rattle.rv_asm.proofs.Sizes.{length-line}
use Rattle.rv_asm.proofs.Sound.{AreSound}

-- the first fault in the uses of labels, of lines from a number and an address on
abbrev pub uses_from : (extensions : Extensions) → Symbols → ℕ → ℕ → List (List ℕ) → Option (ℕ × AsmKind)
uses_from extensions symbols number address [] = None
uses_from extensions symbols number address (text ∷ rest) =
    option_or
    (option_map (λ kind. (number, kind)) (option_and_then (fault_of_use symbols address) (line_statement (line_of extensions text))))
    (uses_from extensions symbols (number + 1) (end_from address (line_of extensions text)) rest)

pub uses-placed : (extensions : Extensions) (symbols : Symbols) (number address : ℕ) (known : List ℕ → Bool) (texts : List (List ℕ))
    → first_faulty_line (fault_of_uses symbols) (placed extensions number address known texts)
    ≡ uses_from extensions symbols number address texts
uses-placed extensions symbols number address known [] = refl
uses-placed extensions symbols number address known (text ∷ rest) =
    ap (option_or
    (option_map (λ kind. (number, kind)) (option_and_then (fault_of_use symbols address) (line_statement (line_of extensions text)))))
    (uses-placed extensions symbols (number + 1) (end_from address (line_of extensions text))
    (λ q. list_any (λ label. bytes_eq label q) (line_labels (line_of extensions text)) || known q) rest)

pub uses_more : (extensions : Extensions) (symbols : Symbols) (number address : ℕ) (text : List ℕ) (rest : List (List ℕ))
    → option_and_then (fault_of_use symbols address) (line_statement (line_of extensions text)) ≡ None
    → uses_from extensions symbols number address (text ∷ rest)
    ≡ uses_from extensions symbols (number + 1) (end_from address (line_of extensions text)) rest
uses_more extensions symbols number address text rest e =
    ap (λ f. option_or (option_map (λ kind. (number, kind)) f)
    (uses_from extensions symbols (number + 1) (end_from address (line_of extensions text)) rest)) e

-- lines are laid out, whatever the rest of them is, where the rest has the further bytes
abbrev pub IsLaidUpTo : (extensions : Extensions) → Symbols → List (List ℕ) → List (List ℕ) → List ℕ → ℕ → Type 0
IsLaidUpTo extensions symbols texts rest bytes entry =
    (lines : List Line) (more : List ℕ) → map (line_of extensions) rest ≡ map Ok lines → AreLaid symbols (length bytes) lines more
    → IsLaidOut extensions symbols texts (bytes ++ more) (last_entry symbols entry lines)

pub laid_start : (extensions : Extensions) (symbols : Symbols) (texts : List (List ℕ)) → IsLaidUpTo extensions symbols texts texts [] 0
laid_start extensions symbols texts = λ lines more are laid. record { lines = lines; are_lines = are; laid = laid; entry_is = refl }

pub laid_more : (extensions : Extensions) (symbols : Symbols) (texts : List (List ℕ)) (text : List ℕ) (rest : List (List ℕ))
    (bytes private : List ℕ)
    (entry : ℕ) (line : Line) → line_of extensions text ≡ Ok line
    → All (λ label. symbols label ≡ Some (length bytes)) line.labels → LineHasBytes symbols (length bytes) line.statement private
    → IsLaidUpTo extensions symbols texts (text ∷ rest) bytes entry
    → IsLaidUpTo extensions symbols texts rest (bytes ++ private) (unwrap_or (entry_of symbols line.statement) entry)
laid_more extensions symbols texts text rest bytes private entry line says labels has before = λ lines more are laid.
    rw append_assoc
    (before (line ∷ lines) (private ++ more) (λ i. says i ∷ are i)
    (private, more, refl, labels, has, subst (λ n. AreLaid symbols n lines more) (length-append bytes private) laid))

pub laid_whole : (extensions : Extensions) (symbols : Symbols) (texts : List (List ℕ)) (bytes : List ℕ) (entry : ℕ)
    → IsLaidUpTo extensions symbols texts [] bytes entry → IsLaidOut extensions symbols texts bytes entry
laid_whole extensions symbols texts bytes entry h = rw append-nil at (h [] [] refl refl)

pub ok_parts : (line : Result Line LineError) (P : Line → Type 0) → IsOkAnd line P → (l : Line) × (line ≡ Ok l) × P l
ok_parts (Ok l) P h = (l, refl, h)
ok_parts (Err fault) P h = absurd h

-- what holds behind one line more
pub record Next (extensions : Extensions) (symbols : Symbols) (texts : List (List ℕ)) (number address address' : ℕ) (text : List ℕ)
    (rest : List (List ℕ)) (bytes' : List ℕ) (entry' : ℕ) : Type 0 where
  pub sound : AreSound extensions symbols address' rest
  pub judged : uses_from extensions symbols number address (text ∷ rest) ≡ uses_from extensions symbols (number + 1) address' rest
  pub laid : IsLaidUpTo extensions symbols texts rest bytes' entry'
  pub within : address' ≤ 2 ^ 24

pub next : (extensions : Extensions) (symbols : Symbols) (texts : List (List ℕ)) (number address address' : ℕ) (text : List ℕ)
    (rest : List (List ℕ))
    (bytes bytes' : List ℕ) (entry entry' : ℕ)
    → address ≡ length bytes → address' ≡ length bytes'
    → AreSound extensions symbols address (text ∷ rest) → IsLaidUpTo extensions symbols texts (text ∷ rest) bytes entry
    → Adds (LineHasBytes symbols address (line_statement (line_of extensions text))) bytes bytes'
    → entry' ≡ unwrap_or (entry_of symbols (line_statement (line_of extensions text))) entry
    → option_and_then (fault_of_use symbols address) (line_statement (line_of extensions text)) ≡ None
    → Next extensions symbols texts number address address' text rest bytes' entry'
next extensions symbols texts number address address' text rest bytes bytes' entry entry' here there sound laid
    (private, added, has) enters none =
    let p = ok_parts (line_of extensions text)
    (λ l. All (λ label. symbols label ≡ Some address) l.labels × (end_of_statement address l.statement ≤ 2 ^ 24)) sound.0 in
    let says : line_statement (line_of extensions text) ≡ p.0.statement = ap line_statement p.1 in
    let size : address + length private ≡ end_from address (line_of extensions text) =
    length-line symbols address (line_statement (line_of extensions text)) private has in
    let longer : length bytes' ≡ length bytes + length private = ap length added ∙ length-append bytes private in
    let ends : address' ≡ end_from address (line_of extensions text) = omega (arith, here, there, size, longer) in
    let limit : end_from address (line_of extensions text) ≤ 2 ^ 24 = subst (λ s. end_of_statement address s ≤ 2 ^ 24) (sym says) p.2.1 in
    let line_has : LineHasBytes symbols (length bytes) p.0.statement private =
    subst (λ n. LineHasBytes symbols n p.0.statement private) here (subst (λ s. LineHasBytes symbols address s private) says has) in
    let labels : All (λ label. symbols label ≡ Some (length bytes)) p.0.labels =
    subst (λ n. All (λ label. symbols label ≡ Some n) p.0.labels) here p.2.0 in
    let whole = laid_more extensions symbols texts text rest bytes private entry p.0 p.1 labels line_has laid in
    record {
      sound = subst (λ n. AreSound extensions symbols n rest) (sym ends) sound.1;
      judged = uses_more extensions symbols number address text rest none
          ∙ ap (λ n. uses_from extensions symbols (number + 1) n rest) (sym ends);
      laid = subst (λ b. IsLaidUpTo extensions symbols texts rest b entry') (sym added)
          (subst (λ e. IsLaidUpTo extensions symbols texts rest (bytes ++ private) e)
          (ap (λ s. unwrap_or (entry_of symbols s) entry) (sym says) ∙ sym enters) whole);
      within = omega (arith, ends, limit);
    }
