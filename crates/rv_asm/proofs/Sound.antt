-- Lines without a fault in the first judging: what they say, that their labels have their addresses, and where they end.
use Rattle.std.proofs.Common.{◌≡◌, ℕ, ◌+◌, ◌^◌, ◌≤◌, Bool, true, false, ◌||◌, nat_lt, List, [], ◌∷◌, All, Option, Some, None, is_some}
use Rattle.std.proofs.Common.{IsOkAnd, Result, Ok, Err, option_map, refl, sym, ◌∙◌, ap, subst, if◌then◌else◌, ◌⊎◌, inl, inr, ⊎_elim, arith}
use Rattle.std.specs.List.{list_any}
use Rattle.std.specs.Option.{option_map_or, option_or}
use Rattle.std.specs.Str.{bytes_eq}
use Rattle.std.specs.Cmp.Lexicographic.{bytes_decides}
use Rattle.std.proofs.lemmas.List.Elements.{All-nil, All-cons}
use Rattle.rv_atomics.specs.declared.extensions.Extensions.{Extensions}
use Rattle.asm_syntax.specs.Lines.{lines_of}
use Rattle.asm_syntax.specs.Parse.{line_of}
use Rattle.asm_syntax.specs.Statements.{Line}
use Rattle.asm_syntax.specs.declared.error.LineError.{LineError}
use Rattle.rv_asm.specs.declared.errors.AsmKind.{AsmKind}
use Rattle.rv_asm.specs.Faults.{kind_of, fault_of_line, fault_alone, first_faulty_line, has_duplicate}
use Rattle.rv_asm.specs.Places.{placed, places_of, symbols_of, line_labels, end_of_statement, end_from}
use Rattle.rv_asm.specs.Symbols.{Symbols, no_symbols, with_symbol, with_labels}
use Rattle.rv_asm.specs.Targets.{is_out_of_reach}
use Rattle.rv_asm.proofs.Judging.{by_tests}
use Rattle.rv_asm.proofs.Passes.{symbols_from, judged_more, known_more}

-- the labels of a line have its address, and its statement ends within the limit
abbrev pub IsSoundLine : Symbols → ℕ → Result Line LineError → Type 0
IsSoundLine symbols address line =
    IsOkAnd line (λ l. All (λ label. symbols label ≡ Some address) l.labels × (end_of_statement address l.statement ≤ 2 ^ 24))

-- so have those of lines from an address on, each where the one before it ends
abbrev pub AreSound : (extensions : Extensions) → Symbols → ℕ → List (List ℕ) → Type 0
AreSound extensions symbols address [] = Unit {0}
AreSound extensions symbols address (text ∷ rest) =
    IsSoundLine symbols address (line_of extensions text) × AreSound extensions symbols (end_from address (line_of extensions text)) rest

-- no test of the first judging fails
record PassesTests (address : ℕ) (known : List ℕ → Bool) (line : Line) : Type 0 where
  distinct : has_duplicate known line.labels ≡ false
  within : end_of_statement address line.statement ≤ 2 ^ 24

tests_pass : (reach duplicate large : Bool) → by_tests reach duplicate large ≡ None → (duplicate ≡ false) × (large ≡ false)
tests_pass true duplicate large h = cc
tests_pass false true large h = cc
tests_pass false false true h = cc
tests_pass false false false h = (refl, refl)

passes : (address : ℕ) (known : List ℕ → Bool) (line : Line) → fault_of_line address known (Ok line) ≡ None → PassesTests address known line
passes address known line h =
    let p = tests_pass (option_map_or (is_out_of_reach no_symbols address) line.statement false) (has_duplicate known line.labels)
    (nat_lt (2 ^ 24) (end_of_statement address line.statement)) h in
    let large : nat_lt (2 ^ 24) (end_of_statement address line.statement) ≡ false = p.1 in
    record { distinct = p.0; within = search (arith, large) }

or_false : (a b : Bool) → (a || b) ≡ false → (a ≡ false) × (b ≡ false)
or_false true b h = cc
or_false false b h = (refl, h)

or-true : (a b : Bool) → b ≡ true → (a || b) ≡ true
or-true true b h = refl
or-true false b h = h

differs : (known : List ℕ → Bool) (label name : List ℕ) (same : Bool) → bytes_eq label name ≡ same → known label ≡ false → known name ≡ true
    → same ≡ false
differs known label name false e absent present = refl
differs known label name true e absent present =
    let equal : label ≡ name = (bytes_decides label name).0 e in
    let clash : true ≡ false = sym present ∙ sym (ap known equal) ∙ absent in
    cc

-- a label that is known is none of the labels of a line that has no duplicate
apart : (known : List ℕ → Bool) (labels : List (List ℕ)) (name : List ℕ) → has_duplicate known labels ≡ false → known name ≡ true
    → list_any (λ label. bytes_eq label name) labels ≡ false
apart known [] name h k = refl
apart known (label ∷ rest) name h k =
    let parts = or_false (known label) (has_duplicate (λ n. bytes_eq label n || known n) rest) h in
    let head = differs known label name (bytes_eq label name) refl parts.0 k in
    let tail = apart (λ n. bytes_eq label n || known n) rest name parts.1 (or-true (bytes_eq label name) (known name) k) in
    (λ i. head i || tail i)

-- labels that are not a name leave it as it was
unchanged : (symbols : Symbols) (labels : List (List ℕ)) (address : ℕ) (name : List ℕ)
    → list_any (λ label. bytes_eq label name) labels ≡ false
    → with_labels symbols labels address name ≡ symbols name
unchanged symbols [] address name h = refl
unchanged symbols (label ∷ rest) address name h =
    let parts = or_false (bytes_eq label name) (list_any (λ l. bytes_eq l name) rest) h in
    unchanged (with_symbol symbols label address) rest address name parts.1 ∙ ap (λ b. if b then Some address else symbols name) parts.0

-- labels of which one is the name give it their address
given : (symbols : Symbols) (labels : List (List ℕ)) (address : ℕ) (name : List ℕ)
    → (symbols name ≡ Some address) ⊎ (list_any (λ label. bytes_eq label name) labels ≡ true)
    → with_labels symbols labels address name ≡ Some address
given symbols [] address name h = ⊎_elim (λ e. e) (λ e. cc) h
given symbols (label ∷ rest) address name h = given (with_symbol symbols label address) rest address name (by (bytes_eq label name) h)
  where
    by : (b : Bool) → (symbols name ≡ Some address) ⊎ ((b || list_any (λ l. bytes_eq l name) rest) ≡ true)
        → ((if b then Some address else symbols name) ≡ Some address) ⊎ (list_any (λ l. bytes_eq l name) rest ≡ true)
    by true g = inl refl
    by false g = g

none_parts : (number : ℕ) (fault : Option AsmKind) (others : Option (ℕ × AsmKind))
    → option_or (option_map (λ kind. (number, kind)) fault) others ≡ None → fault ≡ None
none_parts number None others h = refl
none_parts number (Some kind) others h = cc

distinct_labels : (address : ℕ) (known : List ℕ → Bool) (line : Result Line LineError) → fault_of_line address known line ≡ None
    → has_duplicate known (line_labels line) ≡ false
distinct_labels address known (Ok line) h = (passes address known line h).distinct
distinct_labels address known (Err fault) h = refl

-- the first line of some without a fault, and those behind it
module _ (extensions : Extensions) (symbols : Symbols) (number address : ℕ) (text : List ℕ) (rest : List (List ℕ))
    (h : first_faulty_line fault_alone (placed extensions number address (λ p. is_some (symbols p)) (text ∷ rest)) ≡ None) where
  after : Symbols
  after = with_labels symbols (line_labels (line_of extensions text)) address

  head : fault_of_line address (λ p. is_some (symbols p)) (line_of extensions text) ≡ None
  head =
      none_parts number (fault_of_line address (λ p. is_some (symbols p)) (line_of extensions text))
      (first_faulty_line fault_alone
      (placed extensions (number + 1) (end_from address (line_of extensions text))
      (λ name. list_any (λ label. bytes_eq label name) (line_labels (line_of extensions text)) || is_some (symbols name)) rest)) h

  tail : first_faulty_line fault_alone
      (placed extensions (number + 1) (end_from address (line_of extensions text)) (λ p. is_some (after p)) rest)
      ≡ None
  unfolding after
  tail =
      sym (judged_more extensions symbols after number address (end_from address (line_of extensions text)) text rest refl (λ name. refl) head)
      ∙ h

  further : (name : List ℕ) → symbols_from symbols (placed extensions number address (λ p. is_some (symbols p)) (text ∷ rest)) name
      ≡ symbols_from after (placed extensions (number + 1) (end_from address (line_of extensions text)) (λ p. is_some (after p)) rest) name
  unfolding after
  further = known_more extensions symbols after number address (end_from address (line_of extensions text)) text rest refl (λ name. refl)

  not_again : (name : List ℕ) → is_some (symbols name) ≡ true → after name ≡ symbols name
  unfolding after
  not_again name k =
      unchanged symbols (line_labels (line_of extensions text)) address name
      (apart (λ p. is_some (symbols p)) (line_labels (line_of extensions text)) name
      (distinct_labels address (λ p. is_some (symbols p)) (line_of extensions text) head) k)

  of_line : (name : List ℕ) → list_any (λ label. bytes_eq label name) (line_labels (line_of extensions text)) ≡ true
      → after name ≡ Some address
  unfolding after
  of_line name member = given symbols (line_labels (line_of extensions text)) address name (inr member)

-- the lines behind a label do not change its address
kept : (extensions : Extensions) (symbols : Symbols) (number address : ℕ) (texts : List (List ℕ)) (name : List ℕ)
    → first_faulty_line fault_alone (placed extensions number address (λ p. is_some (symbols p)) texts) ≡ None → is_some (symbols name)
    ≡ true
    → symbols_from symbols (placed extensions number address (λ p. is_some (symbols p)) texts) name ≡ symbols name
kept extensions symbols number address [] name h k = refl
kept extensions symbols number address (text ∷ rest) name h k =
    let same = not_again extensions symbols number address text rest h name k in
    further extensions symbols number address text rest h name
    ∙ kept extensions (after extensions symbols number address text rest h) (number + 1) (end_from address (line_of extensions text))
    rest name
    (tail extensions symbols number address text rest h) (ap is_some same ∙ k) ∙ same

each_member : (P : List ℕ → Type 0) (labels : List (List ℕ))
    → ((name : List ℕ) → list_any (λ label. bytes_eq label name) labels ≡ true → P name)
    → All P labels
each_member P [] f = All-nil P
each_member P (label ∷ rest) f =
    All-cons P label rest (f label (ap (λ b. b || list_any (λ l. bytes_eq l label) rest) ((bytes_decides label label).1 refl)))
    (each_member P rest (λ name m. f name (or-true (bytes_eq label name) (list_any (λ l. bytes_eq l name) rest) m)))

sound_line : (symbols : Symbols) (address : ℕ) (known : List ℕ → Bool) (line : Result Line LineError)
    → fault_of_line address known line ≡ None
    → ((name : List ℕ) → list_any (λ label. bytes_eq label name) (line_labels line) ≡ true → symbols name ≡ Some address)
    → IsSoundLine symbols address line
sound_line symbols address known (Err fault) h f = let clash : Some (kind_of fault) ≡ None = h in cc
sound_line symbols address known (Ok line) h f =
    (each_member (λ label. symbols label ≡ Some address) line.labels f, (passes address known line h).within)

-- where no line has a fault in the first judging, the lines are sound with the labels of all
pub sound : (extensions : Extensions) (symbols : Symbols) (number address : ℕ) (texts : List (List ℕ))
    → first_faulty_line fault_alone (placed extensions number address (λ p. is_some (symbols p)) texts) ≡ None
    → AreSound extensions (symbols_from symbols (placed extensions number address (λ p. is_some (symbols p)) texts)) address texts
sound extensions symbols number address [] h = tt
sound extensions symbols number address (text ∷ rest) h =
    let grown = after extensions symbols number address text rest h in
    let at_end = end_from address (line_of extensions text) in
    let others = tail extensions symbols number address text rest h in
    let all = further extensions symbols number address text rest h in (
      sound_line _ address (λ p. is_some (symbols p)) (line_of extensions text) (head extensions symbols number address text rest h)
          (λ name m. let at_label = of_line extensions symbols number address text rest h name m in
          all name ∙ kept extensions grown (number + 1) at_end rest name others (ap is_some at_label) ∙ at_label),
      subst (λ all_symbols. AreSound extensions all_symbols at_end rest) (λ i name. sym (all name) i)
          (sound extensions grown (number + 1) at_end rest others),
    )

-- a text without a fault in the first judging is sound with its labels
pub sound_text : (extensions : Extensions) (symbols : Symbols) (text : List ℕ)
    → first_faulty_line fault_alone (places_of extensions text) ≡ None
    → ((name : List ℕ) → symbols name ≡ symbols_of (places_of extensions text) name) → AreSound extensions symbols 0 (lines_of text)
sound_text extensions symbols text judged known =
    subst (λ s. AreSound extensions s 0 (lines_of text)) (λ i name. sym (known name) i)
    (sound extensions no_symbols 1 0 (lines_of text) judged)
