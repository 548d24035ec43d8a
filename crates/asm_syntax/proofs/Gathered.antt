-- One or more operands, judged one after the other.
use Rattle.std.proofs.Common.{◌≡◌, ◌≢◌, ℕ, ◌+◌, ◌<◌, ◌≤◌, Bool, true, false, List, [], ◌∷◌, ◌++◌, length, get_or, drop, Option, Some, None}
use Rattle.std.proofs.Common.{Result, Ok, Err, refl, sym, ap, ◌∙◌, inl, inr, ◌⊎◌, append_assoc, Bor, map, arith}
use Rattle.std.specs.List.{list_all}
use Rattle.std.proofs.lemmas.Bool.{cases_Bool}
use Rattle.std.proofs.lemmas.List.{at_drop_more, at_drop_all, map-append}
use Rattle.asm_syntax.specs.declared.error.LineError.{LineError}
use Rattle.asm_syntax.specs.declared.error.LineError.TheVariants.{BadOperand, OutOfRange}
use Rattle.asm_syntax.specs.declared.token.Token.{Token as TokenCode}
use Rattle.asm_syntax.specs.Faults.{judged}
use Rattle.asm_syntax.specs.Shapes.{all_of, one_or_more, with_both}
use Rattle.asm_syntax.specs.Tokens.{Token}
use Rattle.asm_syntax.specs.TokenViews.{token_value, operand_values}

-- what operands gathered so far, all in range or not, make of the judgment of the others
abbrev pub behind : {X : Type 0} → Result (List X) LineError → Bool → List X → Result (List X) LineError
behind (Ok rest) true done = Ok (done ++ rest)
behind (Ok rest) false done = Err OutOfRange
behind (Err BadOperand) fits done = Err BadOperand
behind (Err _) fits done = Err OutOfRange

-- the judgment of all operands of a slice
abbrev pub gathered : {X : Type 0} → (X → Bool) → (List Token → Option X) → List (Bor (List TokenCode)) → Result (List X) LineError
gathered fits read operands = judged (list_all fits) (all_of read (operand_values operands))

unpaired : {X : Type 0} {e : LineError} {x : X} → ◌≡◌ {A = Result X LineError} (Err e) (Ok x) → ⊥
unpaired h = cc

ok_step : {X : Type 0} (fits : X → Bool) (o : Option X) (others : Option (List X)) (so_far : Bool) (done : List X) (x : X)
    → judged fits o ≡ Ok x → behind (judged (list_all fits) (with_both o others (λ y ys. y ∷ ys))) so_far done
    ≡ behind (judged (list_all fits) others) so_far (done ++ (x ∷ []))
ok_step fits None others so_far done x h = absurd (unpaired h)
ok_step {X} fits (Some y) others so_far done x h = by_test (cases_Bool (fits y)) others where
  grown : (so : Bool) (xs : List X) → y ≡ x → behind (Ok (y ∷ xs)) so done ≡ behind (Ok xs) so (done ++ (x ∷ []))
  grown true xs is = ap Ok (ap (λ z. done ++ (z ∷ xs)) is ∙ sym (append_assoc done (x ∷ []) xs))
  grown false xs is = refl

  by_all : (xs : List X) → fits y ≡ true → y ≡ x → (list_all fits xs ≡ true) ⊎ (list_all fits xs ≡ false)
      → behind (judged (list_all fits) (Some (y ∷ xs))) so_far done ≡ behind (judged (list_all fits) (Some xs)) so_far (done ++ (x ∷ []))
  by_all xs passes is (inl all) = rw (passes, all) (grown so_far xs is)
  by_all xs passes is (inr not_all) = rw (passes, not_all) refl

  by_test : (fits y ≡ true) ⊎ (fits y ≡ false) → (others : Option (List X))
      → behind (judged (list_all fits) (with_both (Some y) others (λ y ys. y ∷ ys))) so_far done
      ≡ behind (judged (list_all fits) others) so_far (done ++ (x ∷ []))
  by_test (inr fails) others = absurd (unpaired (rw fails at h))
  by_test (inl passes) None = refl
  by_test (inl passes) (Some xs) = let e = rw passes at h in let is : y ≡ x = cc in by_all xs passes is (cases_Bool (list_all fits xs))

out_step : {X : Type 0} (fits : X → Bool) (o : Option X) (others : Option (List X)) (so_far : Bool) (done : List X)
    → judged fits o ≡ Err OutOfRange → behind (judged (list_all fits) (with_both o others (λ y ys. y ∷ ys))) so_far done
    ≡ behind (judged (list_all fits) others) false done
out_step fits None others so_far done h = absurd (other h) where
  other : {X : Type 0} → ◌≡◌ {A = Result X LineError} (Err BadOperand) (Err OutOfRange) → ⊥
  other h = cc
out_step {X} fits (Some y) others so_far done h = by_test (cases_Bool (fits y)) others where
  by_all : (xs : List X) → fits y ≡ false → (list_all fits xs ≡ true) ⊎ (list_all fits xs ≡ false)
      → behind (judged (list_all fits) (Some (y ∷ xs))) so_far done ≡ behind (judged (list_all fits) (Some xs)) false done
  by_all xs fails (inl all) = rw (fails, all) refl
  by_all xs fails (inr not_all) = rw (fails, not_all) refl

  by_test : (fits y ≡ true) ⊎ (fits y ≡ false) → (others : Option (List X))
      → behind (judged (list_all fits) (with_both (Some y) others (λ y ys. y ∷ ys))) so_far done
      ≡ behind (judged (list_all fits) others) false done
  by_test (inl passes) others = absurd (unpaired (sym (rw passes at h)))
  by_test (inr fails) None = refl
  by_test (inr fails) (Some xs) = by_all xs fails (cases_Bool (list_all fits xs))

fault_step : {X : Type 0} (fits : X → Bool) (o : Option X) (others : Option (List X)) (so_far : Bool) (done : List X) (e : LineError)
    → judged fits o ≡ Err e → e ≢ OutOfRange → behind (judged (list_all fits) (with_both o others (λ y ys. y ∷ ys))) so_far done ≡ Err e
fault_step {X} fits None others so_far done e h other = ap Err (same h) where
  same : ◌≡◌ {A = Result X LineError} (Err BadOperand) (Err e) → BadOperand ≡ e
  same k = cc
fault_step {X} fits (Some y) others so_far done e h other = by_test (cases_Bool (fits y)) where
  same : ◌≡◌ {A = Result X LineError} (Err OutOfRange) (Err e) → e ≡ OutOfRange
  same k = cc

  by_test : (fits y ≡ true) ⊎ (fits y ≡ false) → behind (judged (list_all fits) (with_both (Some y) others (λ y ys. y ∷ ys))) so_far done
      ≡ Err e
  by_test (inl passes) = absurd (unpaired (sym (rw passes at h)))
  by_test (inr fails) = absurd (other (same (rw fails at h)))

-- one operand on, by what it is
pub gathered-ok : {X : Type 0} (fits : X → Bool) (read : List Token → Option X) (ops : List (Bor (List TokenCode))) (i : ℕ)
    (d : Bor (List TokenCode)) (so_far : Bool) (done : List X) (x : X) → i < length ops
    → judged fits (read (map token_value (get_or ops i d).now)) ≡ Ok x
    → behind (gathered fits read (drop (i + 1) ops)) so_far (done ++ (x ∷ [])) ≡ behind (gathered fits read (drop i ops)) so_far done
gathered-ok fits read ops i d so_far done x within h =
    sym (at_drop_more (λ os. behind (gathered fits read os) so_far done) ops i d within
    ∙ ok_step fits _ (all_of read (operand_values (drop (i + 1) ops))) so_far done x h)

pub gathered-out : {X : Type 0} (fits : X → Bool) (read : List Token → Option X) (ops : List (Bor (List TokenCode))) (i : ℕ)
    (d : Bor (List TokenCode)) (so_far : Bool) (done : List X) → i < length ops
    → judged fits (read (map token_value (get_or ops i d).now)) ≡ Err OutOfRange
    → behind (gathered fits read (drop (i + 1) ops)) false done ≡ behind (gathered fits read (drop i ops)) so_far done
gathered-out fits read ops i d so_far done within h =
    sym (at_drop_more (λ os. behind (gathered fits read os) so_far done) ops i d within
    ∙ out_step fits _ (all_of read (operand_values (drop (i + 1) ops))) so_far done h)

pub gathered-fault : {X : Type 0} (fits : X → Bool) (read : List Token → Option X) (ops : List (Bor (List TokenCode))) (i : ℕ)
    (d : Bor (List TokenCode)) (so_far : Bool) (done : List X) (e : LineError) → i < length ops
    → judged fits (read (map token_value (get_or ops i d).now)) ≡ Err e → e ≢ OutOfRange
    → behind (gathered fits read (drop i ops)) so_far done ≡ Err e
gathered-fault fits read ops i d so_far done e within h other =
    at_drop_more (λ os. behind (gathered fits read os) so_far done) ops i d within
    ∙ fault_step fits _ (all_of read (operand_values (drop (i + 1) ops))) so_far done e h other

-- the same of a list of values of the code that stand for what is gathered
pub pushed : {T X : Type 0} (value : T → X) (fits : X → Bool) (read : List Token → Option X) (ops : List (Bor (List TokenCode))) (i : ℕ)
    (d : Bor (List TokenCode)) (so_far : Bool) (done items : List T) (t : T) (whole : Result (List X) LineError) → i < length ops
    → items ≡ done ++ (t ∷ []) → Ok (value t) ≡ judged fits (read (map token_value (get_or ops i d).now))
    → behind (gathered fits read (drop i ops)) so_far (map value done) ≡ whole
    → behind (gathered fits read (drop (i + 1) ops)) so_far (map value items) ≡ whole
pushed value fits read ops i d so_far done items t whole within grown found is =
    rw (grown, map-append value done (t ∷ [])) (gathered-ok fits read ops i d so_far (map value done) (value t) within (sym found) ∙ is)

pub skipped : {X : Type 0} (fits : X → Bool) (read : List Token → Option X) (ops : List (Bor (List TokenCode))) (i : ℕ)
    (d : Bor (List TokenCode)) (so_far : Bool) (done : List X) (e : LineError) (whole : Result (List X) LineError) → i < length ops
    → e ≡ OutOfRange → Err e ≡ judged fits (read (map token_value (get_or ops i d).now))
    → behind (gathered fits read (drop i ops)) so_far done ≡ whole → behind (gathered fits read (drop (i + 1) ops)) false done ≡ whole
skipped fits read ops i d so_far done e whole within out found is =
    gathered-out fits read ops i d so_far done within (sym (rw out at found)) ∙ is

-- behind the last
pub gathered-last : {X : Type 0} (fits : X → Bool) (read : List Token → Option X) (ops : List (Bor (List TokenCode))) (i : ℕ)
    (so_far : Bool) (done : List X) → length ops ≤ i → behind (gathered fits read (drop i ops)) so_far done ≡ behind (Ok []) so_far done
gathered-last fits read ops i so_far done all = at_drop_all (λ os. behind (gathered fits read os) so_far done) ops i all

-- of some operands, one or more are all
pub one_or_more-all : {X : Type 0} (read : List Token → Option X) (ops : List (Bor (List TokenCode))) → 0 < length ops
    → one_or_more read (operand_values ops) ≡ all_of read (operand_values ops)
one_or_more-all read [] some = absurd (omega arith)
one_or_more-all read (o ∷ os) some = refl
