-- Operands of which the last one's range counts.
use Rattle.std.proofs.Common.{◌≡◌, ℕ, Bool, true, false, Option, Some, None, Result, Ok, Err, refl, sym, ap, inl, inr, ◌⊎◌, ◌<◌, ◌≤◌, List}
use Rattle.std.proofs.Common.{[], ◌∷◌, map, length, get_or, Bor, arith}
use Rattle.std.specs.Option.{option_map, option_and_then}
use Rattle.std.proofs.lemmas.Bool.{cases_Bool}
use Rattle.asm_syntax.specs.declared.error.LineError.{LineError}
use Rattle.asm_syntax.specs.declared.token.Token.{Token as TokenCode}
use Rattle.asm_syntax.specs.Faults.{if_ok, judged}
use Rattle.asm_syntax.specs.Shapes.{two, three, with_both}
use Rattle.asm_syntax.specs.Operands.{register_in}
use Rattle.asm_syntax.specs.Tokens.{Token}
use Rattle.asm_syntax.specs.TokenViews.{token_value, operand_values}

-- the range of what operands make is that of the last one
judged_last : {Y Z : Type 0} (f : Y → Bool) (g : Z → Bool) (make : Y → Z) (o : Option Y) → ((y : Y) → g (make y) ≡ f y)
    → judged g (option_map make o) ≡ if_ok make (judged f o)
judged_last f g make None same = refl
judged_last f g make (Some y) same = by_test (cases_Bool (f y)) where
  by_test : (f y ≡ true) ⊎ (f y ≡ false) → judged g (option_map make (Some y)) ≡ if_ok make (judged f (Some y))
  by_test (inl passes) = rw (same y, passes) refl
  by_test (inr fails) = rw (same y, fails) refl

-- a register, and what is judged of the operand behind it
second_judged : {Y : Type 0} (f : Y → Bool) (r : Option ℕ) (o : Option Y) (x : ℕ) → judged (λ _. true) r ≡ Ok x
    → if_ok (λ y. (x, y)) (judged f o) ≡ judged {X = ℕ × Y} (λ p. f p.1) (with_both r o (λ x y. (x, y)))
second_judged f None o x h = cc
second_judged {Y} f (Some z) o x h =
    let is : z ≡ x = cc in
    rw is (sym (judged_last f (λ (p : ℕ × Y). f p.1) (λ y. (x, y)) o (λ y. refl)))

-- two registers, and what is judged of the operand behind them
third_judged : {Y : Type 0} (f : Y → Bool) (r s : Option ℕ) (o : Option Y) (x z : ℕ)
    → judged {X = ℕ × ℕ} (λ _. true) (with_both r s (λ x y. (x, y))) ≡ Ok (x, z)
    → if_ok (λ y. (x, z, y)) (judged f o) ≡ judged {X = ℕ × ℕ × Y} (λ p. f p.2) (option_and_then (λ x. with_both s o (λ y z. (x, y, z))) r)
third_judged f None s o x z h = cc
third_judged f (Some a) None o x z h = cc
third_judged {Y} f (Some a) (Some b) o x z h =
    let both : ◌≡◌ {A = ℕ × ℕ} (a, b) (x, z) = cc in
    let is : a ≡ x = ap (λ (p : ℕ × ℕ). p.0) both in
    let also : b ≡ z = ap (λ (p : ℕ × ℕ). p.1) both in
    rw (is, also) (sym (judged_last f (λ (p : ℕ × ℕ × Y). f p.2) (λ y. (x, z, y)) o (λ y. refl)))

-- no register where one is wanted
second_none : {Y : Type 0} (f : ℕ × Y → Bool) (r : Option ℕ) (o : Option Y) (e : LineError) → judged (λ _. true) r ≡ Err e
    → Err e ≡ judged f (with_both r o (λ x y. (x, y)))
second_none f None o e h = cc
second_none f (Some x) o e h = cc

third_none : {Y : Type 0} (f : ℕ × ℕ × Y → Bool) (r s : Option ℕ) (o : Option Y) (e : LineError)
    → judged {X = ℕ × ℕ} (λ _. true) (with_both r s (λ x y. (x, y))) ≡ Err e
    → Err e ≡ judged f (option_and_then (λ x. with_both s o (λ y z. (x, y, z))) r)
third_none f None s o e h = cc
third_none f (Some a) None o e h = cc
third_none f (Some a) (Some b) o e h = cc

-- the operands of a slice of two or of three
two_values : (ops : List (Bor (List TokenCode))) (d : Bor (List TokenCode)) → 2 ≤ length ops → length ops < 3
    → operand_values ops ≡ map token_value (get_or ops 0 d).now ∷ map token_value (get_or ops 1 d).now ∷ []
two_values [] d least most = absurd (omega arith)
two_values (a ∷ []) d least most = absurd (omega arith)
two_values (a ∷ b ∷ []) d least most = refl
two_values (a ∷ b ∷ c ∷ rest) d least most = absurd (omega arith)

three_values : (ops : List (Bor (List TokenCode))) (d : Bor (List TokenCode)) → 3 ≤ length ops → length ops < 4
    → operand_values ops ≡ map token_value (get_or ops 0 d).now ∷ map token_value (get_or ops 1 d).now
    ∷ map token_value (get_or ops 2 d).now ∷ []
three_values [] d least most = absurd (omega arith)
three_values (a ∷ []) d least most = absurd (omega arith)
three_values (a ∷ b ∷ []) d least most = absurd (omega arith)
three_values (a ∷ b ∷ c ∷ []) d least most = refl
three_values (a ∷ b ∷ c ∷ e ∷ rest) d least most = absurd (omega arith)

-- the same of the operands of a slice
pub two_judged : {Y : Type 0} (read : List Token → Option Y) (f : Y → Bool) (ops : List (Bor (List TokenCode))) (d : Bor (List TokenCode))
    (x : ℕ) (last : Result Y LineError) → 2 ≤ length ops → length ops < 3
    → judged (λ _. true) (register_in (map token_value (get_or ops 0 d).now)) ≡ Ok x
    → last ≡ judged f (read (map token_value (get_or ops 1 d).now))
    → if_ok (λ y. (x, y)) last ≡ judged {X = ℕ × Y} (λ p. f p.1) (two register_in read (operand_values ops))
two_judged read f ops d x last least most is judges =
    rw (two_values ops d least most, judges) (second_judged f _ _ x is)

pub two_none : {Y : Type 0} (read : List Token → Option Y) (f : ℕ × Y → Bool) (ops : List (Bor (List TokenCode))) (d : Bor (List TokenCode))
    (e : LineError) → 2 ≤ length ops → length ops < 3 → judged (λ _. true) (register_in (map token_value (get_or ops 0 d).now)) ≡ Err e
    → Err e ≡ judged f (two register_in read (operand_values ops))
two_none read f ops d e least most none = rw (two_values ops d least most) (second_none f _ _ e none)

pub three_judged : {Y : Type 0} (read : List Token → Option Y) (f : Y → Bool) (ops : List (Bor (List TokenCode))) (d : Bor (List TokenCode))
    (x z : ℕ) (last : Result Y LineError) → 3 ≤ length ops → length ops < 4
    → judged {X = ℕ × ℕ} (λ _. true)
    (with_both (register_in (map token_value (get_or ops 0 d).now)) (register_in (map token_value (get_or ops 1 d).now)) (λ x y. (x, y)))
    ≡ Ok (x, z) → last ≡ judged f (read (map token_value (get_or ops 2 d).now))
    → if_ok (λ y. (x, z, y)) last ≡ judged {X = ℕ × ℕ × Y} (λ p. f p.2) (three register_in register_in read (operand_values ops))
three_judged read f ops d x z last least most are judges =
    rw (three_values ops d least most, judges) (third_judged f _ _ _ x z are)

pub three_none : {Y : Type 0} (read : List Token → Option Y) (f : ℕ × ℕ × Y → Bool) (ops : List (Bor (List TokenCode)))
    (d : Bor (List TokenCode)) (e : LineError) → 3 ≤ length ops → length ops < 4
    → judged {X = ℕ × ℕ} (λ _. true)
    (with_both (register_in (map token_value (get_or ops 0 d).now)) (register_in (map token_value (get_or ops 1 d).now)) (λ x y. (x, y)))
    ≡ Err e → Err e ≡ judged f (three register_in register_in read (operand_values ops))
three_none read f ops d e least most none = rw (three_values ops d least most) (third_none f _ _ _ e none)
