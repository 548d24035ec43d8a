-- The parts between commas, as tokens of the code and of the definition.
use Rattle.std.proofs.Common.{◌≡◌, ◌<◌, Bool, List, [], ◌∷◌, map, length, Result, Ok, Err, Bor, refl, sym, ap, ◌∙◌, arith, inl, inr}
use Rattle.std.specs.Prelude.{IfOk}
use Rattle.std.specs.List.{slice_split, onto_first}
use Rattle.std.proofs.lemmas.Bool.{cases_Bool}
use Rattle.asm_syntax.specs.declared.token.Token.{Token as TokenCode}
use Rattle.asm_syntax.specs.Operands.{is_comma, operands_in}
use Rattle.asm_syntax.specs.Tokens.{Token}
use Rattle.asm_syntax.specs.TokenViews.{token_value, operand_values}

onto_first-map : {X Y : Type 0} (f : X → Y) (x : X) (parts : List (List X))
    → onto_first (f x) (map (map f) parts) ≡ map (map f) (onto_first x parts)
onto_first-map f x [] = refl
onto_first-map f x (part ∷ parts) = refl

slice_split-map : {X Y : Type 0} (p : Y → Bool) (f : X → Y) (xs : List X)
    → slice_split p (map f xs) ≡ map (map f) (slice_split (λ x. p (f x)) xs)
slice_split-map p f [] = refl
slice_split-map p f (x ∷ xs) =
    elim (cases_Bool (p (f x))) [
      | inl cuts ↦ rw cuts (ap (λ parts. [] ∷ parts) (slice_split-map p f xs))
      | inr goes_on ↦ rw goes_on (ap (onto_first (f x)) (slice_split-map p f xs) ∙ onto_first-map f x (slice_split (λ y. p (f y)) xs))
    ]

operand_values-map : (items : List (Bor (List TokenCode))) → operand_values items ≡ map (map token_value) (map (λ x. x.now) items)
operand_values-map [] = refl
operand_values-map (o ∷ os) = ap (λ parts. map token_value o.now ∷ parts) (operand_values-map os)

operands_in-split : (ts : List Token) → 0 < length ts → operands_in ts ≡ slice_split is_comma ts
operands_in-split [] some = absurd (omega arith)
operands_in-split (t ∷ ts) some = refl

pub operand_values-split : (items : List (Bor (List TokenCode))) (ts : List TokenCode) → 0 < length ts
    → map (λ x. x.now) items ≡ slice_split (λ t. is_comma (token_value t)) ts → operand_values items ≡ operands_in (map token_value ts)
operand_values-split items [] some is = absurd (omega arith)
operand_values-split items (t ∷ ts) some is =
    operand_values-map items
    ∙ (ap (map (map token_value)) is
    ∙ (sym (slice_split-map is_comma token_value (t ∷ ts))
    ∙ sym (operands_in-split (map token_value (t ∷ ts)) (omega arith))))

pub IfOk-further : {X E : Type 0} (r : Result X E) (P Q : X → Type 0) → ((x : X) → P x → Q x) → IfOk r P → IfOk r Q
IfOk-further (Ok x) P Q f h = f x h
IfOk-further (Err e) P Q f h = tt
