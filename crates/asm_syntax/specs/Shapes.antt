-- The operands of a statement: how many, of which kinds, and in which ranges (own language). Where their number or a kind is
-- wrong, that is the fault, and only else a range.
use Rattle.std.specs.Prelude.{ℕ, true, ℤ, List, [], ◌∷◌, Option, Some, None, Result}
use Rattle.std.specs.List.{list_all}
use Rattle.std.specs.Option.{option_map, option_and_then}
use Rattle.asm_syntax.specs.declared.error.LineError.{LineError}
use Rattle.asm_syntax.specs.Faults.{judged}
use Rattle.asm_syntax.specs.Operands.{Address, Target, register_in, number_in, address_in, target_in, text_in, fits_target}
use Rattle.asm_syntax.specs.Ranges.{Range, signed, up_to, is_within}
use Rattle.asm_syntax.specs.Tokens.{Token}

-- no operands: what is read of them, where there are none
abbrev pub none : List (List Token) → Option (Unit {0})
none [] = Some tt
none _ = None

-- one, two or three operands, each by a reader; nothing where there are not so many, or one of them is not of its kind
abbrev pub one : {X : Type 0} → (List Token → Option X) → List (List Token) → Option X
one read (a ∷ []) = read a
one read _ = None

abbrev pub with_both : {X Y Z : Type 0} → Option X → Option Y → (X → Y → Z) → Option Z
with_both x y make = option_and_then (λ a. option_map (make a) y) x

abbrev pub two : {X Y : Type 0} → (List Token → Option X) → (List Token → Option Y) → List (List Token) → Option (X × Y)
two first second (a ∷ b ∷ []) = with_both (first a) (second b) (λ x y. (x, y))
two first second _ = None

abbrev pub three : {X Y Z : Type 0} → (List Token → Option X) → (List Token → Option Y) → (List Token → Option Z)
    → List (List Token) → Option (X × Y × Z)
three first second third (a ∷ b ∷ c ∷ []) =
    option_and_then (λ x. with_both (second b) (third c) (λ y z. (x, y, z))) (first a)
three first second third _ = None

-- any number of operands, or one at least, all by one reader
abbrev pub all_of : {X : Type 0} → (List Token → Option X) → List (List Token) → Option (List X)
all_of read [] = Some []
all_of read (operand ∷ rest) = with_both (read operand) (all_of read rest) (λ x xs. x ∷ xs)

abbrev pub one_or_more : {X : Type 0} → (List Token → Option X) → List (List Token) → Option (List X)
one_or_more read [] = None
one_or_more read (operand ∷ rest) = all_of read (operand ∷ rest)

-- nothing
abbrev pub no_operands : List (List Token) → Result (Unit {0}) LineError
no_operands os = judged (λ _. true) (none os)

-- `rs`
abbrev pub a_register : List (List Token) → Result ℕ LineError
a_register os = judged (λ _. true) (one register_in os)

-- `rd,rs`
abbrev pub two_registers : List (List Token) → Result (ℕ × ℕ) LineError
two_registers os = judged (λ _. true) (two register_in register_in os)

-- `rd,rs1,rs2`
abbrev pub three_registers : List (List Token) → Result (ℕ × ℕ × ℕ) LineError
three_registers os = judged (λ _. true) (three register_in register_in register_in os)

-- `n`
abbrev pub a_number : Range → List (List Token) → Result ℤ LineError
a_number range os = judged (is_within range) (one number_in os)

-- `rd,n`
abbrev pub register_and_number : Range → List (List Token) → Result (ℕ × ℤ) LineError
register_and_number range os = judged (λ (rd, n). is_within range n) (two register_in number_in os)

-- `rd,rs1,n`
abbrev pub registers_and_number : Range → List (List Token) → Result (ℕ × ℕ × ℤ) LineError
registers_and_number range os = judged (λ (rd, rs1, n). is_within range n) (three register_in register_in number_in os)

-- `rd,n(rs1)`, with a number of 12 bits
abbrev pub register_and_address : List (List Token) → Result (ℕ × Address) LineError
register_and_address os = judged (λ (rd, a). is_within (signed 12) a.offset) (two register_in address_in os)

-- `rd,(rs1)`, with no number but 0
abbrev pub register_and_base : List (List Token) → Result (ℕ × Address) LineError
register_and_base os = judged (λ (rd, a). is_within (up_to 0) a.offset) (two register_in address_in os)

-- `rd,rs2,(rs1)`
abbrev pub registers_and_base : List (List Token) → Result (ℕ × ℕ × Address) LineError
registers_and_base os = judged (λ (rd, rs2, a). is_within (up_to 0) a.offset) (three register_in register_in address_in os)

-- `target`
abbrev pub a_target : List (List Token) → Result Target LineError
a_target os = judged fits_target (one target_in os)

-- `rd,target`
abbrev pub register_and_target : List (List Token) → Result (ℕ × Target) LineError
register_and_target os = judged (λ (rd, t). fits_target t) (two register_in target_in os)

-- `rs1,rs2,target`
abbrev pub registers_and_target : List (List Token) → Result (ℕ × ℕ × Target) LineError
registers_and_target os = judged (λ (rs1, rs2, t). fits_target t) (three register_in register_in target_in os)

-- `target,..`, one or more
abbrev pub targets : List (List Token) → Result (List Target) LineError
targets os = judged (list_all fits_target) (one_or_more target_in os)

-- `n,..`, one or more
abbrev pub numbers : Range → List (List Token) → Result (List ℤ) LineError
numbers range os = judged (list_all (is_within range)) (one_or_more number_in os)

-- `"text"`
abbrev pub a_text : List (List Token) → Result (List ℕ) LineError
a_text os = judged (λ _. true) (one text_in os)
