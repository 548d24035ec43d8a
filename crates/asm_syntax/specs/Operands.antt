-- The operands of a statement, by the tokens that spell one (own language). An operand is what stands between commas.
use Rattle.std.specs.Prelude.{ℕ, ◌-◌, ◌^◌, Bool, true, false, ℤ, pos, neg_ℤ, List, [], ◌∷◌, Option, Some, None}
use Rattle.std.specs.List.{slice_split}
use Rattle.std.specs.Option.{option_map, option_and_then}
use Rattle.rv_tables.specs.Registers.{register_number}
use Rattle.asm_syntax.specs.Ranges.{Range, from_to, signed_or_unsigned, is_within, IsWithin}
use Rattle.asm_syntax.specs.Tokens.{Token, name, number, text, comma, opening, closing, plus, minus}

-- the sign that parts operands
abbrev pub is_comma : Token → Bool
is_comma comma = true
is_comma _ = false

-- the operands in the tokens behind a mnemonic: none where there are no tokens, else one more than there are commas
abbrev pub operands_in : List Token → List (List Token)
operands_in [] = []
operands_in (t ∷ ts) = slice_split is_comma (t ∷ ts)

-- an address: that of a label with an offset to it, or a number, which is the address itself
pub record Target : Type 0 where
  pub label : Option (List ℕ)
  pub offset : ℤ

-- a register by its name
abbrev pub register_in : List Token → Option ℕ
register_in (name r ∷ []) = register_number r
register_in _ = None

-- a number, with or without `-`
abbrev pub number_in : List Token → Option ℤ
number_in (number n ∷ []) = Some (pos n)
number_in (minus ∷ number n ∷ []) = Some (neg_ℤ (pos n))
number_in _ = None

-- a name in parentheses
abbrev pub in_parentheses : List Token → Option (List ℕ)
in_parentheses (opening ∷ name r ∷ closing ∷ []) = Some r
in_parentheses _ = None

-- a number, and a name in parentheses behind it
pub record Based : Type 0 where
  pub number : ℤ
  pub base : List ℕ

-- without a number it is 0
abbrev pub based_in : List Token → Option Based
based_in (number n ∷ rest) = option_map (λ r. record { number = pos n; base = r }) (in_parentheses rest)
based_in (minus ∷ number n ∷ rest) = option_map (λ r. record { number = neg_ℤ (pos n); base = r }) (in_parentheses rest)
based_in ts = option_map (λ r. record { number = pos 0; base = r }) (in_parentheses ts)

-- an address in memory: that in a register, plus a number
pub record Address : Type 0 where
  pub offset : ℤ
  pub base : ℕ

-- an address in memory, as a number and a register in parentheses
abbrev pub address_in : List Token → Option Address
address_in ts = option_and_then (λ a. option_map (λ base. record { offset = a.number; base = base }) (register_number a.base)) (based_in ts)

-- a label, a label plus or minus a number, or a number. Any name is a label here
abbrev pub target_in : List Token → Option Target
target_in (name l ∷ []) = Some (record { label = Some l; offset = pos 0 })
target_in (name l ∷ plus ∷ number n ∷ []) = Some (record { label = Some l; offset = pos n })
target_in (name l ∷ minus ∷ number n ∷ []) = Some (record { label = Some l; offset = neg_ℤ (pos n) })
target_in ts = option_map (λ n. record { label = None; offset = n }) (number_in ts)

-- the bytes of a string
abbrev pub text_in : List Token → Option (List ℕ)
text_in (text s ∷ []) = Some s
text_in _ = None

-- the range of the number of a target: beside a label at most 2^32 - 1 whatever its sign, and without one that of a word
abbrev pub offset_range : Option (List ℕ) → Range
offset_range (Some _) = from_to (neg_ℤ (pos (2 ^ 32 - 1))) (pos (2 ^ 32 - 1))
offset_range None = signed_or_unsigned 32

-- the number of a target is in its range: a test, and the fact that it tests
abbrev pub fits_target : Target → Bool
fits_target t = is_within (offset_range t.label) t.offset

abbrev pub IsTarget : Target → Type 0
IsTarget t = IsWithin (offset_range t.label) t.offset
