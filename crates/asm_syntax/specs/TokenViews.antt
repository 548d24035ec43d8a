-- What the tokens of the code stand for.
use Rattle.std.specs.Prelude.{ℕ, ◌≤◌, ◌<◌, if◌then◌else◌, List, [], ◌∷◌, map, unwrap_or}
use Rattle.std.specs.Borrow.{Bor}
use Rattle.asm_syntax.specs.Bytes.{is_backslash, escape_value}
use Rattle.numerals.specs.Numbers.{number_value}
use Rattle.asm_syntax.specs.Tokens.{Token, name, number, text, comma, colon, opening, closing}
use Rattle.asm_syntax.specs.Tokens.{plus, minus, Head, blank, comment, token, nothing}
use Rattle.asm_syntax.specs.Operands.{Based, Address}
use Rattle.asm_syntax.specs.declared.operand.Address.{Address as AddressCode}
use Rattle.asm_syntax.specs.declared.operand.NumberAndBase.{NumberAndBase}
use Rattle.asm_syntax.specs.declared.token.Token.{Token as TokenCode}
use Rattle.asm_syntax.specs.declared.token.Token.TheVariants.{Name, Number, Text, Comma, Colon, Open, Close, Plus, Minus}
use Rattle.asm_syntax.specs.declared.token.Head.{Head as HeadCode}
use Rattle.asm_syntax.specs.declared.token.Head.TheVariants.{Blank, Comment, Token as HeadToken, Nothing}

-- what the bytes between the `"` of a string stand for
abbrev pub unescaped : List ℕ → List ℕ
unescaped [] = []
unescaped (b ∷ []) = b ∷ []
unescaped (b ∷ c ∷ rest) = if is_backslash b then unwrap_or (escape_value c) c ∷ unescaped rest else b ∷ unescaped (c ∷ rest)

-- a token of the code as that of the definition
abbrev pub token_value : TokenCode → Token
token_value (Name w) = name w.now
token_value (Number w) = number (unwrap_or (number_value w.now) 0)
token_value (Text s) = text (unescaped s.now)
token_value Comma = comma
token_value Colon = colon
token_value Open = opening
token_value Close = closing
token_value Plus = plus
token_value Minus = minus

abbrev pub head_value : HeadCode → Head
head_value Blank = blank
head_value Comment = comment
head_value (HeadToken t len) = token (token_value t) len
head_value Nothing = nothing

-- a token has at least one byte, and at most those of its line
abbrev pub IsWithinLine : HeadCode → ℕ → Type 0
IsWithinLine (HeadToken t len) bytes = (0 < len) × (len ≤ bytes)
IsWithinLine _ bytes = Unit {0}

abbrev pub based_value : NumberAndBase → Based
based_value a = record { number = a.number; base = a.base.now }

abbrev pub address_value : AddressCode → Address
address_value a = record { offset = a.offset; base = a.base }

-- a register and an address
abbrev pub register_address_value : ℕ × AddressCode → ℕ × Address
register_address_value o = (o.0, address_value o.1)

-- two registers and an address
abbrev pub registers_address_value : ℕ × ℕ × AddressCode → ℕ × ℕ × Address
registers_address_value o = (o.0, o.1, address_value o.2)

-- the operands between commas
abbrev pub operand_values : List (Bor (List TokenCode)) → List (List Token)
operand_values operands = map (λ operand. map token_value operand.now) operands
