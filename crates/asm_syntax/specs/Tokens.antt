-- The tokens of a line (own language): names, numbers, strings and signs; blanks part them, and `#` outside a string
-- begins a comment.
use Rattle.std.specs.Prelude.{ℕ, zero, suc, ◌+◌, ◌-◌, ◌==◌, if◌then◌else◌, List, [], ◌∷◌, Option, Some, None}
use Rattle.std.specs.List.{take_while, prefix_len}
use Rattle.std.specs.Option.{option_map, option_map_or, option_and_then}
use Rattle.std.specs.Char.{is_ascii_digit}
use Rattle.numerals.specs.Numbers.{number_value}
use Rattle.asm_syntax.specs.Bytes.{is_blank, is_hash, is_quote, is_backslash, is_word_byte, is_plain, escape_value}

-- a token
pub data Token : Type 0 where
  -- its bytes
  name : List ℕ → Token
  -- its value
  number : ℕ → Token
  -- its bytes, with each escape replaced by what it stands for
  text : List ℕ → Token
  comma : Token
  colon : Token
  -- `(` and `)`
  opening : Token
  closing : Token
  plus : Token
  minus : Token

-- the token of a word that begins with a byte: a number where that is a digit, else a name
abbrev pub word_token : ℕ → List ℕ → Option Token
word_token first rest = if is_ascii_digit first then option_map number (number_value (first ∷ rest)) else Some (name (first ∷ rest))

-- the token of a byte that is a sign
abbrev pub sign_token : ℕ → Option Token
sign_token b =
    if b == 44 then Some comma else
    (if b == 58 then Some colon else
    (if b == 40 then Some opening else
    (if b == 41 then Some closing else
    (if b == 43 then Some plus else
    (if b == 45 then Some minus else None)))))

-- a string behind its first `"`: what it stands for, and how many bytes spell it, the `"` at its end among them
pub record Text : Type 0 where
  pub content : List ℕ
  pub len : ℕ

-- the string that ends at once
abbrev pub text_end : Text
text_end = record { content = []; len = 1 }

-- a string that begins with `len` bytes which stand for one byte, by that byte and by what is left of it
abbrev pub with_value : ℕ → Option ℕ → Option Text → Option Text
with_value len value rest =
    option_and_then (λ v. option_map (λ t. record { content = v ∷ t.content; len = t.len + len }) rest) value

-- the string that a line's bytes begin with, behind its first `"`: it goes on to the next `"`; in it a `\` and the byte
-- behind it are an escape, and any other byte stands for itself. None where it has no end, or a byte or an escape that
-- strings do not have
abbrev pub text_from : List ℕ → Option Text
text_from [] = None
text_from (b ∷ []) = if is_quote b then Some text_end else None
text_from (b ∷ c ∷ rest) =
    if is_quote b then Some text_end else
    (if is_backslash b then with_value 2 (escape_value c) (text_from rest) else
    with_value 1 (if is_plain b then Some b else None) (text_from (c ∷ rest)))

-- what a line begins with
pub data Head : Type 0 where
  blank : Head
  comment : Head
  -- a token, and how many bytes spell it
  token : Token → ℕ → Head
  -- none of these
  nothing : Head

-- what a line begins with whose first byte is `b`. A word is as long as it can be
abbrev pub head_of : ℕ → List ℕ → Head
head_of b rest =
    if is_blank b then blank else
    (if is_hash b then comment else
    (if is_word_byte b then option_map_or (λ t. token t (prefix_len is_word_byte rest + 1)) (word_token b (take_while is_word_byte rest))
    nothing else
    (if is_quote b then option_map_or (λ t. token (text t.content) (t.len + 1)) (text_from rest) nothing else
    option_map_or (λ t. token t 1) (sign_token b) nothing)))

-- how many bytes behind its first belong to what a line begins with
abbrev pub bytes_behind : Head → ℕ
bytes_behind (token t len) = len - 1
bytes_behind _ = 0

-- the tokens of a line that begins with `head`, by those of what is left behind it
abbrev pub tokens_with : Head → Option (List Token) → Option (List Token)
tokens_with blank rest = rest
tokens_with comment rest = Some []
tokens_with (token t len) rest = option_map (λ ts. t ∷ ts) rest
tokens_with nothing rest = None

-- the tokens of a line behind its first `skipped` bytes
abbrev pub tokens_behind : ℕ → List ℕ → Option (List Token)
tokens_behind skipped [] = Some []
tokens_behind (suc skipped) (b ∷ rest) = tokens_behind skipped rest
tokens_behind zero (b ∷ rest) = tokens_with (head_of b rest) (tokens_behind (bytes_behind (head_of b rest)) rest)

-- the tokens of a line; no list of them where some byte of it belongs to none
unfoldable pub tokens_of : List ℕ → Option (List Token)
tokens_of line = tokens_behind 0 line
