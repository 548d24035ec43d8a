-- The bytes of a line by their kinds (own language). Codes are ASCII's.
use Rattle.std.specs.Prelude.{ℕ, Bool, ◌==◌, ◌||◌, if◌then◌else◌, Option, Some, None}
use Rattle.std.specs.Char.{is_ascii_alphanumeric}
use Rattle.std.specs.Int.{is_in_range}

-- a line feed
abbrev pub is_line_feed : ℕ → Bool
is_line_feed b = b == 10

-- a carriage return
abbrev pub is_carriage_return : ℕ → Bool
is_carriage_return b = b == 13

-- a space or a tab
abbrev pub is_blank : ℕ → Bool
is_blank b = (b == 32) || (b == 9)

-- `#`, which begins a comment
abbrev pub is_hash : ℕ → Bool
is_hash b = b == 35

-- `"`, which begins and ends a string
abbrev pub is_quote : ℕ → Bool
is_quote b = b == 34

-- `\`, which begins an escape in a string
abbrev pub is_backslash : ℕ → Bool
is_backslash b = b == 92

-- a byte of names and numbers: a letter, a digit, `_` or `.`
abbrev pub is_word_byte : ℕ → Bool
is_word_byte b = (is_ascii_alphanumeric b || (b == 95)) || (b == 46)

-- a byte that may stand in a string, from the space to `~`
abbrev pub is_plain : ℕ → Bool
is_plain b = is_in_range 0x20 0x7E b

-- what an escape stands for, by the byte behind the `\`: `\n` is 10, `\t` 9, `\0` 0, `\\` and `\"` these bytes themselves
abbrev pub escape_value : ℕ → Option ℕ
escape_value b =
    if b == 110 then Some 10 else
    (if b == 116 then Some 9 else
    (if b == 48 then Some 0 else
    (if b == 92 then Some 92 else
    (if b == 34 then Some 34 else None))))
