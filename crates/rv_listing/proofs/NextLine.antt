-- The first of the lines that are left.
use Rattle.std.proofs.Common.{◌≡◌, ℕ, zero, suc, ◌+◌, ◌-◌, ◌<◌, ◌≤◌, Bool, true, false, List, [], ◌∷◌, Option, Some, None, length, map}
use Rattle.std.proofs.Common.{refl, ap, ◌∙◌, arith}
use Rattle.std.proofs.lemmas.Bool.Decides.{nat_tests}
use Rattle.std.specs.List.{range_with_len}
use Rattle.std.specs.Option.{option_map_or}
use Rattle.rv_tables.specs.declared.code.Code.{Code}
use Rattle.rv_tables.specs.declared.code.Code.TheVariants.{Half, Word}
use Rattle.rv_tables.specs.Codes.{code_at, length_of}
use Rattle.rv_listing.specs.declared.lines.Line.{Line}
use Rattle.rv_listing.specs.declared.lines.Line.TheVariants.{Code as CodeLine}
use Rattle.rv_listing.specs.Lines.{next_code as code_left, lines_left}
use Rattle.rv_listing.specs.Listing.{lines_from, byte_line, byte_lines}

code-some : (code : Code) → 2 ≤ length_of code
code-some (Half half) = omega arith
code-some (Word word) = omega arith

none_at_end : (bytes : List ℕ) (at : ℕ) → length bytes ≤ at → code_at bytes at ≡ None
none_at_end bytes at end = grind (arith, nat_tests)

code_at-within : (bytes : List ℕ) (at : ℕ) (code : Code) → code_at bytes at ≡ Some code → at + length_of code ≤ length bytes
code_at-within bytes at (Half half) is = grind (arith, nat_tests)
code_at-within bytes at (Word word) is = grind (arith, nat_tests)

each : (f g : Code → List Line) (d : List Line) (o : Option Code) → ((code : Code) → f code ≡ g code)
    → option_map_or f o d ≡ option_map_or g o d
each f g d None same = refl
each f g d (Some code) same = same code

-- how many codes there may be does not matter, where it is as many as there are bytes
enough : (addr : ℕ) (bytes : List ℕ) (n m at : ℕ) → length bytes ≤ n + at → length bytes ≤ m + at
    → lines_from n addr bytes at ≡ lines_from m addr bytes at
enough addr bytes zero zero at few few' = refl
enough addr bytes zero (suc m) at few few' = rw (none_at_end bytes at (omega arith)) refl
enough addr bytes (suc n) zero at few few' = rw (none_at_end bytes at (omega arith)) refl
enough addr bytes (suc n) (suc m) at few few' =
    each _ _ _ (code_at bytes at) (λ code.
    let some = code-some code in
    ap (λ lines. CodeLine (addr + at) code ∷ lines) (enough addr bytes n m (at + length_of code) (omega arith) (omega arith)))

lines-from_bytes : (addr : ℕ) (bytes : List ℕ) (at : ℕ)
    → lines_from (length bytes - at) addr bytes at ≡ lines_from (suc (length bytes - at)) addr bytes at
lines-from_bytes addr bytes at = enough addr bytes (length bytes - at) (suc (length bytes - at)) at (omega arith) (omega arith)

-- a code has a line
pub next_code : (addr : ℕ) (bytes : List ℕ) (at : ℕ) (is_rest : Bool) (code : Code) → code_left bytes at is_rest ≡ Some code
    → lines_left addr bytes at is_rest ≡ CodeLine (addr + at) code ∷ lines_left addr bytes (at + length_of code) is_rest
next_code addr bytes at true code is = absurd (cc)
next_code addr bytes at false code is =
    let within = code_at-within bytes at code is in
    let rest =
    enough addr bytes (length bytes - at) (length bytes - (at + length_of code)) (at + length_of code) (omega arith) (omega arith) in
    lines-from_bytes addr bytes at ∙ rw is (ap (λ lines. CodeLine (addr + at) code ∷ lines) rest)

pub code_left-within : (bytes : List ℕ) (at : ℕ) (is_rest : Bool) (code : Code) → code_left bytes at is_rest ≡ Some code
    → at + length_of code ≤ length bytes
code_left-within bytes at true code is = absurd (cc)
code_left-within bytes at false code is = code_at-within bytes at code is

-- without a whole code, what is left are bytes
rest_lines : (addr : ℕ) (bytes : List ℕ) (at : ℕ) (is_rest : Bool) → code_left bytes at is_rest ≡ None
    → lines_left addr bytes at is_rest ≡ byte_lines addr bytes at
rest_lines addr bytes at true none = refl
rest_lines addr bytes at false none = lines-from_bytes addr bytes at ∙ rw none refl

pub next_byte : (addr : ℕ) (bytes : List ℕ) (at : ℕ) (is_rest : Bool) → code_left bytes at is_rest ≡ None → at < length bytes
    → lines_left addr bytes at is_rest ≡ byte_line addr bytes at ∷ lines_left addr bytes (at + 1) true
next_byte addr bytes at is_rest none more =
    let split : length bytes - at ≡ suc (length bytes - (at + 1)) = omega arith in
    rest_lines addr bytes at is_rest none ∙ ap (λ n. map (byte_line addr bytes) (range_with_len at n)) split

-- and none where no byte is left
pub no_line : (addr : ℕ) (bytes : List ℕ) (at : ℕ) (is_rest : Bool) → code_left bytes at is_rest ≡ None → length bytes ≤ at
    → lines_left addr bytes at is_rest ≡ []
no_line addr bytes at is_rest none end =
    let zero_left : length bytes - at ≡ 0 = omega arith in
    rest_lines addr bytes at is_rest none ∙ ap (λ n. map (byte_line addr bytes) (range_with_len at n)) zero_left
