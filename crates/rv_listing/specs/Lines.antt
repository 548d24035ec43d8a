-- How far an iterator over the lines of some bytes has come.
use Rattle.std.specs.Prelude.{ℕ, ◌+◌, ◌-◌, ◌^◌, ◌≤◌, Bool, if◌then◌else◌, List, length, Option, None}
use Rattle.rv_tables.specs.declared.code.Code.{Code}
use Rattle.rv_tables.specs.Codes.{code_at}
use Rattle.rv_listing.specs.declared.lines.Line.{Line}
use Rattle.rv_listing.specs.Listing.{byte_lines, lines_from}

-- the bytes lie within the addresses of 32 bits, and those before `at` have had their lines
pub record IsPlace (addr : ℕ) (bytes : List ℕ) (at : ℕ) : Type 0 where
  pub in_addresses : addr + length bytes ≤ 2 ^ 32
  pub within : at ≤ length bytes

-- the code that has the next line, if one has: `is_rest` says that the bytes from `at` on are what no whole code was left of
abbrev pub next_code : List ℕ → ℕ → Bool → Option Code
next_code bytes at is_rest = if is_rest then None else code_at bytes at

-- the lines that are left
abbrev pub lines_left : ℕ → List ℕ → ℕ → Bool → List Line
lines_left addr bytes at is_rest =
    if is_rest then byte_lines addr bytes at else lines_from (length bytes - at) addr bytes at
