-- Numbers as the code reads them: exact up to a limit far above every range, and the limit beyond it.
use Rattle.std.specs.Prelude.{ℕ, ◌-◌, min, ℤ, pos, negsuc}
use Rattle.asm_syntax.specs.Operands.{Based, Target}

-- the number nearest to z from -limit to limit
abbrev pub clamped : ℕ → ℤ → ℤ
clamped limit (pos n) = pos (min n limit)
clamped limit (negsuc n) = negsuc (min n (limit - 1))

abbrev pub clamped_based : ℕ → Based → Based
clamped_based limit a = record a { number = clamped limit a.number }

abbrev pub clamped_target : ℕ → Target → Target
clamped_target limit t = record t { offset = clamped limit t.offset }
