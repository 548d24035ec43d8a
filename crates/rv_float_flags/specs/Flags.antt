-- The accrued exception flags (RISC-V Unprivileged ISA 20191213, section 11.2 "Floating-Point Control and Status Register").
use Rattle.std.specs.Prelude.{ℕ, ◌+◌, ◌*◌, ◌/◌, ◌%◌, ◌==◌, Bool, true, false, ◌&&◌, ◌||◌, if◌then◌else◌}
use Rattle.rv_float_flags.specs.declared.flags.Flags.{Flags}
use Rattle.rv_float_flags.specs.Exact.{Ratio, is_inexact, is_tiny, overflows}
use lib.Ieee.{Format}

abbrev pub no_flags : Flags
no_flags = record { nv = false; dz = false; of = false; uf = false; nx = false }

abbrev pub invalid : Flags
invalid = record { nv = true; dz = false; of = false; uf = false; nx = false }

abbrev pub divided_by_zero : Flags
divided_by_zero = record { nv = false; dz = true; of = false; uf = false; nx = false }

abbrev pub invalid_if : Bool → Flags
invalid_if b = if b then invalid else no_flags

abbrev pub inexact_if : Bool → Flags
inexact_if b = record { nv = false; dz = false; of = false; uf = false; nx = b }

abbrev pub overflow_if : Bool → Flags
overflow_if b = record { nv = false; dz = false; of = b; uf = false; nx = false }

-- the flags of rounding an exact result to the nearest (IEEE 754-2008, sections 7.4 to 7.6, with the default handling of exceptions)
abbrev pub rounding_flags : Format → Ratio → Flags
rounding_flags f r = record {
  nv = false;
  dz = false;
  of = overflows f r;
  uf = is_tiny f r && is_inexact f r;
  nx = is_inexact f r;
}

-- Accrued: what either has is there.
abbrev pub accrued : Flags → Flags → Flags
accrued a b = record { nv = a.nv || b.nv; dz = a.dz || b.dz; of = a.of || b.of; uf = a.uf || b.uf; nx = a.nx || b.nx }

-- the five bits of fflags (figure 11.2): NX is bit 0, and UF, OF, DZ and NV stand above it in this order
abbrev pub bit_of : Bool → ℕ
bit_of b = if b then 1 else 0

abbrev pub flag_bits : Flags → ℕ
flag_bits a = bit_of a.nx + 2 * bit_of a.uf + 4 * bit_of a.of + 8 * bit_of a.dz + 16 * bit_of a.nv

-- the flags of a word's five lowest bits
abbrev pub flags_of_bits : ℕ → Flags
flags_of_bits w = record {
  nv = w / 16 % 2 == 1;
  dz = w / 8 % 2 == 1;
  of = w / 4 % 2 == 1;
  uf = w / 2 % 2 == 1;
  nx = w % 2 == 1;
}
