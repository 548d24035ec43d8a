-- The canonical NaN (RISC-V Unprivileged ISA 20191213, section 11.3 "NaN Generation and Propagation"): a plus, and of the digits the first
-- alone.
use Rattle.std.specs.Prelude.{ℕ}
use lib.Ieee.{Format, binary32, binary64}

abbrev pub canonical_nan : Format → ℕ
canonical_nan binary32 = 0x7fc0_0000
canonical_nan binary64 = 0x7ff8_0000_0000_0000
