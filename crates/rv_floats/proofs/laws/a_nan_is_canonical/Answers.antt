-- In both formats the pattern of the library's NaN is the canonical one.
use Rattle.std.proofs.Common.{refl}
use Rattle.rv_floats.proofs.laws.a_nan_is_canonical.Goals as goal
use lib.Ieee.{binary32, binary64, to_bits}

pub returns : goal.returns
unfolding to_bits
returns c binary32 = refl
returns c binary64 = refl
