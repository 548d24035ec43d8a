-- A pattern of a number has a number for its value.
use Rattle.rv_floats.proofs.Numbers.{number_of_pattern}
use Rattle.rv_floats.proofs.single.U32Pattern.is_number_negative.Goals as goal
use lib.Ieee.{binary32}

pub is_sign_negative-requires : goal.is_sign_negative-requires
is_sign_negative-requires c = number_of_pattern binary32 c.args.self c.requires
