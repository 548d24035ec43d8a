-- A pattern of a number has a number for its value.
use Rattle.rv_floats.proofs.Numbers.{number_of_pattern}
use Rattle.rv_floats.proofs.double.U64Pattern.is_number_negative.Goals as goal
use lib.Ieee.{binary64}

pub is_sign_negative-requires : goal.is_sign_negative-requires
is_sign_negative-requires c = number_of_pattern binary64 c.args.self c.requires
