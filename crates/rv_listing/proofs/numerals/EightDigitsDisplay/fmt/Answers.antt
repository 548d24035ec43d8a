-- A number padded with zeros to eight digits is the word in eight digits.
use Rattle.std.proofs.Common.{arith}
use Rattle.rv_listing.proofs.Hexadecimal.{padded_is_hexadecimal_in}
use Rattle.rv_listing.proofs.numerals.EightDigitsDisplay.fmt.Goals as goal

pub returns-clause-writes : goal.returns-clause-writes
returns-clause-writes g c = grind (arith, padded_is_hexadecimal_in)
