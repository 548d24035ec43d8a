-- With no byte passed, the lines that are left are all lines of the bytes, as the unfolded definition has them.
use Rattle.std.proofs.Common.{rules}
use Rattle.rv_listing.specs.Listing.{listing_lines}
use Rattle.rv_listing.proofs.lines.Lines.new.Goals as goal

pub returns : goal.returns
unfolding listing_lines
returns g c = search rules
