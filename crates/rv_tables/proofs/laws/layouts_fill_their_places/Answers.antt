-- The test of all layouts of the compressed rows computes to true.
use Rattle.std.proofs.Common.{refl}
use Rattle.rv_tables.specs.Compressed.{compressed_rows}
use Rattle.rv_tables.proofs.laws.layouts_fill_their_places.Goals as goal

pub returns : goal.returns
unfolding compressed_rows
returns c = refl
