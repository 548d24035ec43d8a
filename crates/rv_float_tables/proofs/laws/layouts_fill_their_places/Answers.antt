-- Each layout has as many bits of the immediate as of the halfword, which is computed row by row.
use Rattle.std.proofs.Common.{refl}
use Rattle.rv_float_tables.specs.Compressed.{float_compressed_rows}
use Rattle.rv_float_tables.proofs.laws.layouts_fill_their_places.Goals as goal

pub returns : goal.returns
unfolding float_compressed_rows
returns c = refl
