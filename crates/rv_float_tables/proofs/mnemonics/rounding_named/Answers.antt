-- The rounding mode that is found in the table of names is the one of the definition.
use Rattle.rv_float_tables.specs.Mnemonics.{rounding_names, rounding_named}
use Rattle.rv_float_tables.proofs.mnemonics.rounding_named.Goals as goal

pub returns : goal.returns
unfolding rounding_names rounding_named
returns c = c.named.ensures
