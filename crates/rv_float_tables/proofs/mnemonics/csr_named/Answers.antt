-- The CSR that is found in the table of names is the one of the definition.
use Rattle.rv_float_tables.specs.Mnemonics.{csr_names, csr_named}
use Rattle.rv_float_tables.proofs.mnemonics.csr_named.Goals as goal

pub returns : goal.returns
unfolding csr_names csr_named
returns c = c.named.ensures
