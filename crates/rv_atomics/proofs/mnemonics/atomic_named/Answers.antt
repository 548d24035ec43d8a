-- The mnemonics of the table are those of the rows with each order.
use Rattle.std.proofs.Common.{refl, ◌∙◌}
use Rattle.rv_atomics.specs.Mnemonics.{atomic_samples}
use Rattle.rv_atomics.specs.Rows.{atomic_encodings}
use Rattle.rv_atomics.proofs.Names.{atomic_named-table}
use Rattle.rv_atomics.proofs.mnemonics.atomic_named.Goals as goal

pub returns : goal.returns
unfolding atomic_samples atomic_encodings
returns c = c.named.ensures ∙ atomic_named-table _ refl c.args.mnemonic.now
