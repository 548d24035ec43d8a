-- The names of the code are those of the rows, in their order.
use Rattle.std.proofs.Common.{refl, ◌∙◌}
use Rattle.rv_tables.specs.Rows.{encodings}
use Rattle.rv_tables.proofs.RowNames.{instruction_named-table}
use Rattle.rv_tables.proofs.mnemonics.instr_named.Goals as goal

pub returns : goal.returns
unfolding encodings
returns c = c.named.ensures ∙ instruction_named-table _ refl c.args.name.now
