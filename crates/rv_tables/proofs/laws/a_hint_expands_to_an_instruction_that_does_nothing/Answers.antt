-- The expansion of a hint, if it has one, does nothing: the lemma `IfSome-hint`.
use Rattle.rv_tables.proofs.CompressedHints.{IfSome-hint}
use Rattle.rv_tables.proofs.laws.a_hint_expands_to_an_instruction_that_does_nothing.Goals as goal

pub returns : goal.returns
returns c h x = IfSome-hint h x
