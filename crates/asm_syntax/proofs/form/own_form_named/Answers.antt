-- The mnemonics of the table are those of the rules, in the order of the definition.
use Rattle.std.proofs.Common.{refl, ◌∙◌}
use Rattle.asm_syntax.specs.Forms.{own_forms}
use Rattle.asm_syntax.proofs.FormNames.{own_form_named-table}
use Rattle.asm_syntax.proofs.form.own_form_named.Goals as goal

pub returns : goal.returns
unfolding own_forms
returns c = c.named.ensures ∙ own_form_named-table _ refl c.args.mnemonic.now
