-- The first entry of the table that has the mnemonic is that of the definition.
use Rattle.std.proofs.Common.{◌≡◌, ℕ, List, Option, Some, None, Bor, refl, ◌∙◌, ap, rules, tests}
use Rattle.std.specs.List.{find}
use Rattle.std.specs.Option.{option_map, option_copied}
use Rattle.std.specs.Str.{bytes_eq}
use Rattle.std.proofs.lemmas.Iterator.{YieldsList-from_slice}
use Rattle.std.proofs.lemmas.Iterator.Search.{find_from_yields_List}
use Rattle.rv_float_tables.specs.Rows.{float_encodings}
use Rattle.asm_syntax.specs.declared.float_form.FloatForm.{FloatForm}
use Rattle.asm_syntax.specs.FloatForms.{float_mnemonic, float_form_named, float_forms, own_float_forms}
use Rattle.asm_syntax.proofs.float_form.float_form_named.Goals as goal

copied_now : (o : Option (Bor FloatForm)) → option_copied o ≡ option_map (λ x. x.now) o
copied_now None = refl
copied_now (Some f) = refl

named : (name : List ℕ) (r : Option FloatForm) (table : List FloatForm) → table ≡ float_forms
    → r ≡ find (λ f. bytes_eq (float_mnemonic f) name) table → r ≡ float_form_named name
unfolding float_form_named
named name r table is found = found ∙ ap (find (λ f. bytes_eq (float_mnemonic f) name)) is

table : (c : goal.After-copied) → c.iter.result.rest.now ≡ float_forms
unfolding float_forms own_float_forms float_encodings
table c = c.iter.ensures.rest

pub returns : goal.returns
returns c =
    let name = c.args.mnemonic.now in
    let found = find_from_yields_List (λ f. bytes_eq (float_mnemonic f) name) _ _ c.find.result c.find.ensures.ran
    (YieldsList-from_slice _ refl) (λ x b q k. search (rules, tests)) in
    named name c.copied.result c.iter.result.rest.now (table c) (c.copied.ensures ∙ (copied_now c.find.result ∙ found))
