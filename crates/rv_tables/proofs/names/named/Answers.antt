-- The first entry of the table that passes is the first pair of the definition that does.
use Rattle.std.proofs.Common.{◌≡◌, map, refl, ◌∙◌, ap, rules, tests}
use Rattle.std.specs.Option.{option_map}
use Rattle.std.specs.Str.{bytes_eq}
use Rattle.std.proofs.lemmas.Iterator.{YieldsList-from_slice}
use Rattle.std.proofs.lemmas.Iterator.Search.{find_from_yields_List}
use Rattle.rv_tables.proofs.NameTables.{entry, value_of_found}
use Rattle.rv_tables.proofs.names.named.Goals as goal

pub returns : goal.returns
returns g c =
    let name = c.args.name.now in
    let found =
    find_from_yields_List (λ p. bytes_eq p.0.now name) _ _ c.find.result c.find.ensures.ran (YieldsList-from_slice _ refl)
    (λ x b q k. search (rules, tests)) in
    let value : c.map.result ≡ option_map (λ x. x.now.1) c.find.result = search rules in
    value ∙ value_of_found name c.iter.result.rest.now _ c.find.result (ap (map entry) c.iter.ensures.rest) found
