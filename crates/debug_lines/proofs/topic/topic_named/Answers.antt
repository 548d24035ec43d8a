-- The first topic of the table that has the name is that of the definition.
use Rattle.std.proofs.Common.{◌≡◌, ℕ, List, Option, Some, None, Bor, refl, ◌∙◌, ap, rules, tests}
use Rattle.std.specs.List.{find}
use Rattle.std.specs.Option.{option_map, option_copied}
use Rattle.std.specs.Str.{bytes_eq}
use Rattle.std.proofs.lemmas.Iterator.{YieldsList-from_slice}
use Rattle.std.proofs.lemmas.Iterator.Search.{find_from_yields_List}
use Rattle.debug_lines.specs.declared.topic.Topic.{Topic}
use Rattle.debug_lines.specs.Topics.{topic_name, topic_named, topics}
use Rattle.debug_lines.proofs.topic.topic_named.Goals as goal

copied_now : (o : Option (Bor Topic)) → option_copied o ≡ option_map (λ x. x.now) o
copied_now None = refl
copied_now (Some t) = refl

named : (name : List ℕ) (r : Option Topic) (table : List Topic) → table ≡ topics → r ≡ find (λ t. bytes_eq (topic_name t) name) table
    → r ≡ topic_named name
unfolding topic_named
named name r table is found = found ∙ ap (find (λ t. bytes_eq (topic_name t) name)) is

pub returns : goal.returns
returns c =
    let name = c.args.word.now in
    let found = find_from_yields_List (λ t. bytes_eq (topic_name t) name) _ _ c.find.result c.find.ensures.ran
    (YieldsList-from_slice _ refl) (λ x b q k. search (rules, tests)) in
    named name c.copied.result c.iter.result.rest.now (c.iter.ensures.rest ∙ c.all_topics.ensures)
    (c.copied.ensures ∙ (copied_now c.find.result ∙ found))
