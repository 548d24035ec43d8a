-- The text and the topics that are left make all of the help; each pass adds that of the next topic.
use Rattle.std.proofs.Common.{refl, ap, ◌∙◌}
use Rattle.std.proofs.lemmas.List.{drop_all, drop_more}
use Rattle.std.specs.List.{flat_map}
use Rattle.debug_lines.specs.Help.{help_on}
use Rattle.debug_lines.proofs.Rows.{none-left, one-more}
use Rattle.debug_lines.proofs.help.help_text.Goals as goal

pub loop-topic-init : goal.loop-topic-init
loop-topic-init g c = rw c.new-text.ensures.bytes refl

pub loop-topic-preserved : goal.loop-topic-preserved
loop-topic-preserved g c =
    one-more (help_on c.args.audience) _ _ _ _ _ _ (drop_more _ _ _ c.loop-topic-test.true) (c.in_ok-add_help.ensures {u = tt})
    c.loop-topic.invariant

pub returns : goal.returns
returns g c =
    none-left (help_on c.args.audience) _ _ _ (drop_all _ _ c.loop-topic-test.false) c.loop-topic.invariant
    ∙ ap (flat_map (help_on c.args.audience)) c.all_topics-topics.ensures
