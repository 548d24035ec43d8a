-- The text and the topics that are left make all that is told.
use Rattle.std.proofs.Common.{◌≡◌, ◌++◌, drop, string_bytes}
use Rattle.std.specs.List.{flat_map}
use Rattle.debug_lines.specs.Help.{help_on}
use Rattle.debug_lines.proofs.help.help_text.Given as goal

abbrev pub invariant-loop-topic : goal.invariant-loop-topic
invariant-loop-topic g l =
    string_bytes l.text ++ flat_map (help_on l.audience) (drop l.topic-index l.topics) ≡ flat_map (help_on l.audience) l.topics
