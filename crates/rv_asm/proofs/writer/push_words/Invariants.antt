-- The words of the targets before this one are written, and none of these targets lacks its label.
use Rattle.std.proofs.Common.{◌≡◌, ◌++◌, false, take, map}
use Rattle.std.specs.List.{flat_map}
use Rattle.asm_syntax.specs.Statements.{words}
use Rattle.asm_syntax.specs.Views.{target_value}
use Rattle.rv_asm.specs.Labels.{symbols}
use Rattle.rv_asm.specs.Layout.{word_bytes}
use Rattle.rv_asm.specs.Targets.{uses_undefined}
use Rattle.rv_asm.proofs.writer.push_words.Given as goal

abbrev pub invariant-loop-target : goal.invariant-loop-target
invariant-loop-target g l = record {
  written : l.bytes.items ≡ l.initial.bytes.items ++ flat_map (word_bytes (symbols l.labels))
      (map target_value (take l.target-index l.targets));
  defined : uses_undefined (symbols l.labels) (words (map target_value (take l.target-index l.targets))) ≡ false;
}
