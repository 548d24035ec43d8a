-- The line's parts, one after another.
use Rattle.std.proofs.Common.{◌≡◌, List, ℕ, ◌++◌, append_assoc, map, string_bytes, ap, ◌∙◌}
use Rattle.std.specs.Prelude.{codes}
use Rattle.std.specs.Fmt.{decimal}
use Rattle.std.specs.List.{flat_map}
use Rattle.std.proofs.lemmas.Result.{IfOk-weaker}
use Rattle.node_core.specs.Node.{PreparedNode}
use Rattle.debug_lines.specs.Kept.{group_text, groups_of}
use Rattle.debug_lines.proofs.kept.add_kept.Goals as goal

joined : (kept number word superstep groups end before one two three : List ℕ)
    → one ≡ before ++ (kept ++ (number ++ (word ++ superstep))) → two ≡ one ++ groups → three ≡ two ++ end
    → three ≡ before ++ (kept ++ number ++ word ++ superstep ++ groups ++ end)
joined kept number word superstep groups end before one two three first second third =
    let all : three ≡ ((before ++ (kept ++ (number ++ (word ++ superstep)))) ++ groups) ++ end =
    third ∙ ap (λ bs. bs ++ end) second ∙ ap (λ bs. (bs ++ groups) ++ end) first in
    let parts : ((before ++ (kept ++ (number ++ (word ++ superstep)))) ++ groups) ++ end
    ≡ before ++ (kept ++ number ++ word ++ superstep ++ groups ++ end) =
    simp append_assoc in
    all ∙ parts

pub returns : goal.returns
returns g c =
    IfOk-weaker c.writeln.result _ _
    (λ u written. joined (codes "kept ") (decimal c.args.number) (codes " superstep ") (decimal c.args.superstep)
    (flat_map group_text (groups_of (map (λ (p : PreparedNode). p.node) c.args.nodes.now))) (codes "\n") (string_bytes c.args.text.now) _ _
    _
    c.in_ok-write.ensures.bytes (c.in_ok-add_groups.ensures {u = tt}) written) c.writeln.ensures.bytes
