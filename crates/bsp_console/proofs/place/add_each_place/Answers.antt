-- Each node adds its line.
use Rattle.std.proofs.Common.{◌≡◌, ◌∙◌, ℕ, ◌+◌, ◌<◌, List, ◌∷◌, ◌++◌, get_or, drop, length, string_bytes, append_assoc, append-nil, ap, sym}
use Rattle.std.specs.List.{flat_map}
use Rattle.std.proofs.lemmas.List.{drop_all, drop_more}
use Rattle.node_core.specs.Node.{PreparedNode}
use Rattle.machine_core.specs.Machine.{MachineState}
use Rattle.bsp_console.specs.Talk.{place_line}
use Rattle.bsp_console.proofs.place.add_each_place.Goals as goal

abbrev lines : MachineState → List PreparedNode → List ℕ
lines m nodes = flat_map (λ (p : PreparedNode). place_line m p.node) nodes

more : (m : MachineState) (nodes : List PreparedNode) (k : ℕ) (n : PreparedNode) (before after whole : List ℕ) → k < length nodes
    → n ≡ get_or nodes k n
    → after ≡ before ++ place_line m n.node → before ++ lines m (drop k nodes) ≡ whole → after ++ lines m (drop (k + 1) nodes) ≡ whole
more m nodes k n before after whole within is written so_far =
    let cut : drop k nodes ≡ n ∷ drop (k + 1) nodes = drop_more nodes k n within ∙ ap (λ p. p ∷ drop (k + 1) nodes) (sym is) in
    ap (λ bs. bs ++ lines m (drop (k + 1) nodes)) written ∙ append_assoc before (place_line m n.node) (lines m (drop (k + 1) nodes))
    ∙ ap (λ ns. before ++ lines m ns) (sym cut) ∙ so_far

pub loop-node-preserved : goal.loop-node-preserved
loop-node-preserved g c =
    more c.args.machine.now c.args.nodes.now c.loop-node.node-index c.node-item.result (string_bytes c.loop-node.text)
    (string_bytes c.add_place_of.new.text) _
    c.loop-node-test.true c.node-item.is (c.in_ok-add_place_of.ensures {u = tt}) c.loop-node.invariant

pub returns : goal.returns
returns g c =
    sym (ap (λ ns. string_bytes c.loop-node.text ++ lines c.args.machine.now ns)
    (drop_all c.loop-node.node-index c.args.nodes.now c.loop-node-test.false)
    ∙ append-nil (string_bytes c.loop-node.text))
    ∙ c.loop-node.invariant
