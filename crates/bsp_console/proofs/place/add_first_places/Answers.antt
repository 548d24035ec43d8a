-- The first nodes are those of the lowest ranks, and the others are more.
use Rattle.std.proofs.Common.{◌≡◌, ◌∙◌, ℕ, ◌-◌, List, ◌++◌, take, length, min, map, string_bytes, append_assoc, ap, sym, arith}
use Rattle.std.specs.List.{flat_map}
use Rattle.std.proofs.lemmas.List.{length-map, length-take-le, take-map, take_min}
use Rattle.std.proofs.lemmas.Result.{IfOk-weaker}
use Rattle.node_core.specs.Node.{NodeState, PreparedNode}
use Rattle.machine_core.specs.Machine.{MachineState}
use Rattle.bsp_console.specs.Talk.{first_places, more_text, place_line}
use Rattle.bsp_console.proofs.place.add_first_places.Goals as goal

abbrev state : PreparedNode → NodeState
state p = p.node

all : (m : MachineState) (nodes : List PreparedNode) (told count : ℕ) (before placed whole : List ℕ) → map state nodes ≡ m.nodes
    → told ≡ min 16 (length nodes) → count ≡ length nodes - 16
    → placed ≡ before ++ flat_map (place_line m) (map state (take told nodes)) → whole ≡ placed ++ more_text count
    → whole ≡ before ++ first_places m
all m nodes told count before placed whole are few more first last =
    let firsts : map state (take told nodes) ≡ take 16 m.nodes =
    ap (λ n. map state (take n nodes)) few ∙ ap (map state) (take_min 16 nodes) ∙ sym (take-map state 16 nodes) ∙ ap (take 16) are in
    let others : count ≡ length m.nodes - 16 = more ∙ ap (λ n. n - 16) (sym (length-map nodes state) ∙ ap length are) in
    last ∙ ap (λ bs. bs ++ more_text count) (first ∙ ap (λ ns. before ++ flat_map (place_line m) ns) firsts)
    ∙ append_assoc before (flat_map (place_line m) (take 16 m.nodes)) (more_text count)
    ∙ ap (λ n. before ++ (flat_map (place_line m) (take 16 m.nodes) ++ more_text n)) others

pub slice_bounds-add_places-end : goal.slice_bounds-add_places-end
slice_bounds-add_places-end g c =
    sym (length-take-le c.min-told.result c.nodes-nodes.result.now (omega (arith, c.min-told.ensures)))

pub returns : goal.returns
returns g c =
    IfOk-weaker c.add_more.result _ _
    (λ u written. all c.args.machine.now c.nodes-nodes.result.now c.min-told.result c.saturating_sub.result (string_bytes c.args.text.now)
    (string_bytes c.add_places.new.text) _
    c.nodes-nodes.ensures c.min-told.ensures c.saturating_sub.ensures (c.in_ok-add_places.ensures {u = tt}) written) c.add_more.ensures
