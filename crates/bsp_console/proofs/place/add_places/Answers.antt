-- A node's line is that of its state.
use Rattle.std.proofs.Common.{◌≡◌, ◌∙◌, List, [], ◌∷◌, ◌++◌, string_bytes, ap, refl}
use Rattle.std.specs.Prelude.{map}
use Rattle.std.specs.List.{flat_map}
use Rattle.std.proofs.lemmas.Result.{IfOk-weaker}
use Rattle.node_core.specs.Node.{PreparedNode}
use Rattle.machine_core.specs.Machine.{MachineState}
use Rattle.bsp_console.specs.Talk.{place_line}
use Rattle.bsp_console.proofs.place.add_places.Goals as goal

lines_of_states : (m : MachineState) (ns : List PreparedNode)
    → flat_map (λ (p : PreparedNode). place_line m p.node) ns ≡ flat_map (place_line m) (map (λ (p : PreparedNode). p.node) ns)
lines_of_states m [] = refl
lines_of_states m (n ∷ ns) = ap (λ bs. place_line m n.node ++ bs) (lines_of_states m ns)

pub returns : goal.returns
returns g c =
    IfOk-weaker c.add_each_place.result _ _
    (λ u written. written ∙ ap (λ bs. string_bytes c.args.text.now ++ bs) (lines_of_states c.args.machine.now c.args.nodes.now))
    c.add_each_place.ensures
