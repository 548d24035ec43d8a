-- A transfer that keeps to its area lies in the memory of the area's node, since the node is sound.
use Rattle.std.proofs.Common.{◌≡◌, ◌+◌, ℕ, List, Option, Some, None, Bool, true, false, not, sym, ap, ◌∙◌, arith}
use Rattle.std.specs.Prelude.{nat_le}
use Rattle.std.specs.Option.{option_map_or}
use Rattle.bsp_slots.specs.declared.area.Area.{Area}
use Rattle.node_core.specs.Node.{NodeState}
use Rattle.bsp_exchange.specs.Areas.{area_at}
use Rattle.bsp_exchange.specs.Exchange.{states}
use Rattle.bsp_exchange.specs.Faults.{is_outside}
use Rattle.bsp_exchange.proofs.Transfers.{transfer_most, transfer_range, node_there, start_at}
use Rattle.bsp_exchange.proofs.gather.start_inside.Goals as goal

-- an area that there is, and none
of_area : (nodes : List NodeState) (rank slot offset len : ℕ) (area : Area) (test outside : Bool) → area_at nodes rank slot ≡ Some area
    → test ≡ not (nat_le (offset + len) area.size) → test ≡ outside
    → is_outside nodes rank slot offset len ≡ outside
of_area nodes rank slot offset len area test outside found is same =
    ap (λ (o : Option Area). not (option_map_or (λ (a : Area). nat_le (offset + len) a.size) o false)) found ∙ sym is ∙ same

of_none : (nodes : List NodeState) (rank slot offset len : ℕ) → area_at nodes rank slot ≡ None
    → is_outside nodes rank slot offset len ≡ true
of_none nodes rank slot offset len found =
    ap (λ (o : Option Area). not (option_map_or (λ (a : Area). nat_le (offset + len) a.size) o false)) found

pub bounds-nodes-target : goal.bounds-nodes-target
bounds-nodes-target g c =
    node_there c.args.nodes.now c.args.target c.args.slot c.args.offset c.args.len
    (of_area (states c.args.nodes.now) c.args.target c.args.slot c.args.offset c.args.len c.in-Some.area _ false
    (sym c.area_at.ensures ∙ c.in-Some.is) c.ends_past.ensures c.if-ends_past.false)

pub offset_bounds-nodes-target : goal.offset_bounds-nodes-target
offset_bounds-nodes-target g c =
    let there = node_there c.args.nodes.now c.args.target c.args.slot c.args.offset c.args.len
    (of_area (states c.args.nodes.now) c.args.target c.args.slot c.args.offset c.args.len c.in-Some.area _ false
    (sym c.area_at.ensures ∙ c.in-Some.is) c.ends_past.ensures c.if-ends_past.false) in
    omega (arith, there)

pub overflow_add-result : goal.overflow_add-result
overflow_add-result g c =
    let found = sym c.area_at.ensures ∙ c.in-Some.is in
    let inside =
    of_area (states c.args.nodes.now) c.args.target c.args.slot c.args.offset c.args.len c.in-Some.area _ false found
    c.ends_past.ensures c.if-ends_past.false in
    let there = node_there c.args.nodes.now c.args.target c.args.slot c.args.offset c.args.len inside in
    omega (
      arith,
      transfer_most c.args.nodes.now c.args.target c.args.slot c.args.offset c.args.len c.in-Some.area
          c.index-nodes-target.result there c.index-nodes-target.is c.recall_sound.ensures found inside,
    )

pub returns-in_default-clause-inside : goal.returns-in_default-clause-inside
returns-in_default-clause-inside g c =
    sym (of_none (states c.args.nodes.now) c.args.target c.args.slot c.args.offset c.args.len (sym c.area_at.ensures ∙ c.in_default.is))

pub returns-then-ends_past-clause-inside : goal.returns-then-ends_past-clause-inside
returns-then-ends_past-clause-inside g c =
    sym (of_area (states c.args.nodes.now) c.args.target c.args.slot c.args.offset c.args.len c.in-Some.area _ true
    (sym c.area_at.ensures ∙ c.in-Some.is) c.ends_past.ensures c.if-ends_past.true)

pub returns : goal.returns
returns g c =
    let found = sym c.area_at.ensures ∙ c.in-Some.is in
    let inside =
    of_area (states c.args.nodes.now) c.args.target c.args.slot c.args.offset c.args.len c.in-Some.area _ false found
    c.ends_past.ensures c.if-ends_past.false in
    let there = node_there c.args.nodes.now c.args.target c.args.slot c.args.offset c.args.len inside in
    record {
      inside = sym inside;
      value = start_at c.args.nodes.now c.args.target c.args.slot c.args.offset c.in-Some.area found;
      within =
          transfer_range c.args.nodes.now c.args.target c.args.slot c.args.offset c.args.len c.in-Some.area c.index-nodes-target.result
          there c.index-nodes-target.is c.recall_sound.ensures found inside;
      most =
          transfer_most c.args.nodes.now c.args.target c.args.slot c.args.offset c.args.len c.in-Some.area c.index-nodes-target.result there
          c.index-nodes-target.is c.recall_sound.ensures found inside;
    }
