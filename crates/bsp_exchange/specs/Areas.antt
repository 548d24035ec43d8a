-- The areas that puts and gets name (BSPlib, Hill and others 1998: a registration stands for the areas that all processes registered
-- with it, each at an address of its own).
use Rattle.std.specs.Prelude.{ℕ, List, slice_get, Option, option_and_then}
use Rattle.bsp_slots.specs.declared.area.Area.{Area}
use Rattle.node_core.specs.Node.{NodeState}

-- the area at a place of the list in effect of a rank's node
abbrev pub area_at : List NodeState → ℕ → ℕ → Option Area
area_at nodes rank slot =
    option_and_then (λ (n : NodeState). slice_get n.hart.communication.registrations.in_effect slot) (slice_get nodes rank)
