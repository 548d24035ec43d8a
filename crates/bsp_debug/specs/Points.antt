-- The points at which a debugger stops (own rules).
use Rattle.std.specs.Prelude.{◌≡◌, ℕ, ◌==◌, ◌&&◌, ◌||◌, Bool, true, false, not, nat_lt, IsTrue, List, [], ◌∷◌}
use Rattle.std.specs.List.{list_any}
use Rattle.bsp_debug.specs.declared.point.Point.{Point}
use Rattle.bsp_debug.specs.declared.point.Point.TheVariants.{Address, Superstep}

-- two points are the same
abbrev pub is_same : Point → Point → Bool
is_same (Address rank addr) (Address other at) = rank == other && addr == at
is_same (Superstep k) (Superstep other) = k == other
is_same (Address rank addr) (Superstep k) = false
is_same (Superstep k) (Address rank addr) = false

-- a point is among those that are set
abbrev pub is_set : List Point → Point → Bool
is_set points p = list_any (is_same p) points

-- own limit: how many points can be set
abbrev pub most_points : ℕ
most_points = 1024

-- the second set has the points of the first and this one, and no other
abbrev pub HasAlso : Point → List Point → List Point → Type 0
HasAlso p old new = (q : Point) → is_set new q ≡ (is_same p q || is_set old q)

-- the second set has the points of the first but this one, and no other
abbrev pub HasNoMore : Point → List Point → List Point → Type 0
HasNoMore p old new = (q : Point) → is_set new q ≡ (not (is_same p q) && is_set old q)

-- a point comes before another: those of ranks by rank and then by address, and behind all of them those of supersteps
abbrev pub comes_before : Point → Point → Bool
comes_before (Address rank addr) (Address other at) = nat_lt rank other || (rank == other && nat_lt addr at)
comes_before (Address rank addr) (Superstep k) = true
comes_before (Superstep k) (Address rank addr) = false
comes_before (Superstep k) (Superstep other) = nat_lt k other

-- each of some points comes before the next one
abbrev pub AreInOrder : List Point → Type 0
AreInOrder [] = Unit {0}
AreInOrder (p ∷ []) = Unit {0}
AreInOrder (p ∷ q ∷ points) = IsTrue (comes_before p q) × AreInOrder (q ∷ points)
