-- Where the bytes of a value stand, and which they are.
use Rattle.std.specs.Prelude.{◌≡◌, ℕ, ◌<◌, ◌≤◌, List, length, take}
use Rattle.std.specs.Arc.{arc_slice_items}
use Rattle.shared_bytes.specs.declared.Held.{Held}
use Rattle.shared_bytes.specs.declared.Held.TheVariants.{Within, Shared}

-- the value's own, or those that it shares with its clones
abbrev pub held_bytes : {A : Type 0} → Held A → List ℕ
held_bytes (Within w) = take w.len w.room
held_bytes (Shared s) = arc_slice_items s

-- up to 22 bytes stand in the value, and only more of them are shared
abbrev pub IsHeld : {A : Type 0} → Held A → Type 0
IsHeld (Within w) = (w.len ≤ 22) × (length w.room ≡ 22)
IsHeld (Shared s) = 22 < length (arc_slice_items s)
