-- Pushes and pops, one at a time.
use Rattle.std.specs.Prelude.{◌≡◌, ℕ, Bool, true, false, List, [], ◌∷◌, ◌++◌, Option, Some, None}
use Rattle.bsp_slots.specs.declared.area.Area.{Area}
use Rattle.bsp_slots.specs.declared.change.Change.{Change}
use Rattle.bsp_slots.specs.declared.change.Change.TheVariants.{Push, Pop}
use Rattle.bsp_slots.specs.Area.{last_position, without_last}

-- the entries after a push, which appends its area, or a pop, which removes the last entry of its address
abbrev pub changed : List Area → Change → List Area
changed entries (Push area) = entries ++ area ∷ []
changed entries (Pop addr slot) = without_last entries addr

abbrev pub is_push : Change → Bool
is_push (Push area) = true
is_push (Pop addr slot) = false

-- the position that a pop removed; a push removes none
abbrev pub removed_position : Change → Option ℕ
removed_position (Push area) = None
removed_position (Pop addr slot) = Some slot

-- a pop is noted with the position of the entry that it removes
abbrev pub NamesRemoval : List Area → Change → Type 0
NamesRemoval entries (Push area) = Unit {0}
NamesRemoval entries (Pop addr slot) = last_position entries addr ≡ Some slot

-- each pop of a sequence is
abbrev pub NamesRemovals : List Area → List Change → Type 0
NamesRemovals entries [] = Unit {0}
NamesRemovals entries (change ∷ changes) = NamesRemoval entries change × NamesRemovals (changed entries change) changes
