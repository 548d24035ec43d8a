-- The registrations of a node, and what pushes, pops and the end of a superstep make of them.
-- Source: `bsp_push_reg` and `bsp_pop_reg` of BSPlib (Hill and others, 1998); the order of pushes and pops is an own rule.
use Rattle.std.specs.Prelude.{◌≡◌, ℕ, ◌^◌, ◌≤◌, Bool, ◌||◌, nat_le, List, [], ◌∷◌, ◌++◌, length, map, fold, count_by, Option}
use Rattle.std.specs.Prelude.{if◌then◌else◌}
use Rattle.bsp_slots.specs.declared.area.Area.{Area}
use Rattle.bsp_slots.specs.declared.change.Change.{Change}
use Rattle.bsp_slots.specs.declared.change.Change.TheVariants.{Push, Pop}
use Rattle.bsp_slots.specs.Change.{changed, is_push, removed_position, NamesRemovals}

-- the list in effect, and the pushes and pops of this superstep in issue order; and whether their limits are those of a large machine
pub record Registrations : Type 0 where
  pub in_effect : List Area
  pub changes : List Change
  pub large : Bool

-- registrations, and whether room is made for the turn
pub record PreparedRegistrations : Type 0 where
  pub registrations : Registrations
  pub ready : Bool

abbrev pub no_registrations : Bool → Registrations
no_registrations large = record { in_effect = []; changes = []; large = large }

-- the entries with pushes and pops replayed in issue order
abbrev pub registrations_after : List Area → List Change → List Area
registrations_after entries changes = fold changed entries changes

-- the list that comes into effect at the turn
abbrev pub next_list : Registrations → List Area
next_list s = registrations_after s.in_effect s.changes

-- one more push
abbrev pub pushed : Registrations → Area → Registrations
pushed s area = record s { changes = s.changes ++ Push area ∷ [] }

-- one more pop, which removes the entry at `slot`
abbrev pub popped : Registrations → ℕ → ℕ → Registrations
popped s addr slot = record s { changes = s.changes ++ Pop addr slot ∷ [] }

-- the next superstep's registrations
abbrev pub turned : Registrations → Registrations
turned s = record s { in_effect = next_list s; changes = [] }

-- own limit: the entries of the next list, those that stay from earlier supersteps among them, in a large machine and in any other
abbrev pub max_entries : Bool → ℕ
max_entries large = if large then 65536 else 1024

-- own limit: the pushes of a superstep, whatever is popped, likewise
abbrev pub max_pushes : Bool → ℕ
max_pushes large = if large then 2 ^ 24 else 65536

-- how many pushes were made in this superstep
abbrev pub push_count : Registrations → ℕ
push_count s = count_by is_push s.changes

-- whether one more push would pass a limit
abbrev pub is_full : Registrations → Bool
is_full s = nat_le (max_entries s.large) (length (next_list s)) || nat_le (max_pushes s.large) (push_count s)

-- the sequence of pushes and pops, a push without its address and size and a pop by the position that it removed
abbrev pub shape : Registrations → List (Option ℕ)
shape s = map removed_position s.changes

-- both made the same sequence in this superstep
abbrev pub HasSameShape : Registrations → Registrations → Type 0
HasSameShape s t = shape s ≡ shape t

-- what pushes, pops and turns lead to: the limits hold, and each pop is noted with the position that it removed
pub record IsSound (s : Registrations) : Type 0 where
  pub in_effect_fits : length s.in_effect ≤ max_entries s.large
  pub next_fits : length (next_list s) ≤ max_entries s.large
  pub pushes_fit : push_count s ≤ max_pushes s.large
  pub names_removals : NamesRemovals s.in_effect s.changes
