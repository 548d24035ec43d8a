-- What the fields of a `Slots` show, and what they keep.
use Rattle.std.specs.Prelude.{◌≡◌, ℕ, ◌≤◌, IsTrue, List, length, vec_capacity}
use Rattle.bsp_slots.specs.declared.area.Area.{Area}
use Rattle.bsp_slots.specs.declared.slots.Slots.TheInside.{Inside}
use Rattle.bsp_slots.specs.Registrations.{Registrations, PreparedRegistrations, next_list, push_count, IsSound}

abbrev pub slots_view : {A : Type 0} → Inside A → PreparedRegistrations
slots_view s = record {
  registrations = record { in_effect = s.in_effect.items; changes = s.changes.items; large = s.large };
  ready = s.ready;
}

-- a list and a number are the next list and the pushes of sound registrations
pub record KeepsPace (s : Registrations) (next : List Area) (pushes : ℕ) : Type 0 where
  pub next_is : next ≡ next_list s
  pub pushes_are : pushes ≡ push_count s
  pub sound : IsSound s

-- the second list and the count keep pace, and a ready list in effect has room for the second list
pub record FieldsAgree {A : Type 0} (s : Inside A) : Type 0 where
  pub pace : KeepsPace (slots_view s).registrations s.next.items s.pushes
  pub room : IsTrue s.ready → length s.next.items ≤ vec_capacity s.in_effect
