-- Lists of registered areas, oldest first.
use Rattle.std.specs.Prelude.{◌≡◌, ◌≢◌, ℕ, suc, ◌+◌, ◌<◌, ◌==◌, if◌then◌else◌, List, [], ◌∷◌, length, remove, HoldsAt, Option, Some, None}
use Rattle.std.specs.Prelude.{option_map}
use Rattle.std.specs.List.{AllWithin}
use Rattle.std.specs.Option.{option_or, option_map_or}
use Rattle.bsp_slots.specs.declared.area.Area.{Area}

-- the position of the last entry of an address, if there is one
abbrev pub last_position : List Area → ℕ → Option ℕ
last_position [] addr = None
last_position (area ∷ rest) addr =
    option_or (option_map suc (last_position rest addr)) (if area.addr == addr then Some 0 else None)

-- the entries without the last one of an address
abbrev pub without_last : List Area → ℕ → List Area
without_last entries addr = option_map_or (remove entries) (last_position entries addr) entries

-- the entry at a position has the address, and no later one has it
pub record IsLastEntry (entries : List Area) (addr position : ℕ) : Type 0 where
  pub within : position < length entries
  pub here : HoldsAt (λ area. area.addr ≡ addr) entries position
  pub later : AllWithin (λ area. area.addr ≢ addr) entries (position + 1) (length entries)
