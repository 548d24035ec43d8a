-- The limits of registrations are at most those of a large machine.
use Rattle.std.proofs.Common.{ℕ, ◌≤◌, ◌^◌, Bool, true, false, arith}
use Rattle.bsp_slots.specs.Registrations.{max_entries, max_pushes}

pub most_entries : (large : Bool) → max_entries large ≤ 65536
most_entries true = omega arith
most_entries false = omega arith

pub most_pushes : (large : Bool) → max_pushes large ≤ 2 ^ 24
most_pushes true = omega arith
most_pushes false = omega arith
