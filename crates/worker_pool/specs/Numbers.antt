-- The numbers that a caller gives, and what a call answers (own limits).
use Rattle.std.specs.Prelude.{ℕ, ◌^◌, ◌&&◌, nat_le, Option, Some, None, if◌then◌else◌}
use Rattle.worker_pool.specs.declared.error.PoolError.{PoolError}
use Rattle.worker_pool.specs.declared.error.PoolError.TheVariants.{BadWorkers, BadSlice}

-- the first number that is out of its range: workers, 1 to 64, or the steps of a slice, 1 to 2^20
abbrev pub numbers_fault : ℕ → ℕ → Option PoolError
numbers_fault workers slice =
    if nat_le 1 workers && nat_le workers 64 then
    (if nat_le 1 slice && nat_le slice (2 ^ 20) then None else Some BadSlice)
    else Some BadWorkers
