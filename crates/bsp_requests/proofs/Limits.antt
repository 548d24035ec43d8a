-- The limits of a superstep are at most those of a large machine.
use Rattle.std.proofs.Common.{◌≤◌, ◌^◌, Bool, true, false, arith}
use Rattle.bsp_requests.specs.Requests.{max_requests, max_bytes}

pub most_requests : (large : Bool) → max_requests large ≤ 2 ^ 24
most_requests true = omega arith
most_requests false = omega arith

pub most_bytes : (large : Bool) → max_bytes large ≤ 2 ^ 30
most_bytes true = omega arith
most_bytes false = omega arith
