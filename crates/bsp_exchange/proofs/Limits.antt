-- How much a node asks for in a superstep at most, in any machine.
use Rattle.std.proofs.Common.{◌≡◌, ℕ, ◌≤◌, ◌^◌, false, length, arith}
use Rattle.std.specs.Prelude.{sum_by}
use Rattle.bsp_requests.specs.Request.{size_of}
use Rattle.bsp_requests.specs.Requests.{Requests, IsWithinLimits}
use Rattle.bsp_requests.proofs.Limits.{most_bytes, most_requests}

pub requests_at_most : (r : Requests) → IsWithinLimits r → length r.requests ≤ 2 ^ 24
requests_at_most r within = omega (arith, within.requests, most_requests r.large)

pub bytes_at_most : (r : Requests) → IsWithinLimits r → sum_by size_of r.requests ≤ 2 ^ 30
bytes_at_most r within = omega (arith, within.bytes, most_bytes r.large)

-- and in one that is not large
pub requests_at_most_standard : (r : Requests) → IsWithinLimits r → r.large ≡ false → length r.requests ≤ 65536
requests_at_most_standard r within standard = rw standard at within.requests

pub bytes_at_most_standard : (r : Requests) → IsWithinLimits r → r.large ≡ false → sum_by size_of r.requests ≤ 2 ^ 24
bytes_at_most_standard r within standard =
    let bytes = rw standard at within.bytes in
    omega (arith, bytes)
