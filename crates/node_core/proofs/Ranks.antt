-- Ranks fit 16 bits.
use Rattle.std.proofs.Common.{ℕ, ◌<◌, ◌≤◌, Fits, w16, arith}
use Rattle.node_core.specs.Hart.{max_nodes}

pub rank-fits : (rank nprocs : ℕ) → rank < nprocs → nprocs ≤ max_nodes → Fits w16 rank
rank-fits rank nprocs ranked few = omega arith
