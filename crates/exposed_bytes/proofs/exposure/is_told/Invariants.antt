-- No range before this one is of calls from the two places.
use Rattle.std.proofs.Common.{◌≡◌, ℕ, ◌<◌, get_or}
use Rattle.exposed_bytes.specs.declared.exposure.Exposure.{Exposure}
use Rattle.exposed_bytes.proofs.exposure.is_told.Given as goal

-- no range before this one is of calls from the two places
abbrev pub invariant-loop-other : goal.invariant-loop-other
invariant-loop-other l = (k : ℕ) (d : Exposure) → k < l.other-index → (get_or l.found k d).reader.place ≡ l.range.reader.place
    → (get_or l.found k d).writer.place ≡ l.range.writer.place → ⊥
