-- The answers of a call that could not write into the memory, and so left it as it was.
use Rattle.std.proofs.Common.{◌≡◌, List, ℕ, Bool, true, false, refl, Ok, Err}
use Rattle.std.specs.Prelude.{IfOk, OnErr}
use Rattle.std.specs.declared.result.Result.{Result}
use Rattle.std.specs.declared.alloc.AllocError.{AllocError}
use Rattle.node_memory.specs.declared.memory.WriteError.{WriteError}
use Rattle.node_memory.specs.declared.memory.WriteError.TheVariants.{Outside, NoMemory}
use Rattle.node_core.specs.declared.state.State.{State}
use Rattle.node_core.specs.declared.state.State.TheVariants.{Faulted}
use Rattle.node_core.specs.declared.state.Fault.TheVariants.{RangeOutside}
use Rattle.node_core.specs.Hart.{Hart, After, faults, with_memory}

pub not_written-ok : (h : Hart) (effect : After) (bytes : List ℕ) (error : WriteError) (answer : Result State AllocError)
    → IfOk answer (λ state. (error ≡ Outside) × (state ≡ Faulted RangeOutside)) → bytes ≡ h.memory
    → (error ≡ Outside → effect ≡ faults RangeOutside h)
    → IfOk answer (λ state. effect ≡ record { hart = with_memory bytes h; state = state })
not_written-ok h effect bytes error (Ok state) ok same fault = rw (same, ok.1) (fault ok.0)
not_written-ok h effect bytes error (Err e) ok same fault = tt

pub not_written-refuses : (P : Type 0) (error : WriteError) (answer : Result State AllocError) → OnErr answer (error ≡ NoMemory)
    → (error ≡ NoMemory → P) → OnErr answer P
not_written-refuses P error (Ok state) err refuses = tt
not_written-refuses P error (Err e) err refuses = refuses err

-- what is not outside fits
pub true-unless : (b : Bool) → (b ≡ false → ⊥) → b ≡ true
true-unless true h = refl
true-unless false h = absurd (h refl)
