-- What a machine that is refused says of its settings and image.
use Rattle.std.proofs.Common.{◌≡◌, Bool, ◌⊎◌, inl, inr, Result, Ok, Err, Option, Some, None, refl, ap, ◌∙◌, true, false}
use Rattle.std.specs.Prelude.{◌↔◌, IsErrOf, IsTrue}
use Rattle.std.specs.Result.{IsErrAnd}
use Rattle.node_memory.specs.Bytes.{is_memory_size}
use Rattle.node_memory.specs.Image.{Image, is_segment_outside}
use Rattle.node_memory.specs.declared.memory.MemoryError.{MemoryError}
use Rattle.node_memory.specs.declared.memory.MemoryError.TheVariants as memory_error
use Rattle.machine_core.specs.declared.error.MachineError.{MachineError}
use Rattle.machine_core.specs.declared.error.MachineError.TheVariants.{SegmentOutside, NoMemory}
use Rattle.machine_core.specs.declared.settings.Settings.{Settings}
use Rattle.machine_core.specs.Faults.{NamesFault}
use Rattle.machine_core.specs.Machine.{settings_fault, machine_fault}
use Rattle.machine_core.proofs.Starts.{AreInRange-from, machine_fault-none}

-- the exit of a `?`
pub err_of : {T E : Type 0} (r : Result T E) (e : E) → IsErrAnd r (λ y. y ≡ e) → r ≡ Err e
err_of (Ok x) e is = absurd is
err_of (Err y) e is = ap Err is

-- a machine that is made names no fault
pub no_fault-named : {T : Type 0} {x : T} (fault : Option MachineError) → fault ≡ None → NamesFault (Ok x) fault
no_fault-named fault none e other = (λ is. absurd cc, λ is. absurd cc)

pub NamesFault-none : {T : Type 0} (r : Result T MachineError) (fault : Option MachineError) → r ≡ Err NoMemory → fault ≡ None
    → NamesFault r fault
NamesFault-none r fault refused none e other = (λ is. let same : e ≡ NoMemory = cc in absurd (other same), λ is. absurd cc)

NamesFault-some : {T : Type 0} (r : Result T MachineError) (fault : Option MachineError) (e : MachineError) → r ≡ Err e → fault ≡ Some e
    → NamesFault r fault
NamesFault-some r fault e refused some d other = (λ is. cc, λ is. cc)

not_true : (b : Bool) → (b ≡ true → ⊥) → b ≡ false
not_true true never = absurd (never refl)
not_true false never = refl

-- settings that have a fault
pub NamesFault-settings : {T : Type 0} (r : Result T MachineError) (image : Image) (s : Settings) (e : MachineError) → r ≡ Err e
    → settings_fault s ≡ Some e → NamesFault r (machine_fault image s)
NamesFault-settings r image s e refused bad = NamesFault-some r (machine_fault image s) e refused (rw bad refl)

-- nodes that could not be made
pub NamesFault-nodes : {T X : Type 0} (r : Result T MachineError) (made : Result X MachineError) (image : Image) (s : Settings)
    (e : MachineError) → r ≡ Err e → made ≡ Err e → settings_fault s ≡ None
    → IsErrOf made SegmentOutside ↔ (is_segment_outside image s.memory ≡ true) → (e ≡ SegmentOutside) ⊎ (e ≡ NoMemory)
    → NamesFault r (machine_fault image s)
NamesFault-nodes r made image s e refused failed good outside (inl is) =
    let out = outside.0 (failed ∙ ap Err is) in
    NamesFault-some r (machine_fault image s) SegmentOutside (refused ∙ ap Err is) (rw (good, out) refl)
NamesFault-nodes r made image s e refused failed good outside (inr is) =
    NamesFault-none r (machine_fault image s) (refused ∙ ap Err is)
    (machine_fault-none image s good (not_true _ (λ out. let same = outside.1 out in cc)))

-- an arm of a `match` on an error
pub err_at : {T E : Type 0} (r : Result T E) (d e : E) → r ≡ Err d → d ≡ e → r ≡ Err e
err_at r d e is same = is ∙ ap Err same

module _ {X : Type 0} (r : Result X MemoryError) (image : Image) (s : Settings) (good : settings_fault s ≡ None)
    (says : IsErrOf r memory_error.SegmentOutside ↔ (IsTrue (is_memory_size s.memory) × IsTrue (is_segment_outside image s.memory))) where
  fits-unless : (r ≡ Err memory_error.SegmentOutside → ⊥) → is_segment_outside image s.memory ≡ false
  fits-unless other = not_true _ (λ out. other (says.1 ((AreInRange-from s good).memory, out)))

  -- the image fits a node that is made, and one that is refused for want of memory
  pub fits-made : (x : X) → r ≡ Ok x → is_segment_outside image s.memory ≡ false
  fits-made x made = fits-unless (λ bad. absurd cc)

  pub fits-no_memory : r ≡ Err memory_error.NoMemory → is_segment_outside image s.memory ≡ false
  fits-no_memory refused = fits-unless (λ bad. absurd cc)

-- the size is not refused
pub made-sized : {X : Type 0} (r : Result X MemoryError) (s : Settings) → settings_fault s ≡ None
    → IsErrOf r memory_error.BadSize ↔ (is_memory_size s.memory ≡ false) → r ≡ Err memory_error.BadSize → ⊥
made-sized r s good says bad =
    let sized = (AreInRange-from s good).memory in
    let unsized = says.0 bad in cc

-- it names no segment that lies outside
pub outside-ok : {T : Type 0} {x : T} (out : Bool) → out ≡ false → IsErrOf (Ok x) SegmentOutside ↔ (out ≡ true)
outside-ok out fits = (λ is. absurd cc, λ is. absurd cc)

pub outside-no_memory : {T : Type 0} (out : Bool) → out ≡ false → IsErrOf {T = T} (Err NoMemory) SegmentOutside ↔ (out ≡ true)
outside-no_memory out fits = (λ is. absurd cc, λ is. absurd cc)
