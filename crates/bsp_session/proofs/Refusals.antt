-- Why a file gives no image, or its image no machine.
use Rattle.std.proofs.Common.{◌≡◌, ◌≢◌, ℕ, List, Bool, true, false, Option, Some, None, option_map, Result, Err, if◌then◌else◌, refl, subst}
use Rattle.std.specs.Option.{option_or}
use Rattle.rv_atomics.specs.declared.extensions.Extensions.{Extensions}
use Rattle.node_memory.specs.Image.{Image, is_segment_outside}
use Rattle.elf_image.specs.declared.error.ElfError.{ElfError}
use Rattle.elf_image.specs.Faults.{file_fault}
use Rattle.rv_asm.specs.declared.errors.AsmError.{AsmError}
use Rattle.rv_asm.specs.declared.errors.AsmKind.{AsmKind}
use Rattle.rv_asm.specs.Faults.{text_fault}
use Rattle.machine_core.specs.declared.error.MachineError.{MachineError}
use Rattle.machine_core.specs.declared.error.MachineError.TheVariants as machine
use Rattle.machine_core.specs.Faults.{NamesFault}
use Rattle.machine_core.specs.Machine.{machine_fault, settings_fault}
use Rattle.bsp_session.specs.declared.errors.SessionError.{SessionError}
use Rattle.bsp_session.specs.declared.errors.SessionError.TheVariants.{BadSettings, TooLong, Text, BadImage, SegmentOutside, ReadFault}
use Rattle.bsp_session.specs.declared.errors.SessionError.TheVariants.{TooManyNodes, WriteFault, NoWorker, NoMemory}
use Rattle.bsp_session.specs.declared.job.Format.{Format}
use Rattle.bsp_session.specs.declared.job.Format.TheVariants.{Elf, Raw, Asm}
use Rattle.bsp_session.specs.declared.job.Job.{Job}
use Rattle.bsp_session.specs.Images.{Gives, image_fault}
use Rattle.bsp_session.specs.Outcome.{error_of_machine}
use Rattle.bsp_session.specs.Session.{IsErrorOfRun, job_fault}
use Rattle.bsp_session.proofs.Jobs.{settings_are_in_range}

-- a file is refused as a text or as an ELF file alone
abbrev IsOfFile : SessionError → Type 0
IsOfFile (Text cause) = Unit {0}
IsOfFile (BadImage cause) = Unit {0}
IsOfFile _ = ⊥

of_file : {X : Type 0} (f : X → SessionError) (fault : Option X) (e : SessionError) → ((x : X) → IsOfFile (f x))
    → option_map f fault ≡ Some e → IsOfFile e
of_file f None e each is = cc
of_file f (Some x) e each is =
    let same : f x ≡ e = cc in
    subst IsOfFile same (each x)

is_of_file : (format : Format) (file : List ℕ) (e : SessionError) → image_fault format file ≡ Some e → IsOfFile e
is_of_file (Elf large) file e is = of_file BadImage (file_fault large file) e (λ cause. tt) is
is_of_file (Raw large) file e is = cc
is_of_file (Asm extensions) file e is =
    of_file (λ fault. Text (record { line = fault.0; kind = fault.1 })) (text_fault extensions file) e (λ fault. tt) is

-- what holds of want of memory, and of a text's or an ELF file's refusal, holds of each error of an image
pub of_image : (format : Format) (file : List ℕ) (P : SessionError → Type 0) → P NoMemory
    → ((cause : AsmError) → image_fault format file ≡ Some (Text cause) → P (Text cause))
    → ((cause : ElfError) → image_fault format file ≡ Some (BadImage cause) → P (BadImage cause))
    → (e : SessionError) → (e ≢ NoMemory → image_fault format file ≡ Some e) → P e
of_image format file P memory text image (Text cause) made = text cause (made (λ is. cc))
of_image format file P memory text image (BadImage cause) made = image cause (made (λ is. cc))
of_image format file P memory text image NoMemory made = memory
of_image format file P memory text image (BadSettings cause) made = absurd (is_of_file format file (BadSettings cause) (made (λ is. cc)))
of_image format file P memory text image TooLong made = absurd (is_of_file format file TooLong (made (λ is. cc)))
of_image format file P memory text image SegmentOutside made = absurd (is_of_file format file SegmentOutside (made (λ is. cc)))
of_image format file P memory text image TooManyNodes made = absurd (is_of_file format file TooManyNodes (made (λ is. cc)))
of_image format file P memory text image ReadFault made = absurd (is_of_file format file ReadFault (made (λ is. cc)))
of_image format file P memory text image WriteFault made = absurd (is_of_file format file WriteFault (made (λ is. cc)))
of_image format file P memory text image NoWorker made = absurd (is_of_file format file NoWorker (made (λ is. cc)))

-- no text is refused as an ELF file
pub text_alone : (extensions : Extensions) (file : List ℕ) (cause : ElfError)
    → image_fault (Asm extensions) file ≡ Some (BadImage cause) → ⊥
text_alone extensions file cause is = not_image (text_fault extensions file) is
  where
    not_image : (fault : Option (ℕ × AsmKind)) → option_map (λ f. Text (record { line = f.0; kind = f.1 })) fault ≡ Some (BadImage cause)
        → ⊥
    not_image None made = cc
    not_image (Some f) made = cc

pub IsErrorOfRun-of_image : (job : Job) (file : List ℕ) (e : SessionError) → (e ≢ NoMemory → image_fault job.format file ≡ Some e)
    → IsErrorOfRun job file e
IsErrorOfRun-of_image job file e made = of_image job.format file (IsErrorOfRun job file) tt (λ cause is. is) (λ cause is. is) e made

-- no thread has a part in it
pub image_of-worker : (format : Format) (file : List ℕ) (e : SessionError) → (e ≢ NoMemory → image_fault format file ≡ Some e) → e ≢ NoWorker
image_of-worker format file e made =
    of_image format file (λ e. e ≢ NoWorker) (λ is. cc) (λ cause of_text is. cc) (λ cause of_file is. cc) e made

pub error_of_machine-worker : (cause : MachineError) → error_of_machine cause ≢ NoWorker
error_of_machine-worker machine.BadNodes = λ is. cc
error_of_machine-worker machine.BadMemory = λ is. cc
error_of_machine-worker machine.BadLimit = λ is. cc
error_of_machine-worker machine.SegmentOutside = λ is. cc
error_of_machine-worker machine.NoMemory = λ is. cc

-- where the settings are good, a machine is refused for a part past the memory alone
only_outside : (fault : Option MachineError) (outside : Bool) (cause : MachineError) → fault ≡ None
    → option_or fault (if outside then Some machine.SegmentOutside else None) ≡ Some cause
    → (cause ≡ machine.SegmentOutside) × (outside ≡ true)
only_outside None true cause none made = (cc, refl)
only_outside None false cause none made = cc
only_outside (Some fault) outside cause none made = cc

pub IsErrorOfRun-of_machine : {X : Type 0} (job : Job) (file : List ℕ) (m : Image) (r : Result X MachineError) (cause : MachineError)
    → job_fault job ≡ None → Gives job.format file m → r ≡ Err cause → NamesFault r (machine_fault m job.settings)
    → IsErrorOfRun job file (error_of_machine cause)
IsErrorOfRun-of_machine job file m r cause none gives is names = of_cause cause is
  where
    outside_of : (cause : MachineError) → machine_fault m job.settings ≡ Some cause
        → (cause ≡ machine.SegmentOutside) × (is_segment_outside m job.settings.memory ≡ true)
    outside_of cause =
        only_outside (settings_fault job.settings) (is_segment_outside m job.settings.memory) cause (settings_are_in_range job none)

    of_cause : (cause : MachineError) → r ≡ Err cause → IsErrorOfRun job file (error_of_machine cause)
    of_cause machine.BadNodes is = let other = (outside_of machine.BadNodes ((names machine.BadNodes (λ same. cc)).0 is)).0 in cc
    of_cause machine.BadMemory is = let other = (outside_of machine.BadMemory ((names machine.BadMemory (λ same. cc)).0 is)).0 in cc
    of_cause machine.BadLimit is = let other = (outside_of machine.BadLimit ((names machine.BadLimit (λ same. cc)).0 is)).0 in cc
    of_cause machine.SegmentOutside is = record {
      m = m;
      gives = gives;
      outside = (outside_of machine.SegmentOutside ((names machine.SegmentOutside (λ same. cc)).0 is)).1;
    }
    of_cause machine.NoMemory is = tt
