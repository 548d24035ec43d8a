-- What reading and writing a memory answers, and what is left of it: said once, for a memory and for what has one inside.
use Rattle.std.specs.Prelude.{◌≡◌, ℕ, ◌+◌, ◌/◌, ◌%◌, ◌^◌, ◌<◌, ◌≤◌, ◌↔◌, Bool, true, false, List, length, IsTrue, if◌then◌else◌, Option}
use Rattle.std.specs.Prelude.{Some, None, IfSome, IsNone, OnOk, OnErr, IfOk, IsErrOf, is_ok}
use Rattle.std.specs.declared.result.Result.{Result}
use Rattle.node_memory.specs.declared.memory.MemoryError.{MemoryError}
use Rattle.node_memory.specs.declared.memory.MemoryError.TheVariants.{BadSize, SegmentOutside}
use Rattle.node_memory.specs.declared.memory.ReadError.{ReadError}
use Rattle.node_memory.specs.declared.memory.ReadError.TheVariants as read
use Rattle.node_memory.specs.declared.memory.WriteError.{WriteError}
use Rattle.node_memory.specs.declared.memory.WriteError.TheVariants as write
use Rattle.node_memory.specs.Bytes.{is_memory_size, fits, bytes_at, with_bytes, byte_at, half_at, word_at, double_word_at}
use Rattle.node_memory.specs.Image.{Image, image_bytes, is_segment_outside}
use Rattle.node_memory.specs.Pages.{PagedMemory, none_private, IsPrivate, Owns, OwnsMore}

-- a memory of `size` bytes was to be made of an image: it has the image's bytes, and no private page; or the size is none of a memory;
-- or it is, and a segment of some bytes ends past it; or memory is refused
pub record IsMade (answer : Result PagedMemory MemoryError) (image : Image) (size : ℕ) : Type 0 where
  pub bad_size : IsErrOf answer BadSize ↔ (is_memory_size size ≡ false)
  pub segment_outside : IsErrOf answer SegmentOutside ↔ (IsTrue (is_memory_size size) × IsTrue (is_segment_outside image size))
  pub ok : IfOk answer (λ m. m ≡ record { bytes = image_bytes image size; private = none_private size })
  pub len : IfOk answer (λ m. length m.bytes ≡ size)

-- the byte, half-word or word at an address, or none where it does not lie in the memory
abbrev pub loaded_byte : List ℕ → ℕ → Option ℕ
loaded_byte m addr = if fits (length m) addr 1 then Some (byte_at m addr) else None

abbrev pub loaded_half : List ℕ → ℕ → Option ℕ
loaded_half m addr = if fits (length m) addr 2 then Some (half_at m addr) else None

abbrev pub loaded_word : List ℕ → ℕ → Option ℕ
loaded_word m addr = if fits (length m) addr 4 then Some (word_at m addr) else None

-- a word was to be loaded: it is given, and its lower half is the half-word there; or it does not lie in the memory
pub record IsLoaded (answer : Option ℕ) (m : List ℕ) (addr : ℕ) : Type 0 where
  pub value : answer ≡ loaded_word m addr
  pub low : IfSome answer (λ word. word % 2 ^ 16 ≡ half_at m addr)

-- the same, but it may be none too where the word does not lie in one page
pub record IsLoadedInPage (answer : Option ℕ) (m : List ℕ) (addr : ℕ) : Type 0 where
  pub value : IfSome answer (λ word. Some word ≡ loaded_word m addr)
  pub low : IfSome answer (λ word. word % 2 ^ 16 ≡ half_at m addr)
  pub none : IsNone answer → IsTrue (fits (length m) addr 4) → 4096 < addr % 4096 + 4

-- a word was to be loaded from a multiple of four: it is given; or the address is no multiple of four, or the word does not lie in the memory
pub record IsAlignedWordLoaded (answer : Option ℕ) (m : List ℕ) (addr : ℕ) : Type 0 where
  pub value : IfSome answer (λ word. Some word ≡ loaded_word m addr)
  pub none : IsNone answer → IsTrue (fits (length m) addr 4) → 0 < addr % 4

-- two words were to be loaded as one number: it is given; or they do not lie in one page of the memory
pub record IsDoubleWordLoadedInPage (answer : Option ℕ) (m : List ℕ) (addr : ℕ) : Type 0 where
  pub within : IfSome answer (λ _. IsTrue (fits (length m) addr 8))
  pub value : IfSome answer (λ pair. pair ≡ double_word_at m addr)
  pub none : IsNone answer → IsTrue (fits (length m) addr 8) → 4096 < addr % 4096 + 8

-- a range was to be read: its bytes are given, or it does not lie in the memory, or memory for them is refused
pub record IsRead (answer : Result (List ℕ) ReadError) (m : List ℕ) (addr len : ℕ) : Type 0 where
  pub within : OnOk answer (IsTrue (fits (length m) addr len))
  pub ok : IfOk answer (λ v. v ≡ bytes_at m addr len)
  pub outside : IsErrOf answer read.Outside ↔ (fits (length m) addr len ≡ false)

-- these `len` bytes were to be stored from `addr` on: they are, and the pages of the range are private; or the range does not lie in the
-- memory, or memory for a copy of a page is refused, and then no byte differs
pub record IsStored {T : Type 0} (answer : Result T WriteError) (addr len : ℕ) (bytes : List ℕ) (old new : PagedMemory) : Type 0 where
  pub ok : OnOk answer (new.bytes ≡ with_bytes old.bytes addr bytes)
  pub outside : IsErrOf answer write.Outside ↔ (fits (length old.bytes) addr len ≡ false)
  pub sure : Owns old.private addr len → IsTrue (is_ok answer)
  pub refused : IsErrOf answer write.NoMemory → Owns new.private addr len → ⊥
  pub some : IsErrOf answer write.NoMemory → 0 < len
  pub err : OnErr answer (new.bytes ≡ old.bytes)
  pub owned : OnOk answer (Owns new.private addr len)
  pub more : OwnsMore addr len old.private new.private
  pub same_private : Owns old.private addr len → new.private ≡ old.private
  pub outside_same : IsErrOf answer write.Outside → new.private ≡ old.private
  pub same_size : length new.bytes ≡ length old.bytes

-- `len` bytes were to be stored from `addr` on, if that page is private and something holds of the address: whether both are so, and then the
-- bytes are stored
pub record IsStoredInPrivateIf (holds : Type 0) (answer : Bool) (addr len : ℕ) (bytes : List ℕ) (old new : PagedMemory) : Type 0 where
  pub written : IsTrue answer → new.bytes ≡ with_bytes old.bytes addr bytes
  pub says : IsTrue answer ↔ (IsPrivate old.private (addr / 4096) × holds)
  pub owned : IsTrue answer → Owns old.private addr len
  pub within : IsTrue answer → fits (length old.bytes) addr len ≡ true
  pub not_written : answer ≡ false → new ≡ old
  pub same_private : new.private ≡ old.private
  pub same_size : length new.bytes ≡ length old.bytes

-- the same, if they lie in one page
abbrev pub IsStoredInPrivate : Bool → (addr len : ℕ) → List ℕ → (old new : PagedMemory) → Type 0
IsStoredInPrivate answer addr len bytes old new = IsStoredInPrivateIf (addr % 4096 + len ≤ 4096) answer addr len bytes old new

-- the same of a word, if the address is a multiple of four
abbrev pub IsAlignedWordStored : Bool → (addr : ℕ) → List ℕ → (old new : PagedMemory) → Type 0
IsAlignedWordStored answer addr bytes old new = IsStoredInPrivateIf (addr % 4 ≡ 0) answer addr 4 bytes old new

-- a range whose pages are private was written
pub record IsWritten (addr : ℕ) (written : List ℕ) (old new : PagedMemory) : Type 0 where
  pub within : addr + length written ≤ length old.bytes
  pub bytes : new.bytes ≡ with_bytes old.bytes addr written
  pub same_private : new.private ≡ old.private
  pub same_size : length new.bytes ≡ length old.bytes

-- each page of a range was to be made private: it is, or memory for a copy is refused. No byte differs
pub record IsOwned {T E : Type 0} (answer : Result T E) (addr len : ℕ) (old new : PagedMemory) : Type 0 where
  pub bytes : new.bytes ≡ old.bytes
  pub owned : OnOk answer (Owns new.private addr len)
  pub more : OwnsMore addr len old.private new.private
  pub same_private : Owns old.private addr len → new.private ≡ old.private
  pub refused : OnErr answer (Owns new.private addr len → ⊥)
