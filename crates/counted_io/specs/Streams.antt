-- What a call reads and writes, where the bytes of its readers and its writer are known.
use Rattle.std.specs.Prelude.{◌≡◌, ℕ, ◌≤◌, List, length, Option, IfSome}
use Rattle.std.specs.Io.KnownBytes.{Consumes}
use Rattle.counted_io.specs.Counted.{CountedState, HasRisen}
use Rattle.counted_io.specs.Transfers.{ConsumesAtMost, ConsumesPast, ConsumesWithin}
use Rattle.counted_io.specs.declared.ReadError.{ReadError}
use Rattle.counted_io.specs.declared.ReadError.TheVariants.{TooLong, ReadFault, NoMemory}

-- a reader or a writer before and after a call: the known bytes that a reader has left or a writer holds, and how many of its calls had
-- failed
pub record Stream : Type 0 where
  pub before : Option (List ℕ)
  pub after : Option (List ℕ)
  pub failures_before : ℕ
  pub failures_after : ℕ

abbrev pub stream : {T : Type 0} → (T → Option (List ℕ))
    → CountedState T → CountedState T → Stream
stream known old new = record {
  before = known old.inner;
  after = known new.inner;
  failures_before = old.failures;
  failures_after = new.failures;
}

-- nothing was read or written, and no call failed
pub record IsUntouched (s : Stream) : Type 0 where
  pub bytes : s.after ≡ s.before
  pub failures : s.failures_after ≡ s.failures_before

-- `bytes` were read, up to the end: at most `most`, and all that the reader had, where that is known
pub record ReadsWhole (s : Stream) (bytes : List ℕ) (most : ℕ) : Type 0 where
  pub limited : length bytes ≤ most
  pub consumed : Consumes s.before s.after bytes
  pub whole : IfSome s.before (λ all. bytes ≡ all)

-- a call failed
abbrev pub HasFailed : Stream → Type 0
HasFailed s = HasRisen s.failures_before s.failures_after

-- more bytes than a limit were read
abbrev pub ReadsPast : ℕ → Stream → Type 0
ReadsPast most s = ConsumesPast s.before s.after most

-- a call failed, after no more bytes than a limit were read
abbrev pub FailsWithin : ℕ → Stream → Type 0
FailsWithin most s = HasFailed s × ConsumesAtMost s.before s.after most

-- some bytes were read, no more than a limit
abbrev pub IsCutShort : ℕ → Stream → Type 0
IsCutShort most s = ConsumesWithin s.before s.after most

-- why a text of at most so many bytes was not read whole
abbrev pub IsReadErrorOf : ℕ → Stream → ReadError → Type 0
IsReadErrorOf most s TooLong = ReadsPast most s
IsReadErrorOf most s ReadFault = FailsWithin most s
IsReadErrorOf most s NoMemory = IsCutShort most s
