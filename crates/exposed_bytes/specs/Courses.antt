-- The times of a superstep, and what BSPlib says of them (`Exposed` has the rules of each call). Ranks do not wait for each other before
-- bsp_sync, so a superstep has three parts: ranks work, and call; all have come to bsp_sync, and gets read; what is buffered is written.
use Rattle.std.specs.Prelude.{◌≡◌, ℕ, ◌-◌, ◌<◌, ◌≤◌, ◌⊎◌, List, Contains}
use Rattle.exposed_bytes.specs.declared.call.Call.{Call}
use Rattle.exposed_bytes.specs.declared.call.Sort.{Sort}
use Rattle.exposed_bytes.specs.declared.call.Sort.TheVariants.{Put, HpPut, Get, HpGet, Send, DirectGet}

abbrev pub working : ℕ
working = 0

abbrev pub getting : ℕ
getting = 1

abbrev pub writing : ℕ
writing = 2

-- a moment of a superstep: a part of it, and when in that part
pub record Moment : Type 0 where
  pub part : ℕ
  pub when : ℕ

abbrev pub IsBefore : Moment → Moment → Type 0
IsBefore s t = (s.part < t.part) ⊎ ((s.part ≡ t.part) × (s.when < t.when))

abbrev pub IsNoLater : Moment → Moment → Type 0
IsNoLater s t = (s.part < t.part) ⊎ ((s.part ≡ t.part) × (s.when ≤ t.when))

-- a course that a superstep may take: when each call is made, and when it reads its byte of a number, and writes it
pub record Course : Type 0 where
  pub made : Call → Moment
  pub read : Call → ℕ → Moment
  pub written : Call → ℕ → Moment

-- an unbuffered call reads a byte at any time from the call on, and then writes it, by the end of the superstep
abbrev pub IsFree : Moment → Moment → Moment → Type 0
IsFree made read written = IsNoLater made read × IsNoLater read written × (written.part ≤ writing)

-- what BSPlib says of a call of a sort: when it is made, and when it reads and writes a byte
abbrev pub Obeys : Sort → Moment → Moment → Moment → Type 0
Obeys Put made read written = (read ≡ made) × (written.part ≡ writing)
Obeys HpPut made read written = IsFree made read written
Obeys Get made read written = (read.part ≡ getting) × (written.part ≡ writing)
Obeys HpGet made read written = IsFree made read written
Obeys Send made read written = read ≡ made
Obeys DirectGet made read written = read ≡ made

-- a course that BSPlib allows: calls are made while ranks work, those of a rank in their order, and each obeys the rule of its sort
pub record IsAllowed (calls : List Call) (course : Course) : Type 0 where
  pub works : (c : Call) → Contains calls c → (course.made c).part ≡ working
  pub order : (c d : Call) → Contains calls c → Contains calls d → c.caller ≡ d.caller → c.number ≤ d.number
      → IsNoLater (course.made c) (course.made d)
  pub obeys : (c : Call) (k : ℕ) → Contains calls c → Obeys c.sort (course.made c) (course.read c k) (course.written c k)

-- when a call reads the byte at an address, and when one writes it
abbrev pub time_read : Course → ℕ → Call → Moment
time_read course addr c = course.read c (addr - c.source)

abbrev pub time_written : Course → ℕ → Call → Moment
time_written course addr c = course.written c (addr - c.target)

-- one call may read the byte before the other writes it
abbrev pub MayReadFirst : List Call → ℕ → Call → Call → Type 0
MayReadFirst calls addr reader writer =
    (course : Course) × IsAllowed calls course × IsBefore (time_read course addr reader) (time_written course addr writer)

-- and the other may write it before
abbrev pub MayWriteFirst : List Call → ℕ → Call → Call → Type 0
MayWriteFirst calls addr reader writer =
    (course : Course) × IsAllowed calls course × IsBefore (time_written course addr writer) (time_read course addr reader)
