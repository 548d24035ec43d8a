-- Which bytes an unbuffered call exposes: one call of a superstep reads them, one writes them, and BSPlib leaves open which of the two
-- comes first. What BSPlib says of each call (Hill and others 1998, of `bsp_put`, `bsp_hpput`, `bsp_get`, `bsp_hpget` and `bsp_send`):
--
--   bsp_put            is buffered on source and destination: reads at the call, and writes at the end of the superstep
--   bsp_send           is buffered too: reads tag and payload at the call; they come into a queue, and so into no memory
--   bsp_get            is buffered: reads at the end of the superstep, before anything buffered is written, and writes then
--   bsp_hpput, -hpget  are unbuffered: read and write at any time from the call to the end of the superstep
--   bsp_direct_get     (of MulticoreBSP) reads at the call, and writes then, as its rank itself does; what ranks do is not looked at here
--
-- `Courses` has the same as times. There it is a law that a byte is exposed just where both orders are allowed.
use Rattle.std.specs.Prelude.{◌≡◌, ℕ, ◌+◌, ◌<◌, ◌≤◌, ◌==◌, nat_le, Bool, true, false, not, ◌&&◌, if◌then◌else◌, IsTrue, List, Contains}
use Rattle.exposed_bytes.specs.declared.call.Call.{Call}
use Rattle.exposed_bytes.specs.declared.call.Sort.{Sort}
use Rattle.exposed_bytes.specs.declared.call.Sort.TheVariants.{Put, HpPut, Get, HpGet, Send, DirectGet}

-- reads and writes at any time from the call to the end of the superstep
abbrev pub is_unbuffered : Sort → Bool
is_unbuffered Put = false
is_unbuffered HpPut = true
is_unbuffered Get = false
is_unbuffered HpGet = true
is_unbuffered Send = false
is_unbuffered DirectGet = false

-- has read when the call returns
abbrev pub reads_at_call : Sort → Bool
reads_at_call Put = true
reads_at_call HpPut = false
reads_at_call Get = false
reads_at_call HpGet = false
reads_at_call Send = true
reads_at_call DirectGet = true

-- brings bytes into a memory, and not before others of its rank
abbrev pub delivers : Sort → Bool
delivers Put = true
delivers HpPut = true
delivers Get = true
delivers HpGet = true
delivers Send = false
delivers DirectGet = false

-- brings each byte to where it is
abbrev pub is_in_place : Call → Bool
is_in_place c = c.source_rank == c.target_rank && c.source == c.target

-- a call reads a byte of a rank's memory
pub record Reads (rank addr : ℕ) (c : Call) : Type 0 where
  pub there : c.source_rank ≡ rank
  pub from : c.source ≤ addr
  pub to : addr < c.source + c.len

-- a call may change memory: an unbuffered one that is in place writes only what is there
abbrev pub changes : Call → Bool
changes c = delivers c.sort && not (is_unbuffered c.sort && is_in_place c)

-- a call writes a byte of a rank's memory
pub record Writes (rank addr : ℕ) (c : Call) : Type 0 where
  pub changes : IsTrue (changes c)
  pub there : c.target_rank ≡ rank
  pub from : c.target ≤ addr
  pub to : addr < c.target + c.len

-- what a rank's call reads at once is read before a later call of that rank does anything
abbrev pub reads_before : Call → Call → Bool
reads_before a b = reads_at_call a.sort && (a.caller == b.caller && nat_le a.number b.number)

-- whether it is open which comes first, that one call reads or that another one writes. An unbuffered writer may come first, or last; but
-- what was read before its call was read before. A put and a get write last: of all readers only unbuffered ones may come behind them
abbrev pub is_open : Call → Call → Bool
is_open reader writer = if is_unbuffered writer.sort then not (reads_before reader writer) else is_unbuffered reader.sort

-- two calls, or one with itself, expose a byte: the first reads it, the second writes it, and it is open which comes first
pub record Exposes (rank addr : ℕ) (reader writer : Call) : Type 0 where
  pub read : Reads rank addr reader
  pub written : Writes rank addr writer
  pub free : IsTrue (is_open reader writer)

-- a byte is exposed by the calls of a superstep
abbrev pub IsExposed : List Call → ℕ → ℕ → Type 0
IsExposed calls rank addr = (reader writer : Call) × Contains calls reader × Contains calls writer × Exposes rank addr reader writer
