-- Which pages of a memory are private: the others it shares with other memories, and whoever writes to one of these first takes a
-- copy of it (own rules). Bytes do not tell: of two memories of the same bytes one may own what the other shares.
use Rattle.std.specs.Prelude.{◌≡◌, ℕ, ◌+◌, ◌*◌, ◌/◌, ◌<◌, ◌≤◌, Bool, true, false, List, length, replicate, slice_get, Some}
use Rattle.node_memory.specs.Bytes.{byte_at}

-- the bytes of a memory, and for each page of 4,096 of them whether it is private
pub record PagedMemory : Type 0 where
  pub bytes : List ℕ
  pub private : List Bool

-- no page of a memory of `size` bytes is private
abbrev pub none_private : ℕ → List Bool
none_private size = replicate (size / 4096) false

-- a page is private
abbrev pub IsPrivate : List Bool → ℕ → Type 0
IsPrivate private page = slice_get private page ≡ Some true

-- the memory has a page that is not private
abbrev pub IsShared : List Bool → ℕ → Type 0
IsShared private page = slice_get private page ≡ Some false

-- a page has one of the `len` bytes from `addr` on
pub record HasOneOf (addr len page : ℕ) : Type 0 where
  pub some : 0 < len
  pub begins_before_end : page * 4096 < addr + len
  pub ends_after_begin : addr < page * 4096 + 4096

-- the `len` bytes from `addr` on lie in the memory, and each page that has one of them is private
pub record Owns (private : List Bool) (addr len : ℕ) : Type 0 where
  pub within : addr + len ≤ length private * 4096
  pub pages : (page : ℕ) → HasOneOf addr len page → IsPrivate private page

-- as many pages, and what was private is private still
pub record KeepsPrivate (old new : List Bool) : Type 0 where
  pub pages : length new ≡ length old
  pub kept : (page : ℕ) → IsPrivate old page → IsPrivate new page

-- a range may have become private, and no other page has: what was private is private still, and each page that has none of the range's
-- bytes is as it was
pub record OwnsMore (addr len : ℕ) (old new : List Bool) : Type 0 where
  pub keeps : KeepsPrivate old new
  pub others : (page : ℕ) → (HasOneOf addr len page → ⊥) → slice_get new page ≡ slice_get old page

-- each byte of a page that is not private is 0
abbrev pub SharesZeros : PagedMemory → Type 0
SharesZeros m = (addr : ℕ) → IsShared m.private (addr / 4096) → byte_at m.bytes addr ≡ 0
