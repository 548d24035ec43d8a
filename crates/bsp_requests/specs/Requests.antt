-- The requests and the output of one node in one superstep, and their limits.
use Rattle.std.specs.Prelude.{◌≡◌, ℕ, ◌+◌, ◌^◌, ◌≤◌, ◌↔◌, Bool, ◌||◌, nat_le, nat_lt, List, [], ◌∷◌, ◌++◌, length, sum_by, IsTrue, Result}
use Rattle.std.specs.Prelude.{if◌then◌else◌, OnOk, OnErr, IsErrOf}
use Rattle.bsp_requests.specs.Request.{Asked, size_of}
use Rattle.bsp_requests.specs.declared.requests.AddError.{AddError}
use Rattle.bsp_requests.specs.declared.requests.AddError.TheVariants.{TooMuch}

-- the requests in issue order, and the output; and whether their limits are those of a large machine
pub record Requests : Type 0 where
  pub requests : List Asked
  pub output : List ℕ
  pub large : Bool

-- a node that asked for nothing and wrote nothing
abbrev pub no_requests : Bool → Requests
no_requests large = record { requests = []; output = []; large = large }

-- one request more, issued last
abbrev pub with_request : Requests → Asked → Requests
with_request r q = record r { requests = r.requests ++ q ∷ [] }

-- more output, after what stands there
abbrev pub with_output : Requests → List ℕ → Requests
with_output r bytes = record r { output = r.output ++ bytes }

-- own limit: the requests of a node in a superstep, in a large machine and in any other
abbrev pub max_requests : Bool → ℕ
max_requests large = if large then 2 ^ 24 else 65536

-- own limit: the bytes of a node in a superstep, likewise
abbrev pub max_bytes : Bool → ℕ
max_bytes large = if large then 2 ^ 30 else 2 ^ 24

-- the bytes of all requests and of the output, as one sum
abbrev pub total_bytes : Requests → ℕ
total_bytes r = sum_by size_of r.requests + length r.output

-- no limit is passed
pub record IsWithinLimits (r : Requests) : Type 0 where
  pub requests : length r.requests ≤ max_requests r.large
  pub bytes : total_bytes r ≤ max_bytes r.large

-- whether so many bytes more would pass the limit on bytes
abbrev pub are_too_many : Requests → ℕ → Bool
are_too_many r n = nat_lt (max_bytes r.large) (total_bytes r + n)

-- whether one request more, of n bytes, would pass a limit
abbrev pub is_full_for : Requests → ℕ → Bool
is_full_for r n = nat_le (max_requests r.large) (length r.requests) || are_too_many r n

-- whether this request would
abbrev pub is_too_much : Requests → Asked → Bool
is_too_much r q = is_full_for r (size_of q)

-- a request was to be issued: it is; or it would pass a limit, or memory is refused, and nothing has changed
pub record IsIssued (q : Asked) (old new : Requests) (answer : Result (Unit {0}) AddError) : Type 0 where
  pub ok : OnOk answer (new ≡ with_request old q)
  pub too_much : IsErrOf answer TooMuch ↔ IsTrue (is_too_much old q)
  pub err : OnErr answer (new ≡ old)

-- the number n is the sum of its bytes, and no limit is passed
pub record IsCounted (r : Requests) (n : ℕ) : Type 0 where
  pub sum : n ≡ total_bytes r
  pub within : IsWithinLimits r
