-- The table by which threads share out the nodes of a phase: for each rank a word and a slot for its node, and behind them one word
-- that counts the workers. A thread acts through its seat, whose view is what it knows (own rule; the words are those of
-- `atomic_table`).
use Rattle.std.specs.Prelude.{◌≡◌, ◌↔◌, ℕ, ◌+◌, ◌^◌, ◌<◌, ◌≤◌, ◌==◌, Bool, true, false, not, ◌&&◌, ◌||◌, List, [], length, All, sum_by}
use Rattle.std.specs.Prelude.{count_by, slice_get, slice_index, Option, Some, None, IsSomeAnd, if◌then◌else◌}
use mathlib.Core.Option.{none, some}
use mathlib.Core.Option as maybe
use lib.ListN.{get_elem?}
use Rattle.atomic_table.specs.Table.{State}
use Rattle.node_core.specs.Node.{NodeState, PreparedNode, is_running, local_steps}
use Rattle.claim_table.specs.declared.view.View.{View}

-- what a phase begins with: the input that each node reads, and the row of nodes. Neither changes while the table stands
pub record StartOfPhase : Type 0 where
  pub input : List ℕ
  pub row : List NodeState

-- a node is the one of its rank at the start of the phase, after no or some steps of its own
abbrev pub HasStepped : StartOfPhase → ℕ → NodeState → Type 0
HasStepped start rank n = IsSomeAnd (slice_get start.row rank) (λ s. (k : ℕ) × (n ≡ local_steps start.input k s))

-- what a slot shows: `none` where it is out with a seat, else `some` of what lies in it, which is a node or, by `None`, nothing yet
abbrev pub Home : Type 0
Home = maybe.Option (Option PreparedNode)

-- the word of a rank, by what its slot shows: 0 where a node lies there that runs, 2 where it has stopped; 1 where it is out; 3 where
-- none has come yet
abbrev pub word_of : Home → ℕ
word_of none = 1
word_of (some None) = 3
word_of (some (Some n)) = if is_running n.node.state then 0 else 2

-- with how many seats a slot is out
abbrev pub holders : Home → ℕ
holders none = 1
holders (some x) = 0

-- how often a rank stands among what is out with a seat, by its view
abbrev pub times_held : ℕ → View → ℕ
times_held rank v = count_by (λ o. o.0 == rank) v.outs

-- and among what is out with all seats
abbrev pub total_held : ℕ → List View → ℕ
total_held rank views = sum_by (times_held rank) views

-- how many threads are counted as workers
abbrev pub enrolled : List View → ℕ
enrolled views = count_by (λ v. v.is_enrolled) views

-- each rank's word tells what its slot shows
abbrev pub WordsTell : List ℕ → List Home → Type 0
WordsTell words homes = (rank : ℕ) (home : Home) → get_elem? homes rank ≡ some home → slice_index words rank ≡ word_of home

-- from the mark on nothing has come to a slot yet, and of the others none is empty
abbrev pub AreEmptyFrom : ℕ → List Home → Type 0
AreEmptyFrom mark homes = (rank : ℕ) (home : Home) → get_elem? homes rank ≡ some home → (home ≡ some None) ↔ (mark ≤ rank)

-- a node that lies in a slot is that of its rank, no or some steps later
abbrev pub HomesHaveStepped : StartOfPhase → List Home → Type 0
HomesHaveStepped start homes = (rank : ℕ) (n : PreparedNode) → get_elem? homes rank ≡ some (some (Some n)) → HasStepped start rank n.node

-- a slot that is out stands in one view, once; one at home stands in none
abbrev pub AreOutOnce : List Home → List View → Type 0
AreOutOnce homes views = (rank : ℕ) (home : Home) → get_elem? homes rank ≡ some home → total_held rank views ≡ holders home

-- a seat may have slots out while its thread is a worker, and the keeper's until it has sealed the table
abbrev pub may_hold : View → Bool
may_hold v = v.is_enrolled || (v.is_keeper && not v.sealed)

-- a view by its seat's number. The first seat alone is the keeper's: it knows the mark, and whether the table is sealed, and its thread
-- is no worker by it. Each node in its list is that of its rank, no or some steps later, as it was when its slot went out; a worker's
-- ran then
pub record IsView (start : StartOfPhase) (mark : ℕ) (sealed : Bool) (seat : ℕ) (v : View) : Type 0 where
  pub keeper : v.is_keeper ≡ true → (seat ≡ 0) × (v.mark ≡ mark) × (v.sealed ≡ sealed) × (v.is_enrolled ≡ false)
  pub none_out : may_hold v ≡ false → v.outs ≡ []
  pub stepped : All (λ o. HasStepped start o.0 o.1) v.outs
  pub running : v.is_keeper ≡ false → All (λ o. is_running o.1.state ≡ true) v.outs

-- the last word counts the workers until the table is sealed. Then there are none, and it is 2^63
pub record IsCount (sealed : Bool) (count workers : ℕ) : Type 0 where
  pub is_count : count ≡ (if sealed then 2 ^ 63 else workers)
  pub fewer : workers < 2 ^ 63
  pub none_enrolled : sealed ≡ true → workers ≡ 0

-- the rule of the table, which holds between any two steps
pub record IsClaimTable (start : StartOfPhase) (s : State (Option PreparedNode) View) : Type 0 where
  -- how many ranks have been reserved for their nodes, and whether the table is sealed, which it is only when all are
  pub mark : ℕ
  pub sealed : Bool
  pub all_reserved : sealed ≡ true → mark ≡ length s.homes
  pub slots : length s.homes ≡ length start.row
  pub one_word_more : length s.words ≡ length s.homes + 1
  pub words_tell : WordsTell s.words s.homes
  pub empty : AreEmptyFrom mark s.homes
  pub homes_stepped : HomesHaveStepped start s.homes
  pub out_once : AreOutOnce s.homes s.views
  pub views_fit : (seat : ℕ) (v : View) → get_elem? s.views seat ≡ some v → IsView start mark sealed seat v
  pub count : IsCount sealed (slice_index s.words (length s.homes)) (enrolled s.views)
