-- What each step at the claim table tells the thread that makes it: of its view and its slots before, what the word was found to be,
-- and its view and its slots after.
use Rattle.std.specs.Prelude.{◌≡◌, ◌≢◌, ℕ, ◌+◌, true, false, [], ◌∷◌, Option, Some, None}
use mathlib.Core.Option.{some}
use Rattle.atomic_table.specs.Table.{Me, Step, rest}
use Rattle.node_core.specs.Node.{NodeState, PreparedNode, is_running}
use Rattle.claim_table.specs.declared.view.View.{View}

-- a seat's view, and its slots, each with what lies in it
abbrev pub ViewAndSlots : Type 0
ViewAndSlots = Me (Option PreparedNode) View

-- the view of a thread that is no worker: it has not begun, or has ended
abbrev pub view_away : View
view_away = record { is_keeper = false; mark = 0; sealed = false; is_enrolled = false; outs = [] }

-- the view of a worker with no node
abbrev pub view_at_work : View
view_at_work = record { is_keeper = false; mark = 0; sealed = false; is_enrolled = true; outs = [] }

-- the keeper's view with no slot out, when so many ranks are reserved
abbrev pub keeper_view : ℕ → View
keeper_view mark = record { is_keeper = true; mark = mark; sealed = false; is_enrolled = false; outs = [] }

-- a view with a node out besides
abbrev pub after_take : ℕ → NodeState → View → View
after_take rank n v = record v { outs = (rank, n) ∷ v.outs }

-- a view without the node that was taken last
abbrev pub after_give : View → View
after_give v = record v { outs = rest v.outs }

-- the keeper reserves a rank for the node that the step announces: it has the slot, where nothing lies yet, and its mark is one past
-- that rank. This does not miss
abbrev pub Reserves : Step (Option PreparedNode) → ViewAndSlots → ℕ → ViewAndSlots → Type 0
Reserves t old found new = (n : PreparedNode) → t.said ≡ some (Some n)
    → new ≡ (after_take t.word n.node (record old.0 { mark = t.word + 1 }), (t.word, None) ∷ old.1)

-- the slot that was taken last goes back with what lies in it now: the keeper fills a slot so, and a worker gives a node back
abbrev pub Returns : Step (Option PreparedNode) → ViewAndSlots → ℕ → ViewAndSlots → Type 0
Returns t old found new = new ≡ (after_give old.0, rest old.1)

-- where the count was as expected, the thread is counted as a worker; else nothing changes
abbrev pub Enrols : Step (Option PreparedNode) → ViewAndSlots → ℕ → ViewAndSlots → Type 0
Enrols t old found new = (found ≡ t.first → new ≡ (record old.0 { is_enrolled = true }, old.1)) × (found ≢ t.first → new ≡ old)

-- where a node lay there that runs, it is out with the worker; else nothing changes
abbrev pub Takes : Step (Option PreparedNode) → ViewAndSlots → ℕ → ViewAndSlots → Type 0
Takes t old found new =
    (found ≡ t.first
    → (n : PreparedNode) × (is_running n.node.state ≡ true) × (new ≡ (after_take t.word n.node old.0, (t.word, Some n) ∷ old.1)))
    × (found ≢ t.first → new ≡ old)

-- a worker is counted no more
abbrev pub Retires : Step (Option PreparedNode) → ViewAndSlots → ℕ → ViewAndSlots → Type 0
Retires t old found new = new ≡ (record old.0 { is_enrolled = false }, old.1)

-- where no worker is counted, the table is sealed; else nothing changes
abbrev pub Seals : Step (Option PreparedNode) → ViewAndSlots → ℕ → ViewAndSlots → Type 0
Seals t old found new = (found ≡ t.first → new ≡ (record old.0 { sealed = true }, old.1)) × (found ≢ t.first → new ≡ old)
