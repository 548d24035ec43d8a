-- The messages read so far are the first ones of the queue, one more with each pass, and at its length all of them.
use Rattle.std.proofs.Common.{◌≡◌, ℕ, ◌+◌, ◌<◌, inl, inr, List, [], ◌∷◌, ◌++◌, length, take, Some, None, slice_get, arith, sym, ap, ◌∙◌}
use Rattle.std.proofs.lemmas.List.{take_more, take_all}
use Rattle.std.proofs.lemmas.Option.{slice_get_cases, slice_get_within, get_or_from_slice_get}
use Rattle.bsp_requests.specs.Message.{Message}
use Rattle.bsp_debug.specs.Reply.{queue as queue_answer}
use Rattle.bsp_debug.proofs.reads.queue_of.Goals as goal
use Rattle.bsp_debug.proofs.reads.queue_of.Goals.{in-Some+in_ok-try_clone+in_ok-push, in_default}

-- the first messages with the next one are those up to and with it
take-next : (inbox queue : List Message) (i : ℕ) (m : Message) (first : List Message) → inbox ≡ queue → Some m ≡ slice_get inbox i
    → first ≡ take i queue → first ++ m ∷ [] ≡ take (i + 1) queue
take-next inbox queue i m first same found are =
    let within = slice_get_within inbox i m (sym found) in
    let here = get_or_from_slice_get inbox i m m (sym found) in
    let more = take_more inbox i m within in
    cc

-- there is a message at each place below the queue's length
none-within : (inbox : List Message) (i : ℕ) → i < length inbox → None ≡ slice_get inbox i → ⊥
none-within inbox i within none = elim (slice_get_cases inbox i).1 [
  | inl here ↦ let found = here.2 in cc
  | inr past ↦ omega (arith, within, past.0)
]

pub loop-i-init : goal.loop-i-init
loop-i-init g c = c.in_ok-messages.ensures.items

pub loop-i-preserved : goal.loop-i-preserved
loop-i-preserved g c =
    let inbox = c.inbox-inbox.result.now in
    let queue = c.args.node.now.node.hart.communication.queue in
    elim c.match-at.branch [
      | in-Some+in_ok-try_clone+in_ok-push w ↦
          rw (w.messages-is, w.in_ok-push.ensures.items, w.in_ok-try_clone.ensures)
          (take-next inbox queue c.loop-i.i w.in-Some.message.now c.loop-i.messages.items c.inbox-inbox.ensures w.in-Some.ensures
          c.loop-i.invariant)
      | in_default w ↦
          absurd (none-within inbox c.loop-i.i (omega (arith, c.loop-i-test.true, c.count-i-end.ensures.value)) w.in_default.ensures)
    ]

pub returns : goal.returns
returns g c =
    let queue = c.args.node.now.node.hart.communication.queue in
    let whole : take c.loop-i.i queue ≡ queue =
    take_all c.loop-i.i queue (omega (arith, ap length c.inbox-inbox.ensures, c.count-i-end.ensures.value)) in
    ap queue_answer (c.from_vec.ensures ∙ c.loop-i.invariant ∙ whole)
