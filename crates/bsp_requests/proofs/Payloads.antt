-- Payloads of a queue: their bytes are counted still when the first message is taken.
use Rattle.std.proofs.Common.{◌≡◌, ℕ, ◌+◌, ◌-◌, ◌∙◌, ap, ◌*◌, ◌^◌, ◌<◌, ◌≤◌, List, ◌∷◌, length, drop, arith}
use Rattle.std.specs.Prelude.{All}
use Rattle.std.proofs.lemmas.List.{length-drop}
use Rattle.std.proofs.lemmas.List.Elements.{All-drop}
use Rattle.std.proofs.lemmas.List.Sums.{sum_by-cons}
use Rattle.bsp_requests.specs.Inbox.{payload_bytes, IsQueue, IsCountedQueue}
use Rattle.bsp_requests.specs.Message.{Message, IsShort}

-- a queue without its first message is one
rest_is_queue : (first : Message) (rest : List Message) → IsQueue (first ∷ rest) → IsQueue rest
rest_is_queue first rest queue =
    let n : length rest ≡ length (first ∷ rest) - 1 = length-drop 1 (first ∷ rest) in
    let more : payload_bytes (first ∷ rest) ≡ length first.payload + payload_bytes rest =
    sum_by-cons (λ m. length m.payload) first rest in
    record {
      few = omega (arith, n, queue.few);
      short = All-drop IsShort 1 (first ∷ rest) queue.short;
      light = omega (arith, more, queue.light);
    }

-- what is left of a queue when its first message is taken
pub rest_is_counted : (messages rest : List Message) (first : Message) (n k : ℕ) → messages ≡ first ∷ rest → k ≡ length first.payload
    → IsCountedQueue messages n → IsCountedQueue rest (n - k)
rest_is_counted messages rest first n k whole size counted =
    let old : IsCountedQueue (first ∷ rest) n = rw (← whole) counted in
    let more : n ≡ length first.payload + payload_bytes rest = old.sum ∙ sum_by-cons (λ m. length m.payload) first rest in
    record { queue = rest_is_queue first rest old.queue; sum = omega (arith, more, size) }

-- the queue of some messages, whose payloads were summed as `read`
pub is_counted : (messages items read : List Message) (n : ℕ) → items ≡ messages → read ≡ messages → n ≡ payload_bytes read
    → length messages < 2 ^ 41 → All IsShort messages → payload_bytes messages < 2 ^ 64 → IsCountedQueue items n
is_counted messages items read n same same_read sum few short light =
    rw same (record { queue = record { few = few; short = short; light = light }; sum = sum ∙ ap payload_bytes same_read })
