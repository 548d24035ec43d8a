-- The bytes of a queue of messages.
use Rattle.std.specs.Prelude.{◌≡◌, ℕ, ◌^◌, ◌<◌, List, length, sum_by, All}
use Rattle.bsp_requests.specs.Message.{Message, IsShort}

-- BSPlib's `bsp_qsize`: the accumulated size of the payloads, without tags
abbrev pub payload_bytes : List Message → ℕ
payload_bytes messages = sum_by (λ m. length m.payload) messages

-- own limits: fewer than 2 ^ 41 messages, each with a tag and a payload of at most 2 ^ 30 bytes, and payloads whose bytes a word of 64
-- bits counts
pub record IsQueue (messages : List Message) : Type 0 where
  pub few : length messages < 2 ^ 41
  pub short : All IsShort messages
  pub light : payload_bytes messages < 2 ^ 64

-- a queue, and the number n is the sum of its payloads' bytes
pub record IsCountedQueue (messages : List Message) (n : ℕ) : Type 0 where
  pub queue : IsQueue messages
  pub sum : n ≡ payload_bytes messages
