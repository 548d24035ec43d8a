-- The first of the sixteen bytes of the window are those of the range.
use Rattle.std.proofs.Common.{◌≡◌, ℕ, ◌+◌, ◌-◌, ◌<◌, ◌≤◌, List, Option, Some, None, length, take, drop, sym, ap, ◌∙◌, arith}
use Rattle.std.specs.Prelude.{IfSome}
use Rattle.std.specs.Array.{IsFirstChunk}
use Rattle.std.specs.Borrow.{Bor}
use Rattle.std.specs.Option.{MatchOption}
use Rattle.std.proofs.lemmas.List.{take-take}
use Rattle.node_memory.specs.Bytes.{bytes_at}
use Rattle.node_memory.proofs.memory.Memory.read_16.Goals as goal

range_take : (m : List ℕ) (addr len : ℕ) → bytes_at m addr len ≡ take len (drop addr m)
range_take m addr len =
    let long : addr + len - addr ≡ len = omega arith in
    ap (λ n. take n (drop addr m)) long

first_of : (chunk : Option (Bor (List ℕ))) (m window : List ℕ) (addr len : ℕ) → len ≤ 16 → window ≡ bytes_at m addr 16
    → MatchOption chunk (length window < 16) (λ few. IsFirstChunk window few.now 16)
    → IfSome chunk (λ few. take len few.now ≡ bytes_at m addr len)
first_of None m window addr len within is cases = tt
first_of (Some few) m window addr len within is cases =
    ap (take len) cases.same
    ∙ take-take len 16 window within
    ∙ ap (take len) (is ∙ range_take m addr 16)
    ∙ take-take len 16 (drop addr m) within
    ∙ sym (range_take m addr len)

pub returns-then-at-clause-first : goal.returns-then-at-clause-first
returns-then-at-clause-first g c =
    first_of c.first_chunk.result c.args.self.now.bytes c.window.result.now c.args.addr c.args.len c.if-len-le16.true
    c.window.ensures.value c.first_chunk.ensures.cases
