-- The sixteen bytes that are copied begin with the bytes held: their first `len` are those of the room, since `len` is at most 16.
use Rattle.std.proofs.Common.{ℕ, take, sym, ap, ◌∙◌, arith}
use Rattle.std.proofs.lemmas.List.{take-take}
use Rattle.shared_bytes.specs.Held.{held_bytes}
use Rattle.shared_bytes.proofs.SharedBytes.within_16.Goals as goal

pub returns-in_ok-few-in-Within-clause-first : goal.returns-in_ok-few-in-Within-clause-first
returns-in_ok-few-in-Within-clause-first g c =
    let within = c.in-Within.within in
    ap (λ (n : ℕ). take n c.in_ok-few-in-Within.few.now) c.from.ensures
    ∙ ap (take within.len) c.in_ok-few-in-Within.ensures.cases.same
    ∙ take-take within.len 16 within.room (omega arith)
    ∙ sym (ap held_bytes c.in-Within.is)
    ∙ c.self.view_is
