-- Each line adds its text.
use Rattle.std.proofs.Common.{◌≡◌, ℕ, suc, ◌+◌, ◌-◌, ◌<◌, List, ◌∷◌, take, string_bytes, refl, arith}
use Rattle.rv_listing.specs.declared.lines.Line.{Line}
use Rattle.rv_listing.specs.Listing.{ended_line}
use Rattle.debug_lines.proofs.Rows.{one-more}
use Rattle.debug_lines.proofs.shown.add_codes.Goals as goal

take-next : (n k : ℕ) (line : Line) (left lines : List Line) → k < n → left ≡ line ∷ lines
    → take (n - k) left ≡ line ∷ take (n - (k + 1)) lines
take-next n k line left lines below is = let one : n - k ≡ suc (n - (k + 1)) = omega (arith, below) in rw (one, is) refl

pub loop-told-preserved : goal.loop-told-preserved
loop-told-preserved g c =
    one-more (ended_line c.args.extensions) c.in-Some.line _ _ (string_bytes c.loop-told.text) (string_bytes c.writeln.new.self) _
    (take-next c.args.count c.loop-told._told c.in-Some.line c.loop-told.lines c.next.new.self c.loop-told-test.true
    c.in-Some.ensures.steps)
    c.in_ok-writeln.ensures.bytes c.loop-told.invariant
