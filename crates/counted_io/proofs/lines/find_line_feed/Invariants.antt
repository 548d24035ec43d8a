-- What was searched has no line feed, and all that the reader lost is in the text.
use Rattle.std.proofs.Common.{◌≡◌, ◌≤◌, ◌-◌, ◌<◌, ℕ, length, slice_index, true}
use Rattle.counted_io.specs.Lines.{LacksFeedWithin, ReadsOn}
use Rattle.counted_io.proofs.lines.find_line_feed.Given as goal

abbrev pub invariant-loop-at : goal.invariant-loop-at
invariant-loop-at g l = record {
  begun : l.fn.given ≤ l.searched;
  within : l.searched ≤ length l.text.items;
  limit : length l.text.items ≤ l.most;
  grown : length l.initial.text.items ≤ length l.text.items;
  absent : LacksFeedWithin l.text.items l.fn.given l.searched;
  bytes : ReadsOn (g.R.Read.remaining l.initial.from.inner) (g.R.Read.remaining l.from.inner) l.initial.text.items l.text.items;
  untouched : (at : ℕ) → l.fn.given ≤ at → at < length l.initial.text.items → slice_index l.initial.text.items at ≡ 10
      → (l.from ≡ l.initial.from) × (l.text.items ≡ l.initial.text.items);
  over : l.fn.ended ≡ true → (l.from ≡ l.initial.from) × (l.text.items ≡ l.initial.text.items);
  failures : l.initial.from.failures ≤ l.from.failures;
}

abbrev pub decreases-loop-at : goal.decreases-loop-at
decreases-loop-at g l = l.most - length l.text.items
