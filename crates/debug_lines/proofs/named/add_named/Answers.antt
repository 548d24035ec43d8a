-- Each register adds its entry.
use Rattle.std.proofs.Common.{◌≡◌, ℕ, ◌+◌, ◌<◌, List, ◌∷◌, ◌++◌, get_or}
use Rattle.std.proofs.Common.{drop, length, string_bytes, add-one, drop-cons, append_assoc, ap, ◌∙◌}
use Rattle.std.specs.Prelude.{codes}
use Rattle.std.specs.List.{flat_map, enumerate_from}
use Rattle.rv_listing.specs.Numerals.{eight_digits}
use Rattle.debug_lines.specs.Named.{blanks, label, named_entry}
use Rattle.debug_lines.specs.Replies.{entry_end}
use Rattle.debug_lines.proofs.Rows.{one-more}
use Rattle.debug_lines.proofs.named.add_named.Goals as goal

-- its parts are written in another order than the definition joins them in
entry-is : (before name value end : List ℕ) → before ++ (name ++ (codes "=" ++ (value ++ end)))
    ≡ before ++ name ++ codes "=" ++ value ++ end
entry-is before name value end = simp append_assoc

more : (x : List ℕ) (k : ℕ) (blank end before after whole : List ℕ) → k < length x → blank ≡ blanks k → end ≡ entry_end 4 (length x) k
    → after ≡ before ++ (blank ++ (label k ++ (codes "=" ++ (eight_digits (get_or x k 0) ++ end))))
    → before ++ flat_map (named_entry (length x)) (enumerate_from k (drop k x)) ≡ whole
    → after ++ flat_map (named_entry (length x)) (enumerate_from (k + 1) (drop (k + 1) x)) ≡ whole
more x k blank end before after whole within first last written so_far =
    let entry = named_entry (length x) (k, get_or x k 0) in
    let is : blank ++ (label k ++ (codes "=" ++ (eight_digits (get_or x k 0) ++ end))) ≡ entry =
    rw (first, last) (entry-is (blanks k) (label k) (eight_digits (get_or x k 0)) (entry_end 4 (length x) k)) in
    let cut : drop k x ≡ get_or x k 0 ∷ drop (k + 1) x = rw (add-one, drop-cons x k 0) in
    one-more (named_entry (length x)) (k, get_or x k 0) (enumerate_from (k + 1) (drop (k + 1) x)) (enumerate_from k (drop k x)) before after
    whole
    (ap (enumerate_from k) cut) (written ∙ ap (λ bs. before ++ bs) is) so_far

pub loop-at-preserved : goal.loop-at-preserved
loop-at-preserved g c =
    more c.args.x.now c.loop-at.at c.blanks-before.result.now c.entry_end-end.result.now (string_bytes c.loop-at.text)
    (string_bytes c.write.new.self) _
    c.loop-at-test.true c.blanks-before.ensures c.entry_end-end.ensures c.in_ok-write.ensures.bytes c.loop-at.invariant
