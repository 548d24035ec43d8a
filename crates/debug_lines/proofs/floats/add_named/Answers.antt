-- Each register adds its entry.
use Rattle.std.proofs.Common.{◌≡◌, ℕ, ◌+◌, ◌<◌, List, ◌∷◌, ◌++◌, get_or}
use Rattle.std.proofs.Common.{drop, length, string_bytes, add-one, drop-cons, append_assoc, ap, ◌∙◌}
use Rattle.std.specs.Prelude.{codes}
use Rattle.std.specs.List.{flat_map, enumerate_from}
use Rattle.debug_lines.specs.Floats.{float_blanks, float_label, named_float_entry}
use Rattle.debug_lines.specs.Replies.{entry_end, sixteen_digits}
use Rattle.debug_lines.proofs.Rows.{one-more}
use Rattle.debug_lines.proofs.floats.add_named.Goals as goal

-- its parts are written in another order than the definition joins them in
entry-is : (before name value end : List ℕ) → before ++ (name ++ (codes "=" ++ (value ++ end)))
    ≡ before ++ name ++ codes "=" ++ value ++ end
entry-is before name value end = simp append_assoc

more : (x : List ℕ) (k : ℕ) (blank end before after whole : List ℕ) → k < length x → blank ≡ float_blanks k → end ≡ entry_end 2 (length x) k
    → after ≡ before ++ (blank ++ (float_label k ++ (codes "=" ++ (sixteen_digits (get_or x k 0) ++ end))))
    → before ++ flat_map (named_float_entry (length x)) (enumerate_from k (drop k x)) ≡ whole
    → after ++ flat_map (named_float_entry (length x)) (enumerate_from (k + 1) (drop (k + 1) x)) ≡ whole
more x k blank end before after whole within first last written so_far =
    let entry = named_float_entry (length x) (k, get_or x k 0) in
    let is : blank ++ (float_label k ++ (codes "=" ++ (sixteen_digits (get_or x k 0) ++ end))) ≡ entry =
    rw (first, last) (entry-is (float_blanks k) (float_label k) (sixteen_digits (get_or x k 0)) (entry_end 2 (length x) k)) in
    let cut : drop k x ≡ get_or x k 0 ∷ drop (k + 1) x = rw (add-one, drop-cons x k 0) in
    one-more (named_float_entry (length x)) (k, get_or x k 0) (enumerate_from (k + 1) (drop (k + 1) x)) (enumerate_from k (drop k x)) before
    after whole
    (ap (enumerate_from k) cut) (written ∙ ap (λ bs. before ++ bs) is) so_far

pub loop-at-preserved : goal.loop-at-preserved
loop-at-preserved g c =
    more c.args.f.now c.loop-at.at c.blanks-before.result.now c.entry_end-end.result.now (string_bytes c.loop-at.text)
    (string_bytes c.write.new.self) _
    c.loop-at-test.true c.blanks-before.ensures c.entry_end-end.ensures c.in_ok-write.ensures.bytes c.loop-at.invariant
