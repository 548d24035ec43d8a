-- Each register adds its entry.
use Rattle.std.proofs.Common.{◌≡◌, ℕ, ◌+◌, ◌<◌, List, ◌∷◌, ◌++◌, get_or, drop}
use Rattle.std.proofs.Common.{length, string_bytes, add-one, drop-cons, append_assoc, sym, ap, ◌∙◌}
use Rattle.std.specs.Prelude.{codes}
use Rattle.std.specs.Fmt.{decimal}
use Rattle.std.specs.List.{flat_map, enumerate_from}
use Rattle.rv_listing.specs.Numerals.{eight_digits}
use Rattle.debug_lines.specs.Replies.{entry_end, register_entry}
use Rattle.debug_lines.proofs.reply.add_registers.Goals as goal

-- its parts are written in another order than the definition joins them in
entry-is : (number value end : List ℕ) → codes "x" ++ (number ++ (codes "=" ++ (value ++ end)))
    ≡ codes "x" ++ number ++ codes "=" ++ value ++ end
entry-is number value end = simp append_assoc

more : (x : List ℕ) (k : ℕ) (end before after whole : List ℕ) → k < length x → end ≡ entry_end 4 (length x) k
    → after ≡ before ++ (codes "x" ++ (decimal k ++ (codes "=" ++ (eight_digits (get_or x k 0) ++ end))))
    → before ++ flat_map (register_entry (length x)) (enumerate_from k (drop k x)) ≡ whole
    → after ++ flat_map (register_entry (length x)) (enumerate_from (k + 1) (drop (k + 1) x)) ≡ whole
more x k end before after whole within is written so_far =
    let entry = register_entry (length x) (k, get_or x k 0) in
    let added : after ≡ before ++ entry =
    rw is at written ∙ ap (λ bs. before ++ bs) (entry-is (decimal k) (eight_digits (get_or x k 0)) (entry_end 4 (length x) k)) in
    let cut : drop k x ≡ get_or x k 0 ∷ drop (k + 1) x = rw (add-one, drop-cons x k 0) in
    let rest = flat_map (register_entry (length x)) (enumerate_from (k + 1) (drop (k + 1) x)) in
    ap (λ bs. bs ++ rest) added ∙ append_assoc before entry rest
    ∙ ap (λ xs. before ++ flat_map (register_entry (length x)) (enumerate_from k xs)) (sym cut) ∙ so_far

pub loop-at-preserved : goal.loop-at-preserved
loop-at-preserved g c =
    more c.args.x.now c.loop-at.at-counter c.entry_end-end.result.now (string_bytes c.loop-at.text) (string_bytes c.write.new.self) _
    c.loop-at-test.true c.entry_end-end.ensures c.in_ok-write.ensures.bytes c.loop-at.invariant
