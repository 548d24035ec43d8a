-- The line, whose parts are joined in another order than the definition joins them in.
use Rattle.std.proofs.Common.{◌≡◌, ◌∙◌, ◌++◌, ◌/◌, ◌%◌, List, ℕ, append_assoc}
use Rattle.std.specs.Prelude.{codes}
use Rattle.std.specs.Fmt.{decimal}
use Rattle.std.proofs.lemmas.Result.{IfOk-weaker}
use Rattle.rv_listing.specs.Numerals.{eight_digits}
use Rattle.debug_lines.specs.Replies.{flag_names}
use Rattle.debug_lines.proofs.floats.fcsr_line.Goals as goal

line-is : (rank digits frm flags : List ℕ)
    → codes "rank " ++ (rank ++ (codes " fcsr " ++ (digits ++ (codes " frm " ++ (frm ++ (codes " flags" ++ (flags ++ codes "\n")))))))
    ≡ codes "rank " ++ rank ++ codes " fcsr " ++ digits ++ codes " frm " ++ frm ++ codes " flags" ++ flags ++ codes "\n"
line-is rank digits frm flags = simp append_assoc

pub returns : goal.returns
returns g c =
    let fcsr = c.args.fcsr in
    IfOk-weaker c.format.result _ _
    (λ text written. written ∙ line-is (decimal c.args.rank) (eight_digits fcsr) (decimal (fcsr / 32 % 8)) (flag_names fcsr))
    c.format.ensures.ok
