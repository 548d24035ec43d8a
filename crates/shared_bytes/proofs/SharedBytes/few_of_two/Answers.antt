-- The room begins with the first bytes, which the second copy leaves, and goes on with the second ones.
use Rattle.std.proofs.Common.{◌≡◌, ℕ, ◌+◌, List, ◌++◌, length, take, ap, ◌∙◌}
use Rattle.std.proofs.Math.Seq.{take-append_seam, take-append-add}
use Rattle.shared_bytes.proofs.SharedBytes.few_of_two.Goals as goal

-- two lists, the second copied behind the first, of which the rest is overwritten
joined : (xs ys rest more a b : List ℕ) → a ≡ xs → b ≡ ys → take (length xs + length ys) (take (length xs) (a ++ rest) ++ (b ++ more)) ≡ xs ++ ys
joined xs ys rest more a b first second =
    ap (λ (l : List ℕ). take (length xs + length ys) (take (length xs) (l ++ rest) ++ (b ++ more))) first
    ∙ ap (λ (l : List ℕ). take (length xs + length ys) (l ++ (b ++ more))) (take-append_seam xs rest)
    ∙ take-append-add xs (b ++ more) (length ys)
    ∙ ap (λ (l : List ℕ). xs ++ take (length ys) (l ++ more)) second
    ∙ ap (λ (l : List ℕ). xs ++ l) (take-append_seam ys more)

pub returns : goal.returns
returns g c =
    joined c.args.first.now c.args.second.now _ _ c.copy_from_slice.new.self c.copy_from_slice-2.new.self
    c.copy_from_slice.ensures.after c.copy_from_slice-2.ensures.after
