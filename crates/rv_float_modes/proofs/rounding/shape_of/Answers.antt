-- The numbers of the shape are those of the format.
use Rattle.std.proofs.Common.{ap, ◌∙◌, ◌+◌, ◌-◌, ℕ}
use Rattle.rv_float_modes.proofs.Roundings.{format_of, shape_of}
use Rattle.rv_float_modes.proofs.rounding.shape_of.Goals as goal
use lib.Count.{count_trailing_zeros}
use lib.Ieee.{top}

pub returns-clause-shape : goal.returns-clause-shape
returns-clause-shape g c =
    let f = g.P.Pattern.format in
    shape_of f _ (ap (λ (n : ℕ). count_trailing_zeros 64 n + 1) c.hidden.ensures)
    (ap (λ (n : ℕ). 4096 - n) c.low.ensures)
    c.hidden-2.ensures
    (ap (λ (n : ℕ). n - c.hidden-3.result) c.top.ensures ∙ ap (λ (n : ℕ). top f - n) c.hidden-3.ensures)
    c.top-2.ensures

pub returns-clause-format : goal.returns-clause-format
returns-clause-format g c = format_of g.P.Pattern.format _ (returns-clause-shape g c)
