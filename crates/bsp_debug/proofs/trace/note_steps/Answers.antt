-- No steps need no entry, and some steps are one entry more.
use Rattle.std.proofs.Common.{◌≡◌, ℕ, zero, suc, ◌<◌, ◌∙◌, List, [], ◌∷◌, ◌++◌, sym, arith}
use Rattle.bsp_debug.specs.declared.made.Made.{Made}
use Rattle.bsp_debug.specs.declared.made.Made.TheVariants.{Steps}
use Rattle.bsp_debug.specs.Trace.{with_steps}
use Rattle.bsp_debug.proofs.Entries.{with_some}
use Rattle.bsp_debug.proofs.trace.note_steps.Goals as goal

some_steps : (entries : List Made) (rank count : ℕ) → 0 < count → with_steps entries rank count ≡ entries ++ Steps rank count ∷ []
some_steps entries rank zero some = absurd (omega (arith, some))
some_steps entries rank (suc count) some = with_some entries rank count

pub returns-then-count-gt0 : goal.returns-then-count-gt0
returns-then-count-gt0 g c =
    c.push_reserved.ensures.items ∙ sym (some_steps c.args.made.now.items c.args.rank c.args.count c.if-count-gt0.true)
