-- Since the transfer keeps to its area, `start_inside` finds its start, and what that contract says holds of the result.
use Rattle.std.proofs.Common.{◌≡◌, ◌∙◌, ℕ, Option, Some, None, false, sym, subst}
use Rattle.std.specs.Prelude.{IfSome, is_none, unwrap_or}
use Rattle.std.proofs.lemmas.Bool.{true≢false}
use Rattle.bsp_exchange.proofs.gather.start_of.Goals as goal

given : (o : Option ℕ) (P : ℕ → Type 0) (x : ℕ) → is_none o ≡ false → IfSome o P → x ≡ unwrap_or o 0 → P x
given (Some y) P x some p is = subst P (sym is) p
given None P x some p is = absurd (true≢false some)

pub returns : goal.returns
returns g c =
    let some = c.start_inside.ensures.inside ∙ c.requires.inside in
    record {
      value = given _ _ c.unwrap_or.result some c.start_inside.ensures.value c.unwrap_or.ensures;
      within = given _ _ c.unwrap_or.result some c.start_inside.ensures.within c.unwrap_or.ensures;
      most = given _ _ c.unwrap_or.result some c.start_inside.ensures.most c.unwrap_or.ensures;
    }
