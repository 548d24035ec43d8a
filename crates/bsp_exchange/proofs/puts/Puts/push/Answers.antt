-- The patch is pushed without bytes and then filled in, so the list ends with the address and the bytes that were put.
use Rattle.std.proofs.Common.{◌≡◌, List, [], ◌∷◌, ◌++◌, length, get_or, ap, sym, ◌∙◌}
use Rattle.std.proofs.lemmas.List.{get_or_push}
use Rattle.bsp_exchange.specs.Parts.{Patch}
use Rattle.bsp_exchange.proofs.Patched.{filled_in}
use Rattle.bsp_exchange.proofs.puts.Puts.push.Goals as goal
use Rattle.bsp_exchange.proofs.puts.Puts.push.Goals.{then-len-capacity+in_ok-grow, else-len-capacity}

pub returns : goal.returns
returns g c =
    let before : c.if-len-capacity.self-inside.patches.items ≡ c.args.self.now = elim c.if-len-capacity.branch [
      | then-len-capacity+in_ok-grow w ↦ ap (λ p. p.patches.items) w.self-inside-is ∙ w.grow.ensures.items ∙ c.self.view_is
      | else-len-capacity w ↦ ap (λ p. p.patches.items) w.self-inside-is ∙ c.self.view_is
    ] in
    let old = c.if-len-capacity.self-inside.patches in
    let p : Patch = record { addr = c.args.addr; bytes = c.empty.result } in
    let items : List Patch = c.push_reserved.new.self.items in
    let place = c.len-place.ensures ∙ old.ok.0 in
    let pushed : items ≡ old.items ++ p ∷ [] = c.push_reserved.ensures.items in
    let at : get_or items c.len-place.result c.index_mut.result.now ≡ p =
    ap (λ (ps : List Patch). get_or ps c.len-place.result c.index_mut.result.now) pushed
    ∙ get_or_push old.items p c.index_mut.result.now c.len-place.result (sym place) in
    let there = c.behind-self.view_is ∙ c.index_mut.ensures.value ∙ at in
    record {
      ok =
          filled_in c.try_clone_from.result c.args.self.now items c.len-place.result p
          (record { addr = c.behind-self.inside.addr; bytes = c.try_clone_from.new.self }) c.args.addr c.args.bytes.now
          (pushed ∙ ap (λ (ps : List Patch). ps ++ p ∷ []) before) (place ∙ ap length before) (ap (λ (q : Patch). q.addr) there)
          c.try_clone_from.ensures.ok;
    }
