-- The first words are those of a table to which no node has come, and once it is filled it has the sizes that are kept of it.
use Rattle.std.proofs.Common.{◌≡◌, ℕ, ◌+◌, List, replicate, length, None, sym, ap, subst, ◌∙◌, arith}
use Rattle.std.proofs.lemmas.List.{length-map}
use Rattle.atomic_table.specs.Table.{opening}
use Rattle.node_core.specs.Node.{PreparedNode}
use Rattle.claim_table.specs.Claims.{IsClaimTable}
use Rattle.claim_table.specs.ClaimSteps.{keeper_view}
use Rattle.claim_table.specs.Start.{start_of}
use Rattle.claim_table.proofs.Ends.{opening-is, words_long}
use Rattle.claim_table.proofs.keeper.ClaimTable.open.Goals as goal

pub vacant-requires : goal.vacant-requires
vacant-requires g c =
    let phase = start_of (record { row = c.of.result; input = c.args.input }) in
    let ranks = c.len-ranks.result in
    let mapped : length phase.row ≡ length c.of.result.value.items = length-map c.of.result.value.items (λ (p : PreparedNode). p.node) in
    let long : length phase.row ≡ ranks = mapped ∙ ap (λ v. length v.items) c.of.ensures ∙ sym c.args.row.ok.0 ∙ sym c.len-ranks.ensures in
    subst (λ (ws : List ℕ). IsClaimTable phase (opening ws (replicate ranks None) (keeper_view 0)))
    (sym (c.as_slice.ensures.value ∙ c.in-Ok.ensures)) (opening-is phase ranks long)

pub invariant_of-opened : goal.invariant_of-opened
invariant_of-opened g c =
    let made = c.in-Ok-vacant.ensures in
    let filled = c.fill_all.ensures in
    let row = c.args.row in
    let ranks : c.len-ranks.result ≡ length row.items = c.len-ranks.ensures ∙ row.ok.0 in
    let key = made.5 in
    let words : length c.as_slice.result.now ≡ c.len-ranks.result + 1 =
    ap (λ (l : List ℕ). length l) (c.as_slice.ensures.value ∙ c.in-Ok.ensures) ∙ words_long c.len-ranks.result in
    record {
      sized = (made.0 ∙ words, made.1);
      reads = ap (λ k. k.input.now) (sym key);
      whole = ap (λ k. length k.row.value.items) key ∙ ap (λ v. length v.items) c.of.ensures ∙ sym ranks;
      roomy = (filled.room.0, omega (arith, filled.room.1, c.len-ranks.ensures, row.ok.1));
    }
