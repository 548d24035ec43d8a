-- At each address that both landings cover a byte is found just where they bring different ones.
use Rattle.std.proofs.Common.{◌≡◌, ℕ, ◌<◌, ◌≤◌, ◌+◌, ◌⊎◌, ◌↔◌, length, sym, ap, subst, ◌∙◌, arith}
use Rattle.std.specs.Prelude.{◌≢◌}
use Rattle.bsp_exchange.specs.Landings.{Landing, landing_byte}
use Rattle.contested_bytes.specs.Ranges.{Has, IsIn, IsContestedRange}
use Rattle.contested_bytes.proofs.Compared.{below-same, below-more, below-whole, byte-contested}
use Rattle.contested_bytes.proofs.sweep.compare.Goals.{then-one-other+in_ok-add_range, else-one-other}
use Rattle.contested_bytes.proofs.sweep.compare.Goals as goal

pub loop-addr-preserved : goal.loop-addr-preserved
loop-addr-preserved g c =
    let a = c.args.first.now in
    let b = c.args.second.now in
    let at = c.loop-addr.addr in
    let old = c.args.found.now.items in
    let found = c.loop-addr.found.items in
    let known = c.loop-addr.invariant in
    let there : c.second.inside.rank ≡ b.rank = ap (λ (l : Landing). l.rank) c.second.view_is in
    let ranks : a.rank ≡ b.rank = sym (ap (λ (l : Landing). l.rank) c.first.view_is) ∙ c.if-first-second.false ∙ there in
    let from_b : b.addr ≤ at = omega (arith, c.loop-addr.auto.addr, ap (λ (l : Landing). l.addr) c.second.view_is) in
    let from_a : a.addr ≤ at = omega (arith, c.requires.order ranks, from_b) in
    let to_a : at < a.addr + length a.bytes =
    omega (arith, c.loop-addr-test.true, c.min-addr-end.ensures, c.end.ensures.value, c.end-2.ensures.value) in
    let to_b : at < b.addr + length b.bytes =
    omega (arith, c.loop-addr-test.true, c.min-addr-end.ensures, c.end.ensures.value, c.end-2.ensures.value) in
    elim c.if-one-other.branch [
      | then-one-other+in_ok-add_range w ↦
          let p = w.contender.result in
          let q = w.contender-then-one-other.result in
          let apart : landing_byte at a ≢ landing_byte at b =
          λ same. w.if-one-other.true (c.byte-one.ensures ∙ same ∙ sym c.byte-other.ensures) in
          let added = w.in_ok-add_range.ensures in
          rw w.found-is (record {
            within = added.within;
            bytes = below-more at a b p q old found w.add_range.new.found.items ranks from_a from_b to_a to_b apart known.bytes
                (subst (λ (r : ℕ). (rank addr : ℕ)
                → IsIn w.add_range.new.found.items rank addr
                ↔ (IsIn found rank addr ⊎ Has (record { rank = r; addr = at; len = 1; first = p; second = q }) rank addr)) there
                added.bytes);
            contested = λ all first second contested. added.contested all (known.contested all first second contested)
                (subst (λ (r : ℕ). IsContestedRange all (record { rank = r; addr = at; len = 1; first = p; second = q })) (sym there)
                (byte-contested at all a b p q first second ranks from_a from_b to_a to_b w.contender.ensures.key
                w.contender-then-one-other.ensures.key (w.contender.ensures.byte ∙ c.byte-one.ensures)
                (w.contender-then-one-other.ensures.byte ∙ c.byte-other.ensures)
                (λ same. w.if-one-other.true (sym w.contender.ensures.byte ∙ same ∙ w.contender-then-one-other.ensures.byte))));
          })
      | else-one-other w ↦
          rw w.found-is (record {
            within = known.within;
            bytes = below-same at a b old found (sym c.byte-one.ensures ∙ w.if-one-other.false ∙ c.byte-other.ensures) known.bytes;
            contested = known.contested;
          })
    ]

pub returns-clause-bytes : goal.returns-clause-bytes
returns-clause-bytes g c =
    below-whole c.loop-addr.addr c.args.first.now c.args.second.now c.args.found.now.items c.loop-addr.found.items
    (omega (arith, c.loop-addr-test.false, c.min-addr-end.ensures, c.end.ensures.value, c.end-2.ensures.value)) c.loop-addr.invariant.bytes
