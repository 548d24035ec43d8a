-- A range that joins the last one makes that longer, and any other comes behind it with a byte between.
use Rattle.std.proofs.Common.{◌≡◌, ◌-◌, length, get_or, sym, ap, subst, ◌∙◌, arith}
use Rattle.std.proofs.lemmas.Bool.{both_ways}
use Rattle.std.proofs.lemmas.List.{get_or_default}
use Rattle.std.proofs.lemmas.List.Elements.{All-push}
use Rattle.contested_bytes.specs.declared.range.ContestedRange.{ContestedRange}
use Rattle.contested_bytes.specs.Ranges.{IsContestedRange}
use Rattle.contested_bytes.specs.Places.{Joins}
use Rattle.contested_bytes.proofs.Added.{bytes-grown, contested-grown, apart-grown, apart-more}
use Rattle.contested_bytes.proofs.range.add_range.Goals.{else-count-gt0-via-then-count-gt0+else-joins, else-count-gt0-via-else-count-gt0}
use Rattle.contested_bytes.proofs.range.add_range.Goals as goal

pub returns-then-joins-clause-bytes : goal.returns-then-joins-clause-bytes
returns-then-joins-clause-bytes g c =
    bytes-grown c.args.found.now.items (c.len-count.result - 1) c.index-then-joins.result.now c.with.result c.args.range
    (omega (arith, c.len-count.ensures, c.if-count-gt0.true)) c.index-then-joins.ensures c.with.ensures.bytes

pub returns-then-joins-clause-contested : goal.returns-then-joins-clause-contested
returns-then-joins-clause-contested g c = λ all old new.
    contested-grown all c.args.found.now.items (c.len-count.result - 1) c.index-then-joins.result.now c.with.result
    (omega (arith, c.len-count.ensures, c.if-count-gt0.true)) c.index-then-joins.ensures c.with.ensures.same c.with.ensures.more old

pub returns-then-joins-clause-apart : goal.returns-then-joins-clause-apart
returns-then-joins-clause-apart g c = λ apart starts.
    apart-grown c.args.found.now.items (c.len-count.result - 1) c.index-then-joins.result.now c.with.result
    (omega (arith, c.len-count.ensures, c.if-count-gt0.true)) c.index-then-joins.ensures
    (ap (λ (r : ContestedRange). r.rank) c.with.ensures.same) (ap (λ (r : ContestedRange). r.addr) c.with.ensures.same) apart

pub returns-clause-contested : goal.returns-clause-contested
returns-clause-contested g c =
    λ all old new. rw c.in_ok-push.ensures.items (All-push (IsContestedRange all) c.args.found.now.items c.args.range old new)

pub returns-clause-apart : goal.returns-clause-apart
returns-clause-apart g c = λ apart starts.
    let found = c.args.found.now.items in
    rw c.in_ok-push.ensures.items (apart-more found c.args.range apart starts (λ d some joins. elim c.else-count-gt0.branch [
      | else-count-gt0-via-then-count-gt0+else-joins w ↦
          let n = c.len-count.result - 1 in
          let count : length found ≡ c.len-count.result = omega (arith, c.len-count.ensures) in
          let last : get_or found (length found - 1) d ≡ w.index.result.now =
          ap (λ k. get_or found (k - 1) d) count
          ∙ get_or_default found n d w.index.result.now (omega (arith, c.len-count.ensures, some))
          ∙ sym w.index.ensures in
          both_ways w.joins.result w.if-joins.false (w.joins.ensures.1 (subst (λ l. Joins l c.args.range) last joins))
      | else-count-gt0-via-else-count-gt0 w ↦ omega (arith, w.if-count-gt0.false, c.len-count.ensures, some)
    ]))
