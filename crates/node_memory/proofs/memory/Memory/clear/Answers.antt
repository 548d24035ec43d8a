-- A range is cleared page by page; a page that is shared has zeros already.
use Rattle.std.proofs.Common.{◌≡◌, ◌/◌, ◌<◌, ℕ, length, replicate, refl, sym, ap, ◌∙◌, arith}
use Rattle.std.proofs.lemmas.List.{length-replicate}
use Rattle.std.proofs.lemmas.Bool.{false≢true}
use Rattle.node_memory.specs.Bytes.{with_bytes}
use Rattle.node_memory.specs.Pages.{IsPrivate, IsShared}
use borrow.Author.Count.{falls}
use Rattle.node_memory.proofs.Writes.{length-with_bytes}
use Rattle.node_memory.proofs.Zeros.{below_page, below_first, below_end, cleared_none, end_page-fits, page_start-fits, part-ordered}
use Rattle.node_memory.proofs.Zeros.{part-in_page, some-end, start-within, cleared_more, cleared_shared, private_or_shared}
use Rattle.node_memory.proofs.memory.Memory.clear.Goals.{then-not-shares+in_ok-clear_window, else-not-shares}
use Rattle.node_memory.proofs.memory.Memory.clear.Goals as goal

pub returns-then-len-eq0-clause-bytes : goal.returns-then-len-eq0-clause-bytes
returns-then-len-eq0-clause-bytes g c = cleared_none _ c.args.addr _ c.if-len-eq0.true (start-within _ _ _ c.requires.within)

pub returns-then-len-eq0-clause-rest : goal.returns-then-len-eq0-clause-rest
returns-then-len-eq0-clause-rest g c = c.requires.rest

pub overflow_sub-page-end : goal.overflow_sub-page-end
overflow_sub-page-end g c = some-end _ _ c.if-len-eq0.false

pub overflow_add-page-end : goal.overflow_add-page-end
overflow_add-page-end g c = end_page-fits _ _ c.requires.within c.recall_size.ensures.most

pub loop-page-init : goal.loop-page-init
loop-page-init g c = (
  cleared_none _ c.args.addr _ (below_first c.args.addr c.args.len) (start-within _ _ _ c.requires.within),
  c.requires.rest,
  refl,
)

pub overflow_mul-page-then-not-shares : goal.overflow_mul-page-then-not-shares
overflow_mul-page-then-not-shares g c =
    page_start-fits _ _ c.loop-page.page c.loop-page-test.true c.requires.within c.recall_size.ensures.most

pub overflow_sub-to : goal.overflow_sub-to
overflow_sub-to g c =
    part-ordered _ _ _ _ _ c.max-from.ensures c.min-to.ensures c.loop-page.auto.page c.loop-page-test.true c.if-len-eq0.false

pub clear_window-requires-clause-one_page : goal.clear_window-requires-clause-one_page
clear_window-requires-clause-one_page g c =
    part-in_page _ _ _ _ _ c.max-from.ensures c.min-to.ensures c.loop-page.auto.page c.loop-page-test.true c.if-len-eq0.false

pub clear_window-requires-clause-zeros : goal.clear_window-requires-clause-zeros
clear_window-requires-clause-zeros g c = c.requires.zeros

pub clear_window-requires-clause-rest : goal.clear_window-requires-clause-rest
clear_window-requires-clause-rest g c = c.loop-page.invariant.1

pub loop-page-smaller : goal.loop-page-smaller
loop-page-smaller g c = falls _ c.loop-page.page c.loop-page-test.true

pub returns-clause-bytes : goal.returns-clause-bytes
returns-clause-bytes g c =
    c.loop-page.invariant.0
    ∙ ap (λ n. with_bytes c.args.self.now.bytes c.args.addr (replicate n 0))
    (below_end c.args.addr c.args.len c.loop-page.page c.loop-page-test.false)

pub returns-clause-rest : goal.returns-clause-rest
returns-clause-rest g c = c.loop-page.invariant.1

pub overflow_add-end : goal.overflow_add-end
overflow_add-end g c = omega (arith, c.recall_size.ensures.most, c.requires.within)

pub overflow_mul-page : goal.overflow_mul-page
overflow_mul-page g c = omega (arith, c.recall_size.ensures.most, c.requires.within)

pub overflow_add-page : goal.overflow_add-page
overflow_add-page g c = omega (arith, c.recall_size.ensures.most, c.requires.within)

pub clear_window-requires-clause-within : goal.clear_window-requires-clause-within
clear_window-requires-clause-within g c =
    let done = below_page c.args.addr c.args.len c.loop-page.page in
    let n : length (replicate {A = ℕ} done 0) ≡ done = length-replicate {A = ℕ} done 0 in
    let size =
    ap length c.loop-page.invariant.0
    ∙ length-with_bytes c.args.self.now.bytes c.args.addr (replicate done 0) (omega (arith, c.requires.within)) in
    omega (arith, size, c.requires.within)

pub clear_window-requires-clause-private : goal.clear_window-requires-clause-private
clear_window-requires-clause-private g c =
    let count = c.loop-page.invariant.2 in
    let page = c.loop-page.page in
    let in' : page < length c.loop-page.self.private = omega (arith, c.recall_size.ensures.pages, count, c.requires.within) in
    let private : IsPrivate c.loop-page.self.private page =
    private_or_shared c.loop-page.self.private page in' (λ shared. false≢true (sym c.if-not-shares.true ∙ c.shares.ensures.1 shared)) in
    let at : c.max-from.result / 4096 ≡ page = omega arith in
    rw at private

pub loop-page-preserved : goal.loop-page-preserved
loop-page-preserved g c =
    let h = c.loop-page.invariant in
    let page = c.loop-page.page in
    elim c.if-not-shares.branch [
      | then-not-shares+in_ok-clear_window w ↦ (
        ap (λ m. m.bytes) w.self-is
            ∙ cleared_more c.args.self.now.bytes c.loop-page.self.bytes _ c.args.addr c.args.len page w.max-from.result w.min-to.result h.0
            (omega arith) (omega arith) w.in_ok-clear_window.ensures.bytes (omega arith) (omega arith) (omega arith) c.requires.within,
        rw w.self-is w.in_ok-clear_window.ensures.rest,
        ap (λ m. length m.private) w.self-is ∙ w.in_ok-clear_window.ensures.pages ∙ h.2,
      )
      | else-not-shares w ↦
          let shared : IsShared c.loop-page.self.private page = c.shares.ensures.0 w.if-not-shares.false in (
            ap (λ m. m.bytes) w.self-is ∙ cleared_shared c.args.self.now c.loop-page.self c.args.addr c.args.len page h.0 h.1 shared
                (omega arith) (omega arith) (omega arith) c.requires.within,
            rw w.self-is h.1,
            ap (λ m. length m.private) w.self-is ∙ h.2,
          )
    ]
