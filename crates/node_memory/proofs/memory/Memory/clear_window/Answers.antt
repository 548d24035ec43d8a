-- Zeros are written, or the page of zeros is put in the place of a whole page; shared pages are zeros after both.
use Rattle.std.proofs.Common.{◌≡◌, ◌+◌, ◌*◌, ◌/◌, ◌≤◌, length, take, replicate, sym, ap, ◌∙◌, arith}
use Rattle.std.proofs.lemmas.List.{take-replicate}
use Rattle.node_memory.specs.Bytes.{with_bytes}
use Rattle.node_memory.proofs.Owned.{Owns-one_page}
use Rattle.node_memory.proofs.Zeros.{SharesZeros-zeroed, SharesZeros-cleared}
use Rattle.node_memory.proofs.memory.Memory.clear_window.Goals as goal

pub returns-in_ok-clear_page-clause-bytes : goal.returns-in_ok-clear_page-clause-bytes
returns-in_ok-clear_page-clause-bytes g c =
    let m = c.args.self.now.bytes in
    let len : c.args.len ≡ 4096 = omega arith in
    let at : c.args.addr / 4096 * 4096 ≡ c.args.addr = omega (arith, c.requires.one_page) in
    c.in_ok-clear_page.ensures.bytes
    ∙ ap (λ a. with_bytes m a (replicate 4096 0)) at
    ∙ ap (λ n. with_bytes m c.args.addr (replicate n 0)) (sym len)

pub returns-in_ok-clear_page-clause-rest : goal.returns-in_ok-clear_page-clause-rest
returns-in_ok-clear_page-clause-rest g c =
    let within : c.args.addr / 4096 * 4096 + 4096 ≤ length c.args.self.now.bytes = omega (arith, c.requires.one_page, c.requires.within) in
    SharesZeros-cleared c.args.self.now _ (c.args.addr / 4096) c.requires.rest within c.in_ok-clear_page.ensures.bytes
    c.in_ok-clear_page.ensures.private

pub returns-else-len-eq-PAGE-clause-bytes : goal.returns-else-len-eq-PAGE-clause-bytes
returns-else-len-eq-PAGE-clause-bytes g c =
    let m = c.args.self.now.bytes in
    let len = c.args.len in
    c.write_window.ensures.bytes
    ∙ ap (λ bs. with_bytes m c.args.addr (take len bs)) (c.bytes.ensures ∙ c.requires.zeros.zeros)
    ∙ ap (with_bytes m c.args.addr) (take-replicate len 4096 0 (omega (arith, c.requires.one_page)))

pub returns-else-len-eq-PAGE-clause-rest : goal.returns-else-len-eq-PAGE-clause-rest
returns-else-len-eq-PAGE-clause-rest g c =
    let m = c.args.self.now.bytes in
    let len = c.args.len in
    SharesZeros-zeroed c.args.self.now _ c.args.addr len c.requires.rest
    (Owns-one_page c.args.self.now.private c.args.addr len c.requires.one_page c.requires.private)
    c.requires.within
    (c.write_window.ensures.bytes
    ∙ ap (λ bs. with_bytes m c.args.addr (take len bs)) (c.bytes.ensures ∙ c.requires.zeros.zeros)
    ∙ ap (with_bytes m c.args.addr) (take-replicate len 4096 0 (omega (arith, c.requires.one_page))))
    c.write_window.ensures.same_private
