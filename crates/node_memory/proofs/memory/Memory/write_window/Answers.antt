-- A range within a private page is written in that page alone.
use Rattle.std.proofs.Common.{◌≡◌, ◌/◌, ◌%◌, true, false, length, refl, sym, ap, ◌∙◌, arith}
use Rattle.std.proofs.Math.Nat.{le-add_right}
use Rattle.node_memory.specs.Table.{page_bytes, is_private}
use Rattle.node_memory.specs.declared.page.PrivateBytes.{PrivateBytes}
use Rattle.node_memory.proofs.Table.{table, IsTable-set, IsTable-same}
use Rattle.std.proofs.lemmas.Bool.{false≢true}
use Rattle.std.proofs.lemmas.Option.{same_Some}
use Rattle.node_memory.proofs.Shown.{make_page_private-shown, private_range-within, write-shown, flags-kept, flag-is, whole-at}
use Rattle.node_memory.proofs.Writes.{put_mid-with_bytes, put_mid-length, page_place-fits}
use Rattle.node_memory.proofs.memory.Memory.write_window.Goals as goal

pub index_mut-requires : goal.index_mut-requires
index_mut-requires g c =
    make_page_private-shown (table _ _ c.self.view_is c.self.invariant) (c.args.addr / 4096) _ c.self.inside.pages.ok.0 c.requires.private

pub overflow_add-offset : goal.overflow_add-offset
overflow_add-offset g c = page_place-fits _ c.requires.one_page

pub slice_bounds-copy_from_slice-count : goal.slice_bounds-copy_from_slice-count
slice_bounds-copy_from_slice-count g c = le-add_right _ _

pub invariant_of-self : goal.invariant_of-self
invariant_of-self g c =
    let t = table _ _ c.self.view_is c.self.invariant in
    let in_table = make_page_private-shown t (c.args.addr / 4096) _ refl c.requires.private in
    let page = c.index_mut.result.now in
    let old : page_bytes page ≡ c.in-Private.page.value.bytes = ap page_bytes c.in-Private.is in
    let long : length (page_bytes page) ≡ 4096 =
    whole-at page_bytes _ _ _ page c.self.invariant.whole refl in_table c.index_mut.ensures.value in
    IsTable-set _ (c.args.addr / 4096) _ c.self.invariant
    (put_mid-length (c.args.addr % 4096) (length c.args.bytes.now) _ (page_bytes page) _ _ _
    (ap (λ (o : PrivateBytes). o.bytes) c.deref_mut.ensures.value ∙ sym old) c.copy_from_slice.ensures.after refl (omega arith)
    (omega (arith, c.requires.one_page)) ∙ long)

pub invariant_of-self-in-Shared : goal.invariant_of-self-in-Shared
invariant_of-self-in-Shared g c =
    let in_table = make_page_private-shown (table _ _ c.self.view_is c.self.invariant) (c.args.addr / 4096) _ refl c.requires.private in
    IsTable-same _ (c.args.addr / 4096) c.index_mut.result.now _ c.self.invariant in_table c.index_mut.ensures.value refl

pub returns-in-Shared-clause-same_private : goal.returns-in-Shared-clause-same_private
returns-in-Shared-clause-same_private g c =
    let t = table _ _ c.self.view_is c.self.invariant in
    let in_table = make_page_private-shown t (c.args.addr / 4096) _ refl c.requires.private in
    flags-kept t _ c.index_mut.result.now _ _ in_table c.index_mut.ensures.value refl refl

pub returns-in-Private-clause-within : goal.returns-in-Private-clause-within
returns-in-Private-clause-within g c =
    private_range-within (table _ _ c.self.view_is c.self.invariant) c.args.addr
    (length c.args.bytes.now) c.requires.private c.requires.one_page

pub returns-in-Shared-clause-within : goal.returns-in-Shared-clause-within
returns-in-Shared-clause-within g c =
    private_range-within (table _ _ c.self.view_is c.self.invariant) c.args.addr
    (length c.args.bytes.now) c.requires.private c.requires.one_page

pub returns-in-Private-clause-bytes : goal.returns-in-Private-clause-bytes
returns-in-Private-clause-bytes g c =
    let t = table _ _ c.self.view_is c.self.invariant in
    let in_table = make_page_private-shown t (c.args.addr / 4096) _ refl c.requires.private in
    let page = c.index_mut.result.now in
    let old : page_bytes page ≡ c.in-Private.page.value.bytes = ap page_bytes c.in-Private.is in
    let long : length (page_bytes page) ≡ 4096 =
    whole-at page_bytes _ _ _ page c.self.invariant.whole refl in_table c.index_mut.ensures.value in
    write-shown t c.args.addr c.args.bytes.now page _ in_table c.requires.one_page c.index_mut.ensures.value
    (put_mid-with_bytes (c.args.addr % 4096) (length c.args.bytes.now) _ (page_bytes page) _ _ _
    (ap (λ (o : PrivateBytes). o.bytes) c.deref_mut.ensures.value ∙ sym old) c.copy_from_slice.ensures.after refl (omega arith)
    (omega (arith, c.requires.one_page)))

pub returns-in-Private-clause-same_private : goal.returns-in-Private-clause-same_private
returns-in-Private-clause-same_private g c =
    let t = table _ _ c.self.view_is c.self.invariant in
    let in_table = make_page_private-shown t (c.args.addr / 4096) _ refl c.requires.private in
    let page = c.index_mut.result.now in
    flags-kept t _ page _ true in_table c.index_mut.ensures.value (ap is_private c.in-Private.is) refl

pub returns-in-Shared-clause-bytes : goal.returns-in-Shared-clause-bytes
returns-in-Shared-clause-bytes g c =
    let t = table _ _ c.self.view_is c.self.invariant in
    let in_table = make_page_private-shown t (c.args.addr / 4096) _ refl c.requires.private in
    let page = c.index_mut.result.now in
    let shared : is_private page ≡ false = ap is_private c.in-Shared.is in
    let flag = flag-is t _ page in_table c.index_mut.ensures.value in
    let private = c.requires.private in
    absurd (false≢true (sym shared ∙ same_Some _ _ (sym flag ∙ private)))
