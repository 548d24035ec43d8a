-- Sorting and merging change no byte, so the merged ranges have just the contested bytes of the exchange.
use Rattle.std.proofs.Common.{ℕ, ◌↔◌, List, sym, subst}
use Rattle.std.specs.Prelude.{All, Contains, IsPermutation}
use Rattle.std.proofs.lemmas.List.Sorted.{Contains-permutation, IsPermutation-sym, All-permutation}
use Rattle.std.proofs.lemmas.Result.{IfOk-weaker}
use Rattle.bsp_exchange.specs.Exchange.{states}
use Rattle.bsp_exchange.specs.Landings.{Landing, landings}
use Rattle.contested_bytes.specs.Contested.{IsContested}
use Rattle.contested_bytes.specs.Ranges.{IsIn, IsContestedRange, EndsWithin}
use Rattle.contested_bytes.proofs.Requested.{none_outside, contains_landings, contains_gathered}
use Rattle.contested_bytes.proofs.Shared.{ranges_among, exact}
use Rattle.contested_bytes.proofs.superstep.contested_ranges.Goals as goal

pub landings-requires : goal.landings-requires
landings-requires g c = record { inside = none_outside (states c.args.nodes.now) c.requires.faultless }

pub sweep-requires : goal.sweep-requires
sweep-requires g c = rw c.deref.ensures.value c.sort_landings.ensures.order

pub merge-requires-clause-within : goal.merge-requires-clause-within
merge-requires-clause-within g c =
    rw c.deref-2.ensures.value
    (All-permutation EndsWithin c.in_ok-found.found.items c.sort_ranges.new.found.items c.sort_ranges.ensures.same
    c.in_ok-found.ensures.within)

pub merge-requires-clause-order : goal.merge-requires-clause-order
merge-requires-clause-order g c = rw c.deref-2.ensures.value c.sort_ranges.ensures.order

pub returns-clause-contested : goal.returns-clause-contested
returns-clause-contested g c =
    let nodes = states c.args.nodes.now in
    let all = c.in_ok-all.all.items in
    let sorted = c.deref.result.now in
    let ranges = c.deref-2.result.now in
    let moved : IsPermutation all sorted = subst (IsPermutation all) (sym c.deref.ensures.value) c.sort_landings.ensures.same in
    let moved_ranges : IsPermutation c.in_ok-found.found.items ranges =
    subst (IsPermutation c.in_ok-found.found.items) (sym c.deref-2.ensures.value) c.sort_ranges.ensures.same in
    IfOk-weaker c.merge.result
    (λ merged. (one : List Landing) → All (IsContestedRange one) ranges → All (IsContestedRange one) merged.items)
    (λ merged. All (IsContestedRange (landings nodes)) merged.items)
    (λ merged kept. kept (landings nodes) (ranges_among sorted (landings nodes) c.in_ok-found.found.items ranges
    (λ l there. contains_landings nodes l
    (subst (λ (ls : List Landing). Contains ls l) c.in_ok-all.ensures
    (Contains-permutation sorted all l (IsPermutation-sym all sorted moved) there)))
    moved_ranges c.in_ok-found.ensures.contested))
    c.merge.ensures.contested

pub returns-clause-exact : goal.returns-clause-exact
returns-clause-exact g c =
    let nodes = states c.args.nodes.now in
    let all = c.in_ok-all.all.items in
    let sorted = c.deref.result.now in
    let ranges = c.deref-2.result.now in
    let moved : IsPermutation all sorted = subst (IsPermutation all) (sym c.deref.ensures.value) c.sort_landings.ensures.same in
    let moved_ranges : IsPermutation c.in_ok-found.found.items ranges =
    subst (IsPermutation c.in_ok-found.found.items) (sym c.deref-2.ensures.value) c.sort_ranges.ensures.same in
    IfOk-weaker c.merge.result
    (λ merged. (rank addr : ℕ) → IsIn merged.items rank addr ↔ IsIn ranges rank addr)
    (λ merged. (rank addr : ℕ) → IsIn merged.items rank addr ↔ IsContested (landings nodes) rank addr)
    (λ merged same rank addr. exact sorted (landings nodes) c.in_ok-found.found.items ranges merged.items rank addr
    (λ l there. contains_landings nodes l
    (subst (λ (ls : List Landing). Contains ls l) c.in_ok-all.ensures
    (Contains-permutation sorted all l (IsPermutation-sym all sorted moved) there)))
    (λ l there. Contains-permutation all sorted l moved
    (subst (λ (ls : List Landing). Contains ls l) (sym c.in_ok-all.ensures) (contains_gathered nodes l there)))
    moved_ranges (c.in_ok-found.ensures.exact rank addr) (same rank addr))
    c.merge.ensures.bytes
