-- Patches that wait, one after another, and what is read of the one at a place.
use Rattle.std.proofs.Common.{◌≡◌, ℕ, ◌+◌, ◌<◌, ◌≤◌, zero, suc, Bool, List, [], ◌∷◌, ◌++◌, length, take, drop, get_or, set, sym, ap₂, subst}
use Rattle.std.proofs.Common.{◌∙◌, Result, Ok, Err, arith}
use Rattle.std.specs.Prelude.{IsTrue, OnOk, Some, slice_get}
use Rattle.std.proofs.lemmas.List.{take_all}
use Rattle.std.proofs.lemmas.Option.{slice_get-get_or}
use Rattle.std.proofs.Math.Seq.{drop-cons, set-append_seam}
use Rattle.node_memory.specs.Bytes.{fits}
use Rattle.node_memory.specs.Pages.{Owns, KeepsPrivate}
use Rattle.bsp_exchange.specs.Arrivals.{LieIn}
use Rattle.bsp_exchange.specs.Parts.{Patch, OwnsEach}
use Rattle.bsp_exchange.proofs.Patches.{owns_each_kept}

-- there is a patch at a place, with this address and these bytes
pub record IsPatchAt (patches : List Patch) (place addr : ℕ) (bytes : List ℕ) : Type 0 where
  pub within : place < length patches
  pub is : (d : Patch) → get_or patches place d ≡ record { addr = addr; bytes = bytes }

-- there is, if they were read at a place before the end
pub patch_read : (patches : List Patch) (place end addr : ℕ) (bytes : List ℕ) → end ≡ length patches → place < end
    → ((p : Patch) → slice_get patches place ≡ Some p → addr ≡ p.addr) → ((p : Patch) → slice_get patches place ≡ Some p → bytes ≡ p.bytes)
    → IsPatchAt patches place addr bytes
patch_read patches place end addr bytes count before addr_read bytes_read =
    let within : place < length patches = omega (arith, count, before) in
    let there : (d : Patch) → slice_get patches place ≡ Some (get_or patches place d) = λ d. slice_get-get_or patches place d within in
    record {
      within = within;
      is = λ d. ap₂ (λ (a : ℕ) (bs : List ℕ). record { addr = a; bytes = bs }) (sym (addr_read _ (there d))) (sym (bytes_read _ (there d)));
    }

within_at : (size : ℕ) (patches : List Patch) (place : ℕ) (d : Patch) → LieIn size patches → place < length patches
    → IsTrue (fits size (get_or patches place d).addr (length (get_or patches place d).bytes))
within_at size [] place d lie within = absurd (omega arith)
within_at size (p ∷ patches) zero d lie within = lie.0
within_at size (p ∷ patches) (suc place) d lie within = within_at size patches place d lie.1 (omega arith)

-- it lies in a memory in which they all lie
pub patch_fits : {patches : List Patch} {place addr : ℕ} {bytes : List ℕ} (size : ℕ) → IsPatchAt patches place addr bytes
    → LieIn size patches → IsTrue (fits size addr (length bytes))
patch_fits {patches} {place} {addr} {bytes} size p lie =
    let patch : Patch = record { addr = addr; bytes = bytes } in
    subst (λ (q : Patch). IsTrue (fits size q.addr (length q.bytes))) (p.is patch) (within_at size patches place patch lie p.within)

-- and is the first of those from its place on
pub patches_from : {patches : List Patch} {place addr : ℕ} {bytes : List ℕ} → IsPatchAt patches place addr bytes
    → drop place patches ≡ record { addr = addr; bytes = bytes } ∷ drop (place + 1) patches
patches_from {patches} {place} {addr} {bytes} p =
    let patch : Patch = record { addr = addr; bytes = bytes } in
    let next : suc place ≡ place + 1 = omega arith in
    drop-cons patches place patch p.within ∙ ap₂ (λ (q : Patch) (n : ℕ). q ∷ drop n patches) (p.is patch) next

owns_next : (private : List Bool) (patches : List Patch) (place : ℕ) (d : Patch) → place < length patches
    → OwnsEach private (take place patches) → Owns private (get_or patches place d).addr (length (get_or patches place d).bytes)
    → OwnsEach private (take (suc place) patches)
owns_next private [] place d within before here = absurd (omega arith)
owns_next private (p ∷ patches) zero d within before here = (here, tt)
owns_next private (p ∷ patches) (suc place) d within before here = (before.0, owns_next private patches place d (omega arith) before.1 here)

-- where the pages of the first patches are private, and those of the next, those of one patch more are
pub owns_more : {patches : List Patch} {place addr : ℕ} {bytes : List ℕ} (old new : List Bool) → IsPatchAt patches place addr bytes
    → KeepsPrivate old new → Owns new addr (length bytes) → OwnsEach old (take place patches) → OwnsEach new (take (place + 1) patches)
owns_more {patches} {place} {addr} {bytes} old new p keeps owns before =
    let patch : Patch = record { addr = addr; bytes = bytes } in
    let next : suc place ≡ place + 1 = omega arith in
    let here = subst (λ (q : Patch). Owns new q.addr (length q.bytes)) (sym (p.is patch)) owns in
    subst (λ (n : ℕ). OwnsEach new (take n patches)) next
    (owns_next new patches place patch p.within (owns_each_kept old new (take place patches) keeps before) here)

-- where the pages of all of them are
pub owns_whole : (private : List Bool) (patches : List Patch) (place : ℕ) → length patches ≤ place → OwnsEach private (take place patches)
    → OwnsEach private patches
owns_whole private patches place past before = subst (OwnsEach private) (take_all place patches past) before

-- a patch with other bytes in the place of the last one, which was pushed without any
pub filled_in : {T E : Type 0} (answer : Result T E) (old items : List Patch) (place : ℕ) (p q : Patch) (addr : ℕ) (bytes : List ℕ)
    → items ≡ old ++ p ∷ [] → place ≡ length old → q.addr ≡ addr → OnOk answer (q.bytes ≡ bytes)
    → OnOk answer (set items place q ≡ old ++ record { addr = addr; bytes = bytes } ∷ [])
filled_in (Ok x) old items place p q addr bytes pushed there same filled =
    ap₂ (λ (ps : List Patch) (n : ℕ). set ps n q) pushed there
    ∙ set-append_seam old p [] q
    ∙ ap₂ (λ (a : ℕ) (bs : List ℕ). old ++ record { addr = a; bytes = bs } ∷ []) same filled
filled_in (Err e) old items place p q addr bytes pushed there same filled = tt
