-- Patches whose bytes stand one after another in one list, and what holds of patches however they are kept.
use Rattle.std.proofs.Common.{◌≡◌, ℕ, ◌+◌, ◌<◌, ◌≤◌, zero, suc, Bool, List, [], ◌∷◌, ◌++◌, length, get_or, refl, sym, ap, ap₂, ◌∙◌, arith}
use Rattle.std.specs.Prelude.{IsTrue, Some, slice_get, option_map}
use Rattle.std.proofs.lemmas.Option.{same_Some, slice_get-map, slice_get_read, slice_get_within}
use Rattle.std.proofs.lemmas.Bool.Decides.{nat_tests}
use Rattle.std.proofs.lemmas.Grind.{same_number_lists}
use Rattle.std.proofs.lemmas.List.{places, length-map, map-append}
use Rattle.std.proofs.lemmas.List.Sums.{sum_by-cons}
use Rattle.node_memory.specs.Bytes.{fits, bytes_at, with_bytes}
use Rattle.node_memory.specs.Pages.{KeepsPrivate}
use Rattle.node_memory.proofs.Owned.{Owns-kept}
use Rattle.bsp_exchange.specs.declared.landings.Range.{Range}
use Rattle.bsp_exchange.specs.Arrivals.{patches_of, StandInTurn}
use Rattle.bsp_exchange.specs.Parts.{Patch, bytes_in, OwnsEach}

starts_before : (ranges : List Range) (start end : ℕ) → StandInTurn ranges start end → start ≤ end
starts_before [] start end turn = omega (arith, turn)
starts_before (r ∷ ranges) start end turn = omega (arith, starts_before ranges (start + r.len) end turn.1)

-- each range ends within the list
pub range_end : (ranges : List Range) (start end k : ℕ) (d : Range) → StandInTurn ranges start end → k < length ranges
    → (get_or ranges k d).start + (get_or ranges k d).len ≤ end
range_end [] start end k d turn within = absurd (omega arith)
range_end (r ∷ ranges) start end zero d turn within = omega (arith, turn.0, starts_before ranges (start + r.len) end turn.1)
range_end (r ∷ ranges) start end (suc k) d turn within = range_end ranges (start + r.len) end k d turn.1 (omega arith)

-- one range more, from the end on
pub in_turn-push : (ranges : List Range) (start end end' : ℕ) (r : Range) → StandInTurn ranges start end → r.start ≡ end
    → end' ≡ end + r.len → StandInTurn (ranges ++ r ∷ []) start end'
in_turn-push [] start end end' r turn at more = (omega (arith, turn, at), omega (arith, turn, more))
in_turn-push (s ∷ ranges) start end end' r turn at more = (turn.0, in_turn-push ranges (start + s.len) end end' r turn.1 at more)

bytes_at-front : (bytes new : List ℕ) (start len : ℕ) → start + len ≤ length bytes
    → bytes_at (bytes ++ new) start len ≡ bytes_at bytes start len
bytes_at-front bytes new start len within = same_number_lists _ _ (grind (arith, places)) (λ k below. grind (arith, places))

bytes_at-behind : (bytes new : List ℕ) (start len : ℕ) → start ≡ length bytes → len ≡ length new → bytes_at (bytes ++ new) start len ≡ new
bytes_at-behind bytes new start len at long = same_number_lists _ _ (grind (arith, places)) (λ k below. grind (arith, places))

-- more bytes behind those of the ranges change none of their patches
patches-kept : (ranges : List Range) (bytes new : List ℕ) (start end : ℕ) → StandInTurn ranges start end → end ≤ length bytes
    → patches_of ranges (bytes ++ new) ≡ patches_of ranges bytes
patches-kept [] bytes new start end turn within = refl
patches-kept (r ∷ ranges) bytes new start end turn within =
    let before = starts_before ranges (start + r.len) end turn.1 in
    ap₂ (λ (bs : List ℕ) (ps : List Patch). record { addr = r.addr; bytes = bs } ∷ ps)
    (bytes_at-front bytes new r.start r.len (omega (arith, turn.0, before)))
    (patches-kept ranges bytes new (start + r.len) end turn.1 within)

pub length-range : (m : List ℕ) (addr len : ℕ) → IsTrue (fits (length m) addr len) → length (bytes_at m addr len) ≡ len
length-range m addr len within = grind (arith, places, nat_tests)

-- one range more, with the bytes of a memory's range
pub patches_push_range : (ranges : List Range) (bytes memory : List ℕ) (addr from len start : ℕ) → StandInTurn ranges 0 (length bytes)
    → start ≡ length bytes → IsTrue (fits (length memory) from len)
    → patches_of (ranges ++ record { addr = addr; len = len; start = start } ∷ []) (bytes ++ bytes_at memory from len)
    ≡ patches_of ranges bytes ++ record { addr = addr; bytes = bytes_at memory from len } ∷ []
patches_push_range ranges bytes memory addr from len start turn at within =
    let new = bytes_at memory from len in
    let r : Range = record { addr = addr; len = len; start = start } in
    map-append (λ (s : Range). record { addr = s.addr; bytes = bytes_at (bytes ++ new) s.start s.len }) ranges (r ∷ [])
    ∙ ap₂ (λ (ps : List Patch) (bs : List ℕ). ps ++ record { addr = addr; bytes = bs } ∷ [])
    (patches-kept ranges bytes new 0 (length bytes) turn (omega arith))
    (bytes_at-behind bytes new start len at (sym (length-range memory from len within)))

-- a range of the list, and its patch, where the patches are read elsewhere
pub range_inside : (ranges : List Range) (bytes : List ℕ) (patches : List Patch) (place : ℕ) (r : Range)
    → StandInTurn ranges 0 (length bytes) → patches_of ranges bytes ≡ patches → place < length patches → r ≡ get_or ranges place r
    → r.start + r.len ≤ length bytes
range_inside ranges bytes patches place r turn view within is =
    let as_many =
    sym (length-map ranges (λ (s : Range). record { addr = s.addr; bytes = bytes_at bytes s.start s.len })) ∙ ap length view in
    let end = range_end ranges 0 (length bytes) place r turn (omega (arith, as_many, within)) in
    rw (← is) at end

pub range_patch : (ranges : List Range) (bytes : List ℕ) (patches : List Patch) (place : ℕ) (r : Range) (p : Patch)
    → patches_of ranges bytes ≡ patches → r ≡ get_or ranges place r → slice_get patches place ≡ Some p
    → record { addr = r.addr; bytes = bytes_at bytes r.start r.len } ≡ p
range_patch ranges bytes patches place r p view is there =
    let patch_at : Range → Patch = λ (s : Range). record { addr = s.addr; bytes = bytes_at bytes s.start s.len } in
    let as_many = sym (length-map ranges patch_at) ∙ ap length view in
    let range : slice_get ranges place ≡ Some r =
    slice_get_read ranges (length ranges) place r refl (omega (arith, as_many, slice_get_within patches place p there)) is in
    same_Some (patch_at r) p (ap (option_map patch_at) (sym range)
    ∙ sym (slice_get-map patch_at ranges place)
    ∙ ap (λ (ps : List Patch). slice_get ps place) view
    ∙ there)

in_turn-bytes : (ranges : List Range) (bytes : List ℕ) (start end : ℕ) → StandInTurn ranges start end → end ≤ length bytes
    → start + bytes_in (patches_of ranges bytes) ≡ end
in_turn-bytes [] bytes start end turn within = omega (arith, turn)
in_turn-bytes (r ∷ ranges) bytes start end turn within =
    let before = starts_before ranges (start + r.len) end turn.1 in
    let long : length (bytes_at bytes r.start r.len) ≡ r.len =
    length-range bytes r.start r.len
    (let inside : r.start + r.len ≤ length bytes = omega (arith, turn.0, before) in grind (arith, nat_tests)) in
    let sum =
    sum_by-cons (λ (p : Patch). length p.bytes) (record { addr = r.addr; bytes = bytes_at bytes r.start r.len })
    (patches_of ranges bytes) in
    omega (arith, long, sum, in_turn-bytes ranges bytes (start + r.len) end turn.1 within)

-- the bytes that stand one after another are those of the patches
pub bytes_waiting : (ranges : List Range) (bytes : List ℕ) → StandInTurn ranges 0 (length bytes)
    → length bytes ≡ bytes_in (patches_of ranges bytes)
bytes_waiting ranges bytes turn = omega (arith, in_turn-bytes ranges bytes 0 (length bytes) turn (omega arith))

pub length-patched : (m : List ℕ) (addr : ℕ) (bytes : List ℕ) → IsTrue (fits (length m) addr (length bytes))
    → length (with_bytes m addr bytes) ≡ length m
length-patched m addr bytes within = grind (arith, places, nat_tests)

-- what lies in a memory is not longer than it
pub len_within : (size addr len : ℕ) → IsTrue (fits size addr len) → len ≤ size
len_within size addr len within = grind (arith, nat_tests)

-- pages of patches that were private stay so
pub owns_each_kept : (old new : List Bool) (patches : List Patch) → KeepsPrivate old new → OwnsEach old patches → OwnsEach new patches
owns_each_kept old new [] keeps owns = tt
owns_each_kept old new (p ∷ patches) keeps owns =
    (Owns-kept old new p.addr (length p.bytes) keeps owns.0, owns_each_kept old new patches keeps owns.1)
