-- What a write leaves of a memory, and a range that is read or written piece by piece.
use Rattle.std.proofs.Common.{◌≡◌, ℕ, ◌+◌, ◌-◌, ◌%◌, min, ◌<◌, ◌≤◌, List, [], ◌++◌, length, take, replicate, arith, ◌∙◌, ap, Fits, w64}
use Rattle.std.proofs.lemmas.List.{places, length-replicate, replicate-append-replicate}
use Rattle.std.proofs.lemmas.Grind.{same_number_lists}
use borrow.Rule.Slice.PartMut.{put_mid}
use Rattle.node_memory.specs.Bytes.{bytes_at, with_bytes}
use Rattle.node_memory.specs.Image.{Segment, with_segment}

pub length-with_bytes : (m : List ℕ) (addr : ℕ) (bytes : List ℕ) → addr + length bytes ≤ length m
    → length (with_bytes m addr bytes) ≡ length m
length-with_bytes m addr bytes h = grind (arith, places)

pub length-bytes_at : (m : List ℕ) (addr n : ℕ) → addr + n ≤ length m → length (bytes_at m addr n) ≡ n
length-bytes_at m addr n h = grind (arith, places)

-- two writes side by side are one
pub two_writes : (m bs zs : List ℕ) (a b : ℕ) → b ≡ a + length bs → a + length bs + length zs ≤ length m
    → with_bytes (with_bytes m a bs) b zs ≡ with_bytes m a (bs ++ zs)
two_writes m bs zs a b at fits = rw at (same_number_lists _ _ (grind (arith, places)) (λ k below. grind (arith, places)))

-- a write of nothing
pub no_write : (m bytes : List ℕ) (a : ℕ) → bytes ≡ [] → m ≡ with_bytes m a bytes
no_write m bytes a none = rw none (same_number_lists _ _ (grind (arith, places)) (λ k below. grind (arith, places)))

-- two reads side by side are one
pub two_reads : (m : List ℕ) (a b n k : ℕ) → b ≡ a + n → bytes_at m a n ++ bytes_at m b k ≡ bytes_at m a (n + k)
two_reads m a b n k at = rw at (same_number_lists _ _ (grind (arith, places)) (λ i below. grind (arith, places)))

-- the first `done` of some bytes are written, and then those up to `done + n`
pub write_more : (m now after bytes piece : List ℕ) (a b done n : ℕ) → now ≡ with_bytes m a (take done bytes) → b ≡ a + done
    → piece ≡ bytes_at bytes done n → after ≡ with_bytes now b piece → done + n ≤ length bytes → a + length bytes ≤ length m
    → after ≡ with_bytes m a (take (done + n) bytes)
write_more m now after bytes piece a b done n was at is then within fits =
    let written : length (take done bytes) ≡ done = grind (arith, places) in
    let long : length piece ≡ n = rw is (grind (arith, places)) in
    let whole : take done bytes ++ piece ≡ take (done + n) bytes =
    rw is (same_number_lists _ _ (grind (arith, places)) (λ k below. grind (arith, places))) in
    let both = two_writes m (take done bytes) piece a b (omega arith) (omega arith) in
    then ∙ ap (λ x. with_bytes x b piece) was ∙ both ∙ ap (with_bytes m a) whole

-- how many bytes such a step has: it ends with the page of `at`, or with the bytes
pub step-within : (len done at n : ℕ) → n ≡ min (4096 - at % 4096) (len - done) → done ≤ len → done + n ≤ len
step-within len done at n is le = omega arith

pub step-in_page : (bytes : List ℕ) (done at n : ℕ) → n ≡ min (4096 - at % 4096) (length bytes - done) → done ≤ length bytes
    → at % 4096 + length (bytes_at bytes done n) ≤ 4096
step-in_page bytes done at n is le =
    let long : length (bytes_at bytes done n) ≡ n = length-bytes_at bytes done n (step-within (length bytes) done at n is le) in
    omega arith

pub step-less_left : (len done at n : ℕ) → n ≡ min (4096 - at % 4096) (len - done) → done < len → len - (done + n) < len - done
step-less_left len done at n is lt = omega arith

pub place-mod-le : (at : ℕ) → at % 4096 ≤ 4096
place-mod-le at = omega arith

-- the same of zeros
pub clear_more : (m now after piece : List ℕ) (a b done n : ℕ) → now ≡ with_bytes m a (replicate done 0) → b ≡ a + done
    → piece ≡ replicate n 0 → after ≡ with_bytes now b piece → a + done + n ≤ length m → after ≡ with_bytes m a (replicate (done + n) 0)
clear_more m now after piece a b done n was at is then fits =
    let written : length (replicate {A = ℕ} done 0) ≡ done = length-replicate {A = ℕ} done 0 in
    let long : length piece ≡ n = ap length is ∙ length-replicate {A = ℕ} n 0 in
    let whole : replicate done 0 ++ piece ≡ replicate (done + n) 0 = rw is (replicate-append-replicate done n 0) in
    let both = two_writes m (replicate done 0) piece a b (omega arith) (omega arith) in
    then ∙ ap (λ x. with_bytes x b piece) was ∙ both ∙ ap (with_bytes m a) whole

-- a segment's bytes and then its zeros
pub segment_laid : (m bytes : List ℕ) (s : Segment) (b : ℕ) → bytes ≡ s.bytes → b ≡ s.addr + length bytes → length s.bytes ≤ s.size
    → s.addr + s.size ≤ length m → with_bytes (with_bytes m s.addr bytes) b (replicate (s.size - length bytes) 0) ≡ with_segment m s
segment_laid m bytes s b is at few fits =
    rw is (two_writes m s.bytes (replicate (s.size - length s.bytes) 0) s.addr b (at ∙ ap (λ x. s.addr + length x) is)
    (let n = length-replicate {A = ℕ} (s.size - length s.bytes) 0 in omega arith))

-- a write to a part of a slice
pub put_mid-with_bytes : (a n k : ℕ) (page old ys bytes : List ℕ) → old ≡ page → ys ≡ bytes → n ≡ length bytes → k ≡ n → a + n ≤ length page
    → put_mid a k old ys ≡ with_bytes page a bytes
put_mid-with_bytes a n k page old ys bytes o y count e fits =
    rw (o, y, e) (same_number_lists _ _ (grind (arith, places)) (λ i below. grind (arith, places)))

pub put_mid-length : (a n k : ℕ) (page old ys bytes : List ℕ) → old ≡ page → ys ≡ bytes → n ≡ length bytes → k ≡ n → a + n ≤ length page
    → length (put_mid a k old ys) ≡ length page
put_mid-length a n k page old ys bytes o y count e fits =
    ap length (put_mid-with_bytes a n k page old ys bytes o y count e fits) ∙ length-with_bytes page a bytes (rw (← count) fits)

-- a place within a page, or at its end
pub page_place-fits : (at : ℕ) → at ≤ 4096 → Fits w64 at
page_place-fits at below = omega arith
