-- What the four masks of the rows leave of a word.
use Rattle.std.proofs.Common.{◌≡◌, ℕ, ◌+◌, ◌*◌, ◌/◌, ◌%◌, ◌^◌, ◌<◌, ap, arith, bit_and, lit<}
use Rattle.std.proofs.lemmas.Nat.{and_mask, and_block}

pub under_7F : (w : ℕ) → bit_and w 0x7F ≡ w % 2 ^ 7
under_7F w = and_mask w 7

pub under_707F : (w : ℕ) → bit_and w 0x707F ≡ w / 2 ^ 12 % 2 ^ 3 * 2 ^ 12 + w % 2 ^ 7
under_707F w =
    let split : w ≡ w / 2 ^ 12 * 2 ^ 12 + w % 2 ^ 12 = omega arith in
    let at_split = ap (λ n. bit_and n 0x707F) split in
    let high = and_mask (w / 2 ^ 12) 3 in
    let low = and_mask (w % 2 ^ 12) 7 in
    let blocks = and_block 12 (w / 2 ^ 12) 7 (w % 2 ^ 12) 0x7F (omega arith) (lit< tt) in
    omega (arith, at_split, high, low, blocks)

pub under_FE00707F : (w : ℕ) → bit_and w 0xFE00707F ≡ w / 2 ^ 25 % 2 ^ 7 * 2 ^ 25 + (w / 2 ^ 12 % 2 ^ 3 * 2 ^ 12 + w % 2 ^ 7)
under_FE00707F w =
    let split : w ≡ w / 2 ^ 25 * 2 ^ 25 + w % 2 ^ 25 = omega arith in
    let at_split = ap (λ n. bit_and n 0xFE00707F) split in
    let high = and_mask (w / 2 ^ 25) 7 in
    let low = under_707F (w % 2 ^ 25) in
    let blocks = and_block 25 (w / 2 ^ 25) 0x7F (w % 2 ^ 25) 0x707F (omega arith) (lit< tt) in
    omega (arith, at_split, high, low, blocks)

pub under_FFFFFFFF : (w : ℕ) → w < 2 ^ 32 → bit_and w 0xFFFFFFFF ≡ w
under_FFFFFFFF w fits = let low = and_mask w 32 in omega (arith, low)
