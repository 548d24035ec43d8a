-- What the masks of the rows leave of a word, beside those of the rows of whole numbers.
use Rattle.std.proofs.Common.{◌≡◌, ℕ, ◌+◌, ◌*◌, ◌/◌, ◌%◌, ◌^◌, ap, arith, bit_and, lit<}
use Rattle.std.proofs.lemmas.Nat.{and_mask, and_block}
use Rattle.rv_tables.proofs.Masks.{under_707F}

pub under_600007F : (w : ℕ) → bit_and w 0x600007F ≡ w / 2 ^ 25 % 2 ^ 2 * 2 ^ 25 + w % 2 ^ 7
under_600007F w =
    let split : w ≡ w / 2 ^ 25 * 2 ^ 25 + w % 2 ^ 25 = omega arith in
    let at_split = ap (λ n. bit_and n 0x600007F) split in
    let high = and_mask (w / 2 ^ 25) 2 in
    let low = and_mask (w % 2 ^ 25) 7 in
    let blocks = and_block 25 (w / 2 ^ 25) 3 (w % 2 ^ 25) 0x7F (omega arith) (lit< tt) in
    omega (arith, at_split, high, low, blocks)

pub under_FE00007F : (w : ℕ) → bit_and w 0xFE00007F ≡ w / 2 ^ 25 % 2 ^ 7 * 2 ^ 25 + w % 2 ^ 7
under_FE00007F w =
    let split : w ≡ w / 2 ^ 25 * 2 ^ 25 + w % 2 ^ 25 = omega arith in
    let at_split = ap (λ n. bit_and n 0xFE00007F) split in
    let high = and_mask (w / 2 ^ 25) 7 in
    let low = and_mask (w % 2 ^ 25) 7 in
    let blocks = and_block 25 (w / 2 ^ 25) 0x7F (w % 2 ^ 25) 0x7F (omega arith) (lit< tt) in
    omega (arith, at_split, high, low, blocks)

pub under_FFF0007F : (w : ℕ) → bit_and w 0xFFF0007F ≡ w / 2 ^ 20 % 2 ^ 12 * 2 ^ 20 + w % 2 ^ 7
under_FFF0007F w =
    let split : w ≡ w / 2 ^ 20 * 2 ^ 20 + w % 2 ^ 20 = omega arith in
    let at_split = ap (λ n. bit_and n 0xFFF0007F) split in
    let high = and_mask (w / 2 ^ 20) 12 in
    let low = and_mask (w % 2 ^ 20) 7 in
    let blocks = and_block 20 (w / 2 ^ 20) 0xFFF (w % 2 ^ 20) 0x7F (omega arith) (lit< tt) in
    omega (arith, at_split, high, low, blocks)

pub under_FFF0707F : (w : ℕ) → bit_and w 0xFFF0707F ≡ w / 2 ^ 20 % 2 ^ 12 * 2 ^ 20 + (w / 2 ^ 12 % 2 ^ 3 * 2 ^ 12 + w % 2 ^ 7)
under_FFF0707F w =
    let split : w ≡ w / 2 ^ 20 * 2 ^ 20 + w % 2 ^ 20 = omega arith in
    let at_split = ap (λ n. bit_and n 0xFFF0707F) split in
    let high = and_mask (w / 2 ^ 20) 12 in
    let low = under_707F (w % 2 ^ 20) in
    let blocks = and_block 20 (w / 2 ^ 20) 0xFFF (w % 2 ^ 20) 0x707F (omega arith) (lit< tt) in
    omega (arith, at_split, high, low, blocks)
