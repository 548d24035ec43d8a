-- What the masks of the rows leave of a word, beside those of the rows of whole numbers.
use Rattle.std.proofs.Common.{◌≡◌, ℕ, ◌+◌, ◌*◌, ◌/◌, ◌%◌, ◌^◌, ap, arith, bit_and, lit<}
use Rattle.std.proofs.lemmas.Nat.{and_mask, and_block}
use Rattle.rv_tables.proofs.Masks.{under_707F}

pub under_F800707F : (w : ℕ) → bit_and w 0xF800707F ≡ w / 2 ^ 27 % 2 ^ 5 * 2 ^ 27 + (w / 2 ^ 12 % 2 ^ 3 * 2 ^ 12 + w % 2 ^ 7)
under_F800707F w =
    let split : w ≡ w / 2 ^ 27 * 2 ^ 27 + w % 2 ^ 27 = omega arith in
    let at_split = ap (λ n. bit_and n 0xF800707F) split in
    let high = and_mask (w / 2 ^ 27) 5 in
    let low = under_707F (w % 2 ^ 27) in
    let blocks = and_block 27 (w / 2 ^ 27) 0x1F (w % 2 ^ 27) 0x707F (omega arith) (lit< tt) in
    omega (arith, at_split, high, low, blocks)

under_1F0707F : (w : ℕ) → bit_and w 0x1F0707F ≡ w / 2 ^ 20 % 2 ^ 5 * 2 ^ 20 + (w / 2 ^ 12 % 2 ^ 3 * 2 ^ 12 + w % 2 ^ 7)
under_1F0707F w =
    let split : w ≡ w / 2 ^ 20 * 2 ^ 20 + w % 2 ^ 20 = omega arith in
    let at_split = ap (λ n. bit_and n 0x1F0707F) split in
    let high = and_mask (w / 2 ^ 20) 5 in
    let low = under_707F (w % 2 ^ 20) in
    let blocks = and_block 20 (w / 2 ^ 20) 0x1F (w % 2 ^ 20) 0x707F (omega arith) (lit< tt) in
    omega (arith, at_split, high, low, blocks)

pub under_F9F0707F : (w : ℕ) → bit_and w 0xF9F0707F
    ≡ w / 2 ^ 27 % 2 ^ 5 * 2 ^ 27 + (w / 2 ^ 20 % 2 ^ 5 * 2 ^ 20 + (w / 2 ^ 12 % 2 ^ 3 * 2 ^ 12 + w % 2 ^ 7))
under_F9F0707F w =
    let split : w ≡ w / 2 ^ 27 * 2 ^ 27 + w % 2 ^ 27 = omega arith in
    let at_split = ap (λ n. bit_and n 0xF9F0707F) split in
    let high = and_mask (w / 2 ^ 27) 5 in
    let low = under_1F0707F (w % 2 ^ 27) in
    let blocks = and_block 27 (w / 2 ^ 27) 0x1F (w % 2 ^ 27) 0x1F0707F (omega arith) (lit< tt) in
    omega (arith, at_split, high, low, blocks)
