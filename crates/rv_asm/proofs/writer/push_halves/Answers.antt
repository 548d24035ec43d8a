-- Each number adds the two bytes of its half-word, which is the number modulo 2^16.
use Rattle.std.proofs.Common.{◌^◌, get_or, pos, refl, w16, w32, rules}
use Rattle.std.specs.Int.{to_le_bytes}
use Rattle.std.proofs.lemmas.Int.{to_z-of_z}
use Rattle.rv_asm.specs.Targets.{modulo}
use Rattle.rv_asm.proofs.Loops.{flat_mapped_more}
use Rattle.rv_asm.proofs.writer.push_halves.Goals as goal

pub loop-number-preserved : goal.loop-number-preserved
loop-number-preserved g c =
    let i = c.loop-number.number-index in
    let number = to_z-of_z w32 (get_or c.args.numbers.now i (pos 0)) (search rules) in
    let half = to_z-of_z w32 c.rem_euclid-half.result (search rules) in
    flat_mapped_more (λ n. to_le_bytes w16 (modulo (2 ^ 16) n)) c.args.bytes.now.items c.loop-number.bytes.items
    c.extend_from_slice.new.self.items c.to_le_bytes.result c.args.numbers.now i c.loop-number-test.true c.loop-number.invariant
    c.in_ok-extend_from_slice.ensures.items (rw (c.to_le_bytes.ensures, half, c.rem_euclid-half.ensures.value, number) refl)
