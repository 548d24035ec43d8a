-- Each number adds its byte, which is the number modulo 2^8.
use Rattle.std.proofs.Common.{◌^◌, get_or, pos, refl, w32, rules}
use Rattle.std.proofs.lemmas.Int.{to_z-of_z}
use Rattle.rv_asm.specs.Targets.{modulo}
use Rattle.rv_asm.proofs.Loops.{mapped_more}
use Rattle.rv_asm.proofs.writer.push_bytes.Goals as goal

pub loop-number-preserved : goal.loop-number-preserved
loop-number-preserved g c =
    let i = c.loop-number.number-index in
    let number = to_z-of_z w32 (get_or c.args.numbers.now i (pos 0)) (search rules) in
    let byte = to_z-of_z w32 c.rem_euclid.result (search rules) in
    mapped_more (modulo (2 ^ 8)) c.args.bytes.now.items c.loop-number.bytes.items c.push.new.self.items c.args.numbers.now i _
    c.loop-number-test.true c.loop-number.invariant c.in_ok-push.ensures.items (rw (byte, c.rem_euclid.ensures.value, number) refl)
