-- The offset is the difference of the addresses, cut to 32 bits and read with its sign.
use Rattle.std.proofs.Common.{◌≡◌, ◌^◌, pos, ◌-ℤ◌, ◌∙◌, rules, w32, w64}
use Rattle.std.proofs.lemmas.Int.{to_z-of_z}
use Rattle.rv_asm.specs.Targets.{modulo}
use Rattle.rv_asm.proofs.targets.offset_to.Goals as goal

pub returns : goal.returns
returns c =
    let from_one = to_z-of_z w64 c.from.result (search rules) in
    let from_other = to_z-of_z w64 c.from-2.result (search rules) in
    let apart = to_z-of_z w64 (pos c.args.value -ℤ pos c.args.address) (search rules) in
    let word : c.word_of.result ≡ modulo (2 ^ 32) (pos c.args.value -ℤ pos c.args.address) =
    rw (from_one, from_other, c.from.ensures, c.from-2.ensures, apart) at c.word_of.ensures in
    to_z-of_z w32 c.cast_signed.result (search rules) ∙ rw word at c.cast_signed.ensures
