-- The bytes that `li` writes are those of its statement, whose word is the number modulo 2^32.
use Rattle.std.proofs.Common.{rules, ◌≡◌, ◌^◌, OnOk, sym, subst, w64, vec_len}
use Rattle.std.proofs.lemmas.Int.{to_z-of_z}
use Rattle.asm_syntax.specs.Views.{statement_value}
use Rattle.rv_asm.specs.Labels.{symbols}
use Rattle.rv_asm.specs.Layout.{HasBytes}
use Rattle.rv_asm.specs.Targets.{modulo}
use Rattle.rv_asm.specs.Writing.{Adds}
use Rattle.rv_asm.proofs.program.Program.push.Goals as goal

pub returns-in-LoadImmediate-clause-bytes : goal.returns-in-LoadImmediate-clause-bytes
returns-in-LoadImmediate-clause-bytes g c =
    let number = to_z-of_z w64 c.in-LoadImmediate.value (search rules) in
    let word : c.word_of.result ≡ modulo (2 ^ 32) c.in-LoadImmediate.value = rw number at c.word_of.ensures in
    subst (λ s.
    OnOk c.push_load.result
    (Adds (HasBytes (symbols c.args.labels.now) (vec_len c.args.self.now.bytes) (statement_value s)) c.args.self.now.bytes.items
    c.push_load.new.bytes.items)) (sym c.in-LoadImmediate.is)
    (rw word at c.push_load.ensures.ok)
