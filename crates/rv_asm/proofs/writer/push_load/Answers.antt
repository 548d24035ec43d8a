-- A word that needs more than 12 bits is loaded by `lui` and `addi`, and any other by one `addi`.
use Rattle.std.proofs.Common.{OnOk, sym, ◌∙◌, subst, w32, rules}
use Rattle.std.proofs.lemmas.Int.{to_z-of_z}
use Rattle.rv_asm.specs.Layout.{Spell}
use Rattle.rv_asm.specs.Writing.{Adds}
use Rattle.rv_asm.proofs.Spelling.{load_of-short, load_of-long}
use Rattle.rv_asm.proofs.writer.push_load.Goals as goal

pub returns-then-not-is_short-clause-ok : goal.returns-then-not-is_short-clause-ok
returns-then-not-is_short-clause-ok g c =
    subst (λ is. OnOk c.push_lui_addi.result (Adds (Spell is) c.args.bytes.now.items c.push_lui_addi.new.bytes.items))
    (sym (load_of-long c.args.rd c.args.word (sym c.is_short.ensures ∙ c.if-not-is_short.true))) c.push_lui_addi.ensures.ok

pub returns-clause-ok : goal.returns-clause-ok
returns-clause-ok g c =
    let imm = to_z-of_z w32 c.cast_signed.result (search rules) in
    let written = rw imm at c.push_instr.ensures.ok in
    subst (λ is. OnOk c.push_instr.result (Adds (Spell is) c.args.bytes.now.items c.push_instr.new.bytes.items))
    (sym (load_of-short c.args.rd c.args.word (sym c.is_short.ensures ∙ c.if-not-is_short.false)))
    (rw c.cast_signed.ensures at written)
