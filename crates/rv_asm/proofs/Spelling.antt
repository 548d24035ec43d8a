-- Instructions written one after the other.
use Rattle.std.proofs.Common.{◌≡◌, ℕ, true, false, if◌then◌else◌, [], ◌∷◌, ap}
use Rattle.std.specs.Int.{w32, cast_signed}
use Rattle.rv_tables.specs.declared.instr.Instr.TheVariants.{I}
use Rattle.rv_tables.specs.declared.instr.IOp.TheVariants.{Addi}
use Rattle.rv_asm.specs.Layout.{is_short, load_of, lui_addi}

pub load_of-short : (rd word : ℕ) → is_short word ≡ true → load_of rd word ≡ I Addi rd 0 (cast_signed w32 word) ∷ []
load_of-short rd word e = ap (λ b. if b then I Addi rd 0 (cast_signed w32 word) ∷ [] else lui_addi rd word) e

pub load_of-long : (rd word : ℕ) → is_short word ≡ false → load_of rd word ≡ lui_addi rd word
load_of-long rd word e = ap (λ b. if b then I Addi rd 0 (cast_signed w32 word) ∷ [] else lui_addi rd word) e
