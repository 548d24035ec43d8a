-- The names of the floating-point registers: f0 to f31 (RISC-V Unprivileged ISA 20191213, section 11.1) and those of the calling
-- convention (chapter 25 "RISC-V Assembly Programmer's Handbook").
use Rattle.std.specs.Prelude.{ℕ, List, [], ◌∷◌, Option, codes, slice_get}
use Rattle.rv_tables.specs.Names.{named_by}

-- each name with the number of its register
unfoldable pub float_register_names : List (List ℕ × ℕ)
float_register_names =
    (codes "f0", 0) ∷ (codes "f1", 1) ∷ (codes "f2", 2) ∷ (codes "f3", 3) ∷ (codes "f4", 4) ∷ (codes "f5", 5)
    ∷ (codes "f6", 6) ∷ (codes "f7", 7) ∷ (codes "f8", 8) ∷ (codes "f9", 9) ∷ (codes "f10", 10) ∷ (codes "f11", 11)
    ∷ (codes "f12", 12) ∷ (codes "f13", 13) ∷ (codes "f14", 14) ∷ (codes "f15", 15) ∷ (codes "f16", 16) ∷ (codes "f17", 17)
    ∷ (codes "f18", 18) ∷ (codes "f19", 19) ∷ (codes "f20", 20) ∷ (codes "f21", 21) ∷ (codes "f22", 22) ∷ (codes "f23", 23)
    ∷ (codes "f24", 24) ∷ (codes "f25", 25) ∷ (codes "f26", 26) ∷ (codes "f27", 27) ∷ (codes "f28", 28) ∷ (codes "f29", 29)
    ∷ (codes "f30", 30) ∷ (codes "f31", 31) ∷ (codes "ft0", 0) ∷ (codes "ft1", 1) ∷ (codes "ft2", 2) ∷ (codes "ft3", 3)
    ∷ (codes "ft4", 4) ∷ (codes "ft5", 5) ∷ (codes "ft6", 6) ∷ (codes "ft7", 7) ∷ (codes "fs0", 8) ∷ (codes "fs1", 9)
    ∷ (codes "fa0", 10) ∷ (codes "fa1", 11) ∷ (codes "fa2", 12) ∷ (codes "fa3", 13) ∷ (codes "fa4", 14) ∷ (codes "fa5", 15)
    ∷ (codes "fa6", 16) ∷ (codes "fa7", 17) ∷ (codes "fs2", 18) ∷ (codes "fs3", 19) ∷ (codes "fs4", 20) ∷ (codes "fs5", 21)
    ∷ (codes "fs6", 22) ∷ (codes "fs7", 23) ∷ (codes "fs8", 24) ∷ (codes "fs9", 25) ∷ (codes "fs10", 26) ∷ (codes "fs11", 27)
    ∷ (codes "ft8", 28) ∷ (codes "ft9", 29) ∷ (codes "ft10", 30) ∷ (codes "ft11", 31)
    ∷ []

-- the number of the register with a name, or none
unfoldable pub float_register_number : List ℕ → Option ℕ
float_register_number name = named_by float_register_names name

-- the names of the calling convention, in the order of their registers
unfoldable pub convention_names : List (List ℕ)
convention_names =
    codes "ft0" ∷ codes "ft1" ∷ codes "ft2" ∷ codes "ft3" ∷ codes "ft4" ∷ codes "ft5" ∷ codes "ft6" ∷ codes "ft7"
    ∷ codes "fs0" ∷ codes "fs1" ∷ codes "fa0" ∷ codes "fa1" ∷ codes "fa2" ∷ codes "fa3" ∷ codes "fa4" ∷ codes "fa5"
    ∷ codes "fa6" ∷ codes "fa7" ∷ codes "fs2" ∷ codes "fs3" ∷ codes "fs4" ∷ codes "fs5" ∷ codes "fs6" ∷ codes "fs7"
    ∷ codes "fs8" ∷ codes "fs9" ∷ codes "fs10" ∷ codes "fs11" ∷ codes "ft8" ∷ codes "ft9" ∷ codes "ft10" ∷ codes "ft11"
    ∷ []

-- the name of a register in the calling convention
abbrev pub float_register_name : ℕ → Option (List ℕ)
float_register_name n = slice_get convention_names n
