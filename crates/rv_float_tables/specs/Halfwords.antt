-- The layouts of the immediates of compressed loads and stores of doubles, each as the listings write it (RISC-V Unprivileged ISA
-- 20191213, section 16.8 "RVC Instruction Set Listings"). Those of singles are the layouts of C.LW, C.LWSP and C.SWSP.
use Rattle.std.specs.Prelude.{List, [], ◌∷◌}
use Rattle.rv_tables.specs.Halfwords.{◌to◌, bit, ◌holds◌, Part}

-- C.FLD, C.FSD: uimm[5:3], uimm[7:6]
abbrev pub double_layout : List Part
double_layout = 12 to 10 holds (5 to 3 ∷ []) ∷ 6 to 5 holds (7 to 6 ∷ []) ∷ []

-- C.FLDSP: uimm[5], uimm[4:3|8:6]
abbrev pub fldsp_layout : List Part
fldsp_layout = bit 12 holds (bit 5 ∷ []) ∷ 6 to 2 holds (4 to 3 ∷ 8 to 6 ∷ []) ∷ []

-- C.FSDSP: uimm[5:3|8:6]
abbrev pub fsdsp_layout : List Part
fsdsp_layout = 12 to 7 holds (5 to 3 ∷ 8 to 6 ∷ []) ∷ []
