-- Registers of floating point with the names that programs have for them (own format; the names are those of the calling convention,
-- "RISC-V Assembly Programmer's Handbook" of the RISC-V Unprivileged ISA 20191213).
use Rattle.std.specs.Prelude.{ℕ, ◌-◌, ◌==◌, ◌||◌, if◌then◌else◌, nat_lt, List, [], ◌++◌, length, codes}
use Rattle.std.specs.Fmt.{decimal}
use Rattle.std.specs.List.{enumerate_from, flat_map}
use Rattle.debug_lines.specs.Replies.{entry_end, fcsr_line, sixteen_digits}

-- the name of a register
abbrev pub float_name : ℕ → List ℕ
float_name n =
    if nat_lt n 8 then codes "ft" ++ decimal n else
    (if nat_lt n 10 then codes "fs" ++ decimal (n - 8) else
    (if nat_lt n 18 then codes "fa" ++ decimal (n - 10) else
    (if nat_lt n 28 then codes "fs" ++ decimal (n - 16) else codes "ft" ++ decimal (n - 20))))

-- a register, by its number and its name
abbrev pub float_label : ℕ → List ℕ
float_label n = codes "f" ++ decimal n ++ codes "/" ++ float_name n

-- what stands before it, so that all are eight wide
abbrev pub float_blanks : ℕ → List ℕ
float_blanks n =
    if nat_lt n 10 then codes "  " else (if (n == 26) || (n == 27) || (n == 30) || (n == 31) then [] else codes " ")

-- a register with its label
abbrev pub named_float_entry : ℕ → ℕ × ℕ → List ℕ
named_float_entry count at = float_blanks at.0 ++ float_label at.0 ++ codes "=" ++ sixteen_digits at.1 ++ entry_end 2 count at.0

-- registers, two in a line
abbrev pub named_float_lines : List ℕ → List ℕ
named_float_lines f = flat_map (named_float_entry (length f)) (enumerate_from 0 f)

-- the fcsr of a node, and its registers
abbrev pub named_float_registers : (rank fcsr : ℕ) → (f : List ℕ) → List ℕ
named_float_registers rank fcsr f = fcsr_line rank fcsr ++ named_float_lines f
