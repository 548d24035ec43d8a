-- Registers with the names that programs have for them (own format; the names are those of the calling convention, "RISC-V Assembly
-- Programmer's Handbook" of the RISC-V Unprivileged ISA 20191213).
use Rattle.std.specs.Prelude.{ℕ, ◌-◌, ◌==◌, ◌||◌, if◌then◌else◌, nat_lt, List, [], ◌++◌, length, codes}
use Rattle.std.specs.Fmt.{decimal}
use Rattle.std.specs.List.{enumerate_from, flat_map}
use Rattle.node_core.specs.declared.state.State.{State}
use Rattle.rv_listing.specs.Numerals.{eight_digits}
use Rattle.debug_lines.specs.Replies.{entry_end, node_line}

-- the name of a register that has a number among those of its kind
abbrev pub numbered_name : ℕ → List ℕ
numbered_name n =
    if nat_lt n 8 then codes "t" ++ decimal (n - 5) else
    (if nat_lt n 10 then codes "s" ++ decimal (n - 8) else
    (if nat_lt n 18 then codes "a" ++ decimal (n - 10) else
    (if nat_lt n 28 then codes "s" ++ decimal (n - 16) else codes "t" ++ decimal (n - 25))))

-- the name of a register
abbrev pub register_name : ℕ → List ℕ
register_name n =
    if n == 0 then codes "zero" else
    (if n == 1 then codes "ra" else
    (if n == 2 then codes "sp" else
    (if n == 3 then codes "gp" else
    (if n == 4 then codes "tp" else numbered_name n))))

-- a register, by its number and its name
abbrev pub label : ℕ → List ℕ
label n = codes "x" ++ decimal n ++ codes "/" ++ register_name n

-- what stands before it, so that all are seven wide
abbrev pub blanks : ℕ → List ℕ
blanks n = if (n == 0) || (n == 26) || (n == 27) then [] else (if nat_lt n 10 then codes "  " else codes " ")

-- a register with its label
abbrev pub named_entry : ℕ → ℕ × ℕ → List ℕ
named_entry count at = blanks at.0 ++ label at.0 ++ codes "=" ++ eight_digits at.1 ++ entry_end 4 count at.0

-- registers, four in a line
abbrev pub named_lines : List ℕ → List ℕ
named_lines x = flat_map (named_entry (length x)) (enumerate_from 0 x)

-- a node, and its registers
abbrev pub named_registers : (rank pc ticks : ℕ) → State → (x : List ℕ) → List ℕ
named_registers rank pc ticks state x = node_line rank pc ticks state ++ named_lines x
