-- The values of targets, and how far jumps go to them.
use Rattle.std.specs.Prelude.{ℕ, ◌^◌, ◌==◌, Bool, false, not, ◌&&◌, ℤ, pos, ◌+ℤ◌, ◌-ℤ◌, int_rem, unsigned_abs, List, [], ◌∷◌, Option, Some}
use Rattle.std.specs.Prelude.{None, is_none, option_map}
use Rattle.std.specs.Int.{w32, cast_signed, int_rem_euclid}
use Rattle.std.specs.List.{list_any}
use Rattle.std.specs.Option.{option_map_or}
use Rattle.asm_syntax.specs.Operands.{Target}
use Rattle.asm_syntax.specs.Ranges.{signed, is_within}
use Rattle.asm_syntax.specs.Statements.{Statement, branch, jump_and_link, load_address, words, entry}
use Rattle.rv_asm.specs.Symbols.{Symbols}

-- the remainder of an integer divided by n, from 0 to n - 1
abbrev pub modulo : ℕ → ℤ → ℕ
modulo n z = unsigned_abs (int_rem_euclid z (pos n))

-- where a target's offset counts from: its label's address, or 0 where it has none
abbrev pub base_of : Symbols → Option (List ℕ) → Option ℕ
base_of symbols None = Some 0
base_of symbols (Some label) = symbols label

-- the word that a target stands for, the sum taken modulo 2 ^ 32; none where its label has no address
abbrev pub value_of : Symbols → Target → Option ℕ
value_of symbols target = option_map (λ base. modulo (2 ^ 32) (pos base +ℤ target.offset)) (base_of symbols target.label)

-- the offset of a jump: its target minus its own address modulo 2 ^ 32, as a signed word
abbrev pub offset_to : ℕ → ℕ → ℤ
offset_to address value = cast_signed w32 (modulo (2 ^ 32) (pos value -ℤ pos address))

-- a number that two's complement of `width` bits has
abbrev pub is_signed : ℕ → ℤ → Bool
is_signed width z = is_within (signed width) z

-- an offset is an even number that a field of `width` bits has
abbrev pub is_reached : ℕ → ℤ → Bool
is_reached width offset = is_signed width offset && (unsigned_abs (int_rem offset (pos 2)) == 0)

-- the target of a jump, and the width of its offset
abbrev pub reach_of : Statement → Option (Target × ℕ)
reach_of (branch op rs1 rs2 target) = Some (target, 13)
reach_of (jump_and_link rd target) = Some (target, 21)
reach_of _ = None

-- a jump, a branch being one too, has a target whose value is known and that its offset does not reach
abbrev pub is_out_of_reach : Symbols → ℕ → Statement → Bool
is_out_of_reach symbols address statement =
    option_map_or (λ jump. option_map_or (λ value. not (is_reached jump.1 (offset_to address value))) (value_of symbols jump.0) false)
    (reach_of statement) false

-- the targets of a statement
abbrev pub targets_of : Statement → List Target
targets_of (branch op rs1 rs2 target) = target ∷ []
targets_of (jump_and_link rd target) = target ∷ []
targets_of (load_address rd target) = target ∷ []
targets_of (words targets) = targets
targets_of (entry target) = target ∷ []
targets_of _ = []

-- a statement uses a label that no line has
abbrev pub uses_undefined : Symbols → Statement → Bool
uses_undefined symbols statement = list_any (λ target. is_none (value_of symbols target)) (targets_of statement)
