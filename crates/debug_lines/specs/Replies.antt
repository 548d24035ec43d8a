-- What a debugger's answers are in texts for users (own format). Each line ends with a line feed.
use Rattle.std.specs.Prelude.{ℕ, ◌+◌, ◌/◌, ◌%◌, ◌^◌, ◌==◌, ◌||◌, true, false, if◌then◌else◌, List, [], ◌∷◌, ◌++◌, length, codes}
use Rattle.std.specs.Fmt.{decimal}
use Rattle.std.specs.List.{flat_map, enumerate_from}
use Rattle.bsp_requests.specs.Inbox.{payload_bytes}
use Rattle.bsp_requests.specs.Message.{Message}
use Rattle.rv_listing.specs.Numerals.{hexadecimal_in, two_digits, eight_digits}
use Rattle.node_core.specs.declared.state.State.{State}
use Rattle.node_core.specs.Names.{state_name}
use Rattle.cost_ledger.specs.declared.LedgerText.{LedgerText}
use Rattle.cost_ledger.specs.CostRow.{cost_lines}
use Rattle.machine_core.specs.Outcome.{outcome_text}
use Rattle.bsp_debug.specs.declared.point.Point.{Point}
use Rattle.bsp_debug.specs.declared.point.Point.TheVariants.{Address, Superstep}
use Rattle.bsp_debug.specs.Reply.{Answer, moved, turned, stopped, finished, registers, floats, bytes, queue, costs}

-- where a node or a machine is
abbrev pub point_text : Point → List ℕ
point_text (Address rank addr) = codes "rank " ++ decimal rank ++ codes " pc " ++ eight_digits addr
point_text (Superstep k) = codes "superstep " ++ decimal k

-- what follows an entry of lines of so many entries: the last one of a line and the last one of all end the line, and a space
-- follows the others
abbrev pub entry_end : (width count at : ℕ) → List ℕ
entry_end width count at = if ((at + 1) % width == 0) || (at + 1 == count) then codes "\n" else codes " "

-- a register, by its number
abbrev pub register_entry : ℕ → ℕ × ℕ → List ℕ
register_entry count at = codes "x" ++ decimal at.0 ++ codes "=" ++ eight_digits at.1 ++ entry_end 4 count at.0

-- the first line of a node
abbrev pub node_line : (rank pc ticks : ℕ) → State → List ℕ
node_line rank pc ticks state =
    point_text (Address rank pc) ++ codes " ticks " ++ decimal ticks ++ codes " state " ++ state_name state ++ codes "\n"

-- registers, four in a line
abbrev pub register_lines : List ℕ → List ℕ
register_lines x = flat_map (register_entry (length x)) (enumerate_from 0 x)

-- a pattern of 64 bits, in sixteen digits
abbrev pub sixteen_digits : ℕ → List ℕ
sixteen_digits n = hexadecimal_in 16 n

-- a flag of fcsr, by the value of its bit, if it is raised
abbrev pub flag_name : (fcsr bit : ℕ) → (name : List ℕ) → List ℕ
flag_name fcsr bit name = if fcsr / bit % 2 == 1 then name else []

-- the flags of fcsr that are raised, which are its lowest five bits, and `-` where none is (RISC-V Unprivileged ISA 20191213, section 11.2
-- "Floating-Point Control and Status Register")
abbrev pub flag_names : (fcsr : ℕ) → List ℕ
flag_names fcsr =
    if fcsr % 2 ^ 5 == 0 then codes " -" else
    flag_name fcsr 16 (codes " NV") ++ flag_name fcsr 8 (codes " DZ") ++ flag_name fcsr 4 (codes " OF") ++ flag_name fcsr 2 (codes " UF")
    ++ flag_name fcsr 1 (codes " NX")

-- the line of the fcsr of a node, and of what it has: the rounding mode frm, above the flags, and these
abbrev pub fcsr_line : (rank fcsr : ℕ) → List ℕ
fcsr_line rank fcsr =
    codes "rank " ++ decimal rank ++ codes " fcsr " ++ eight_digits fcsr ++ codes " frm " ++ decimal (fcsr / 2 ^ 5 % 2 ^ 3)
    ++ codes " flags"
    ++ flag_names fcsr ++ codes "\n"

-- a register of floating point, by its number
abbrev pub float_entry : ℕ → ℕ × ℕ → List ℕ
float_entry count at = codes "f" ++ decimal at.0 ++ codes "=" ++ sixteen_digits at.1 ++ entry_end 4 count at.0

-- registers of floating point, four in a line
abbrev pub float_lines : List ℕ → List ℕ
float_lines f = flat_map (float_entry (length f)) (enumerate_from 0 f)

-- the fcsr of a node, and its registers of floating point
abbrev pub float_registers : (rank fcsr : ℕ) → (f : List ℕ) → List ℕ
float_registers rank fcsr f = fcsr_line rank fcsr ++ float_lines f

-- a byte, by its place
abbrev pub byte_entry : ℕ → ℕ × ℕ → List ℕ
byte_entry count at = two_digits at.1 ++ entry_end 16 count at.0

-- bytes, sixteen in a line
abbrev pub byte_lines : List ℕ → List ℕ
byte_lines bs = flat_map (byte_entry (length bs)) (enumerate_from 0 bs)

-- bytes of any number as one word, which is `-` for none
abbrev pub octets : List ℕ → List ℕ
octets [] = codes "-"
octets (b ∷ bs) = flat_map two_digits (b ∷ bs)

abbrev pub message_line : Message → List ℕ
message_line m =
    codes "from " ++ decimal m.sender ++ codes " tag " ++ octets m.tag ++ codes " payload " ++ octets m.payload ++ codes "\n"

-- a queue: a line of how many messages there are, and of the bytes of their payloads, and then a line for each
abbrev pub queue_lines : List Message → List ℕ
queue_lines q =
    codes "count " ++ decimal (length q) ++ codes " bytes " ++ decimal (payload_bytes q) ++ codes "\n" ++ flat_map message_line q

-- the lines of an answer, costs in a version of the ledger at g a byte and l a superstep
abbrev pub reply_text : LedgerText → (g l : ℕ) → Answer → List ℕ
reply_text version g l (moved steps) = codes "moved " ++ decimal steps ++ codes "\n"
reply_text version g l (turned true) = codes "turned\n"
reply_text version g l (turned false) = codes "not turned\n"
reply_text version g l (stopped point) = codes "stopped at " ++ point_text point ++ codes "\n"
reply_text version g l (finished outcome) = outcome_text outcome ++ codes "\n"
reply_text version g l (registers rank pc ticks state x) = node_line rank pc ticks state ++ register_lines x
reply_text version g l (floats rank fcsr f) = float_registers rank fcsr f
reply_text version g l (bytes bs) = byte_lines bs
reply_text version g l (queue q) = queue_lines q
reply_text version g l (costs rows) = cost_lines version g l rows
