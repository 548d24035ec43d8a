-- What dialogues and framed sessions add to the replies (own format): those that scripts do not have.
use Rattle.std.specs.Prelude.{ℕ, List, ◌++◌, drop, codes}
use Rattle.std.specs.Fmt.{decimal}
use Rattle.std.specs.List.{enumerate_from, flat_map}
use Rattle.cost_ledger.specs.declared.CostRow.{CostRow}
use Rattle.cost_ledger.specs.declared.LedgerText.{LedgerText}
use Rattle.cost_ledger.specs.declared.LedgerText.TheVariants.{V1, V2}
use Rattle.cost_ledger.specs.CostRow.{superstep_line, total_line}
use Rattle.node_core.specs.declared.state.State.{State}
use Rattle.node_core.specs.Names.{state_name}
use Rattle.machine_core.specs.declared.settings.Settings.{Settings}
use Rattle.bsp_debug.specs.declared.point.Point.TheVariants.{Address}
use Rattle.debug_lines.specs.Replies.{point_text}

-- the number of a version of the ledger
abbrev pub version_number : LedgerText → ℕ
version_number V1 = 1
version_number V2 = 2

-- what a machine is made of
abbrev pub settings_text : Settings → List ℕ
settings_text s = codes "nodes " ++ decimal s.nodes ++ codes " memory " ++ decimal s.memory ++ codes " limit " ++ decimal s.limit

-- how its costs are told: at g a byte and l a superstep, in a version of the ledger
abbrev pub prices_text : LedgerText → (g l : ℕ) → List ℕ
prices_text version g l =
    codes " g " ++ decimal g ++ codes " l " ++ decimal l ++ codes " ledger " ++ decimal (version_number version) ++ codes "\n"

-- the line of both
abbrev pub setup_text : Settings → LedgerText → (g l : ℕ) → List ℕ
setup_text s version g l = settings_text s ++ prices_text version g l

-- where a node is, in the superstep of this number
abbrev pub place_text : (rank pc superstep : ℕ) → State → List ℕ
place_text rank pc superstep state =
    point_text (Address rank pc) ++ codes " superstep " ++ decimal superstep ++ codes " state " ++ state_name state ++ codes "\n"

-- the lines of the supersteps from that of a number on
abbrev pub superstep_lines_from : LedgerText → (from : ℕ) → List CostRow → List ℕ
superstep_lines_from version from rows = flat_map (superstep_line version) (enumerate_from from (drop from rows))

-- the same, and the line of what all of them cost
abbrev pub cost_lines_from : LedgerText → (g l from : ℕ) → List CostRow → List ℕ
cost_lines_from version g l from rows = superstep_lines_from version from rows ++ total_line version g l rows
