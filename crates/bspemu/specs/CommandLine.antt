-- The command line, as clap's rules (own rules for the words; clap's documentation for how words meet rules).
use Rattle.std.specs.Prelude.{◌≡◌, pos, false, true, List, [], ◌∷◌, Some, map, codes}
use Rattle.std.specs.Borrow.{Bor}
use Rattle.clap.specs.Words.{App, Rule, Shape, Text, app_of, new_app, new_rule, rule_of, with_rule, with_subcommand}
use Rattle.clap.specs.declared.builder.action.ArgAction.TheVariants.{SetTrue}
use Rattle.clap.specs.declared.builder.arg.Arg.{Arg}
use Rattle.clap.specs.declared.builder.command.Command.{Command}
use Rattle.clap.specs.declared.builder.command.Command.TheViews.{out-Command}
use Rattle.clap.specs.declared.builder.value_parser.ValueParser.{ValueParser}
use Rattle.clap.specs.declared.builder.value_parser.ValueParser.TheVariants.{Names, Signed, Unsigned}

-- a list of names, as clap's rules hold it
abbrev pub NameList : Type 0
NameList = Bor (List (Bor Text))

-- the list names the formats
abbrev pub ListsFormats : NameList → Type 0
ListsFormats names = map (λ name. name.now) names.now ≡ codes "elf" ∷ codes "raw" ∷ codes "asm" ∷ []

-- `--NAME VALUE`
abbrev pub option_rule : Text → Rule
option_rule name = record (new_rule name) { long = Some name; value_names = 1 }

-- `--NAME`, without a value
abbrev pub flag_rule : Text → Rule
flag_rule name = record (new_rule name) { long = Some name; action = Some SetTrue }

-- an option with a parser of its values, and with a default
abbrev pub checked_rule : Text → ValueParser → Text → Rule
checked_rule name parser default = record (option_rule name) { parser = Some parser; defaults = default ∷ [] }

-- `NAME`, which has to be there
abbrev pub file_rule : Text → Rule
file_rule name = record (new_rule name) { value_names = 1; required = true }

abbrev pub format_rule : NameList → Rule
format_rule formats = checked_rule (codes "format") (Names formats) (codes "elf")

-- the numbers of 32 bits
abbrev pub in_32_bits : ValueParser
in_32_bits = Signed (pos 0) (pos 4294967295)

-- those of 64 bits
abbrev pub in_64_bits : ValueParser
in_64_bits = Unsigned 0 18446744073709551615

abbrev pub nodes_rule : Rule
nodes_rule = checked_rule (codes "nodes") in_32_bits (codes "1")

abbrev pub memory_rule : Rule
memory_rule = checked_rule (codes "memory") in_32_bits (codes "1048576")

abbrev pub limit_rule : Rule
limit_rule = checked_rule (codes "limit") in_64_bits (codes "1000000")

abbrev pub g_rule : Rule
g_rule = checked_rule (codes "g") in_32_bits (codes "1")

abbrev pub l_rule : Rule
l_rule = checked_rule (codes "l") in_32_bits (codes "0")

-- the versions of the ledger by their numbers
abbrev pub ledger_rule : Rule
ledger_rule = checked_rule (codes "ledger") (Signed (pos 1) (pos 2)) (codes "2")

abbrev pub workers_rule : Rule
workers_rule = checked_rule (codes "workers") in_32_bits (codes "1")

abbrev pub slice_rule : Rule
slice_rule = checked_rule (codes "slice") in_64_bits (codes "65536")

-- `NAME IMAGE` with what a machine is made of, the prices of its costs, the version in which they are told, whether there are clocks,
-- units of floating point and the instructions of A, and whether the machine is a large one
abbrev pub machine_app : Text → NameList → App
machine_app name formats =
    with_rule (with_rule (with_rule (with_rule (with_rule (with_rule (with_rule (with_rule (with_rule (with_rule (with_rule (with_rule (with_rule
    (new_app name) (file_rule (codes "image"))) (format_rule formats)) nodes_rule) memory_rule) limit_rule) (option_rule (codes "input")))
    g_rule) l_rule) ledger_rule) (flag_rule (codes "clock"))) (flag_rule (codes "float")))
    (flag_rule (codes "atomic"))) (flag_rule (codes "large"))

-- `run IMAGE` with its options
abbrev pub run_app : NameList → App
run_app formats =
    with_rule (with_rule (with_rule (with_rule (with_rule (with_rule (with_rule (with_rule (machine_app (codes "run") formats)
    (flag_rule (codes "report"))) (flag_rule (codes "live"))) workers_rule) slice_rule) (option_rule (codes "profile")))
    (option_rule (codes "counts"))) (option_rule (codes "contested"))) (option_rule (codes "exposed"))

-- `debug IMAGE` with its options
abbrev pub debug_app : NameList → App
debug_app formats =
    with_rule (with_rule (machine_app (codes "debug") formats) (flag_rule (codes "interactive"))) (flag_rule (codes "framed"))

-- `list IMAGE` with its options
abbrev pub list_app : NameList → App
list_app formats =
    with_rule (with_rule (with_rule (with_rule (with_rule (new_app (codes "list")) (file_rule (codes "image"))) (format_rule formats))
    (flag_rule (codes "float"))) (flag_rule (codes "atomic"))) (flag_rule (codes "large"))

-- `asm TEXT IMAGE` with its options
abbrev pub asm_app : App
asm_app =
    with_rule (with_rule (with_rule (with_rule (new_app (codes "asm")) (file_rule (codes "text"))) (file_rule (codes "image")))
    (flag_rule (codes "float"))) (flag_rule (codes "atomic"))

-- with no words the program answers with its help, and `--version` asks for its version
abbrev pub bspemu_shape : Shape
bspemu_shape = record (new_app (codes "bspemu")).top { has_version = true; arg_required_else_help = true; subcommand_required = true }

abbrev pub bspemu_app : NameList → App
bspemu_app formats =
    with_subcommand (with_subcommand (with_subcommand (with_subcommand (record { top = bspemu_shape; subs = [] })
    (run_app formats).top) (debug_app formats).top) (list_app formats).top) asm_app.top

-- an argument that clap reads by this rule
pub record HasRule (arg : Arg) (rule : Rule) : Type 0 where
  pub is : rule_of arg ≡ rule
  pub local : arg.global ≡ false

-- a command whose words clap reads as this app's
pub record HasApp (command : Command) (app : App) : Type 0 where
  pub is : app_of command ≡ app
  pub local : (out-Command command).has_globals ≡ false

-- the same for an app with the names of the formats
pub record HasAppOfFormats (command : Command) (app : NameList → App) : Type 0 where
  pub formats : NameList
  pub listed : ListsFormats formats
  pub has : HasApp command (app formats)
