-- What words ask for.
use Rattle.std.specs.Prelude.{◌≡◌, ◌⊎◌, ◌<◌, ◌^◌, ◌&&◌, ◌||◌, ℕ, Bool, true}
use Rattle.std.specs.Prelude.{false, List, [], Option, Some, None, is_some, option_map, codes}
use Rattle.std.specs.Borrow.{Bor}
use Rattle.std.specs.Str.Parse.{IsNumeral, digits_value, without_leading_plus}
use Rattle.clap.specs.Words.{Row, Text, first_of, one_of, subcommand_of, fault_of, IsAmong, kind_of}
use Rattle.clap.specs.declared.error.Error.{Error}
use Rattle.clap.specs.declared.error.kind.ErrorKind.{ErrorKind}
use Rattle.clap.specs.declared.error.kind.ErrorKind.TheVariants.{ArgumentConflict, MissingSubcommand, OutOfMemory}
use Rattle.rv_atomics.specs.declared.extensions.Extensions.{Extensions}
use Rattle.bsp_session.specs.declared.job.Format.{Format}
use Rattle.bsp_session.specs.declared.job.Format.TheVariants.{Elf, Raw, Asm}
use Rattle.cost_ledger.specs.declared.LedgerText.{LedgerText}
use Rattle.cost_ledger.specs.declared.LedgerText.TheVariants.{V1, V2}
use Rattle.machine_core.specs.declared.settings.Prices.{Prices}
use Rattle.machine_core.specs.declared.settings.Settings.{Settings}
use Rattle.bspemu.specs.declared.options.MachineOptions.{MachineOptions}
use Rattle.bspemu.specs.declared.options.RunOptions.{RunOptions}
use Rattle.bspemu.specs.declared.options.OutputMode.{OutputMode}
use Rattle.bspemu.specs.declared.options.OutputMode.TheVariants.{AtEnd, Live, WithProfile, WithCounts, WithContested, WithExposed}
use Rattle.bspemu.specs.declared.options.DebugOptions.{DebugOptions}
use Rattle.bspemu.specs.declared.options.ListOptions.{ListOptions}
use Rattle.bspemu.specs.declared.options.AsmOptions.{AsmOptions}
use Rattle.bspemu.specs.declared.options.Action.{Action}
use Rattle.bspemu.specs.declared.options.Action.TheVariants as action
use Rattle.bspemu.specs.CommandLine.{NameList, ListsFormats, bspemu_app}

-- no value meets the fact
abbrev pub IsNeverMet : {X : Type 0} → (X → Type 0) → Type 0
IsNeverMet {X} P = (x : X) → P x → ⊥

abbrev pub name_of_format : Format → Text
name_of_format (Elf large) = codes "elf"
name_of_format (Raw large) = codes "raw"
name_of_format (Asm extensions) = codes "asm"

-- a text may have the statements of the extensions that are asked for, and of no others; another file has the limits of a large machine
-- where that is asked for, and only there
abbrev pub IsFormatFor : Extensions → (large : Bool) → Format → Type 0
IsFormatFor extensions large (Asm known) = known ≡ extensions
IsFormatFor extensions large (Elf is_large) = is_large ≡ large
IsFormatFor extensions large (Raw is_large) = is_large ≡ large

-- a value spells this number of so many bits in decimal digits, which a plus may precede
pub record GivesNumber (bits : ℕ) (value : Option Text) (n : ℕ) : Type 0 where
  pub digits : Text
  pub is : value ≡ Some digits
  pub numeral : IsNumeral 10 (without_leading_plus digits)
  pub number : n ≡ digits_value 10 (without_leading_plus digits)
  pub fits : n < 2 ^ bits

-- a flag is set, or it is not
abbrev pub GivesFlag : Option Text → Bool → Type 0
GivesFlag value true = value ≡ Some (codes "true")
GivesFlag value false = value ≡ Some (codes "false")

-- the number of a version of the ledger
abbrev pub number_of_ledger : LedgerText → ℕ
number_of_ledger V1 = 1
number_of_ledger V2 = 2

-- they give this version
abbrev pub GivesLedger : List Row → LedgerText → Type 0
GivesLedger rows version = GivesNumber 32 (one_of (codes "ledger") rows) (number_of_ledger version)

-- they give these prices, which are those of the costs
pub record GivesPrices (rows : List Row) (p : Prices) : Type 0 where
  pub g : GivesNumber 32 (one_of (codes "g") rows) p.g
  pub l : GivesNumber 32 (one_of (codes "l") rows) p.l
  pub ledger : GivesLedger rows p.ledger

-- they ask for clocks at these prices, or for none
abbrev pub GivesClock : List Row → Option Prices → Type 0
GivesClock rows None = GivesFlag (one_of (codes "clock") rows) false
GivesClock rows (Some p) = GivesFlag (one_of (codes "clock") rows) true × GivesPrices rows p

-- the matches of a subcommand over a machine give these settings, each from the value of its own id
pub record GivesSettings (rows : List Row) (s : Settings) : Type 0 where
  pub nodes : GivesNumber 32 (one_of (codes "nodes") rows) s.nodes
  pub memory : GivesNumber 32 (one_of (codes "memory") rows) s.memory
  pub limit : GivesNumber 64 (one_of (codes "limit") rows) s.limit
  pub clock : GivesClock rows s.clock
  pub float : GivesFlag (one_of (codes "float") rows) s.float
  pub atomic : GivesFlag (one_of (codes "atomic") rows) s.atomic
  pub large : GivesFlag (one_of (codes "large") rows) s.large

-- the extensions that nodes with these settings have
abbrev pub extensions_of : Settings → Extensions
extensions_of s = record { float = s.float; atomic = s.atomic }

-- the matches of a subcommand without a machine ask for these extensions
pub record GivesExtensions (rows : List Row) (extensions : Extensions) : Type 0 where
  pub float : GivesFlag (one_of (codes "float") rows) extensions.float
  pub atomic : GivesFlag (one_of (codes "atomic") rows) extensions.atomic

-- the text of a path that may be there
abbrev pub text_of : Option (Bor Text) → Option Text
text_of path = option_map (λ text. text.now) path

-- and these options, whatever the workers, the slice and the report
pub record GivesMachineOptions (rows : List Row) (o : MachineOptions) : Type 0 where
  pub image : first_of (codes "image") rows ≡ Some o.image.now
  pub input : first_of (codes "input") rows ≡ text_of o.input
  pub format : first_of (codes "format") rows ≡ Some (name_of_format o.job.format)
  pub settings : GivesSettings rows o.job.settings
  pub language : IsFormatFor (extensions_of o.job.settings) o.job.settings.large o.job.format
  pub g : GivesNumber 32 (one_of (codes "g") rows) o.job.g
  pub l : GivesNumber 32 (one_of (codes "l") rows) o.job.l
  pub ledger : GivesLedger rows o.job.ledger

-- a flag, and the paths of a profile, of counts, of what is contested and of what is exposed, ask for this way to tell of a run, and for
-- no other
abbrev pub Tells : (live : Bool) → (profile counts contested exposed : Option Text) → OutputMode → Type 0
Tells live profile counts contested exposed AtEnd =
    (live ≡ false) × (profile ≡ None) × (counts ≡ None) × (contested ≡ None) × (exposed ≡ None)
Tells live profile counts contested exposed Live =
    (live ≡ true) × (profile ≡ None) × (counts ≡ None) × (contested ≡ None) × (exposed ≡ None)
Tells live profile counts contested exposed (WithProfile path) =
    (live ≡ false) × (profile ≡ Some path.now) × (counts ≡ None) × (contested ≡ None) × (exposed ≡ None)
Tells live profile counts contested exposed (WithCounts path) =
    (live ≡ false) × (profile ≡ None) × (counts ≡ Some path.now) × (contested ≡ None) × (exposed ≡ None)
Tells live profile counts contested exposed (WithContested path) =
    (live ≡ false) × (profile ≡ None) × (counts ≡ None) × (contested ≡ Some path.now) × (exposed ≡ None)
Tells live profile counts contested exposed (WithExposed path) =
    (live ≡ false) × (profile ≡ None) × (counts ≡ None) × (contested ≡ None) × (exposed ≡ Some path.now)

-- so do the matches of `run`
pub record GivesOutputMode (rows : List Row) (t : OutputMode) : Type 0 where
  pub live : Bool
  pub flag : GivesFlag (one_of (codes "live") rows) live
  pub tells : Tells live (first_of (codes "profile") rows) (first_of (codes "counts") rows) (first_of (codes "contested") rows)
      (first_of (codes "exposed") rows) t

-- more than one of five
abbrev pub are_several : Bool → Bool → Bool → Bool → Bool → Bool
are_several a b c d e = (a && (b || c || d || e)) || (b && (c || d || e)) || (c && (d || e)) || (d && e)

-- they ask for more than one way
pub record AsksForSeveral (rows : List Row) : Type 0 where
  pub live : Bool
  pub flag : GivesFlag (one_of (codes "live") rows) live
  pub several : are_several live (is_some (first_of (codes "profile") rows)) (is_some (first_of (codes "counts") rows))
      (is_some (first_of (codes "contested") rows)) (is_some (first_of (codes "exposed") rows)) ≡ true

-- the matches of `run` give these options
pub record GivesRunOptions (rows : List Row) (o : RunOptions) : Type 0 where
  pub machine : GivesMachineOptions rows o.machine
  pub workers : GivesNumber 32 (one_of (codes "workers") rows) o.machine.job.workers
  pub slice : GivesNumber 64 (one_of (codes "slice") rows) o.machine.job.slice
  pub report : GivesFlag (one_of (codes "report") rows) o.machine.job.report
  pub output_mode : GivesOutputMode rows o.output_mode

-- the matches of `debug` give these options
pub record GivesDebugOptions (rows : List Row) (o : DebugOptions) : Type 0 where
  pub machine : GivesMachineOptions rows o.machine
  pub workers : o.machine.job.workers ≡ 1
  pub slice : o.machine.job.slice ≡ 2 ^ 16
  pub report : o.machine.job.report ≡ false
  pub interactive : GivesFlag (one_of (codes "interactive") rows) o.interactive
  pub framed : GivesFlag (one_of (codes "framed") rows) o.framed

-- the matches of `list` give these options
pub record GivesListOptions (rows : List Row) (o : ListOptions) : Type 0 where
  pub image : first_of (codes "image") rows ≡ Some o.image.now
  pub format : first_of (codes "format") rows ≡ Some (name_of_format o.format)
  pub extensions : GivesExtensions rows o.extensions
  pub large : GivesFlag (one_of (codes "large") rows) o.large
  pub language : IsFormatFor o.extensions o.large o.format

-- the matches of `asm` give these options
pub record GivesAsmOptions (rows : List Row) (o : AsmOptions) : Type 0 where
  pub text : first_of (codes "text") rows ≡ Some o.text.now
  pub image : first_of (codes "image") rows ≡ Some o.image.now
  pub extensions : GivesExtensions rows o.extensions

-- the matches of a subcommand of this name give this action
abbrev pub GivesAction : Text → List Row → Action → Type 0
GivesAction name rows (action.Run o) = (name ≡ codes "run") × GivesRunOptions rows o
GivesAction name rows (action.Debug o) = (name ≡ codes "debug") × GivesDebugOptions rows o
GivesAction name rows (action.List o) = (name ≡ codes "list") × GivesListOptions rows o
GivesAction name rows (action.Asm o) = (name ≡ codes "asm") × GivesAsmOptions rows o

-- there is a subcommand, and its matches give this action
abbrev pub Gives : Option (Text × List Row) → Action → Type 0
Gives None a = ⊥
Gives (Some (name, rows)) a = GivesAction name rows a

-- clap finds no fault in the words, and its matches give this action
pub record AsksFor (words : List Text) (a : Action) : Type 0 where
  pub formats : NameList
  pub listed : ListsFormats formats
  pub faultless : fault_of (bspemu_app formats) words ≡ []
  pub gives : Gives (subcommand_of (bspemu_app formats) words) a

-- there is the subcommand `run`, and its matches ask for more than one way to tell of it
abbrev pub HasConflict : Option (Text × List Row) → Type 0
HasConflict None = ⊥
HasConflict (Some (name, rows)) = (name ≡ codes "run") × AsksForSeveral rows

-- the kind of fault where matches give no action: more than one way to tell of a run is asked for, or a value is missing
abbrev pub IsLack : Option (Text × List Row) → ErrorKind → Type 0
IsLack found kind = ((kind ≡ ArgumentConflict) × HasConflict found) ⊎ ((kind ≡ MissingSubcommand) × (HasConflict found → ⊥))

-- clap finds none, and the matches still give no action, for this reason
pub record LacksAction (words : List Text) (formats : NameList) (kind : ErrorKind) : Type 0 where
  pub faultless : fault_of (bspemu_app formats) words ≡ []
  pub never : IsNeverMet (Gives (subcommand_of (bspemu_app formats) words))
  pub lack : IsLack (subcommand_of (bspemu_app formats) words) kind

-- clap finds a fault of this kind in the words, or it finds none and the matches still give no action
pub record FindsFault (words : List Text) (e : Error) : Type 0 where
  pub formats : NameList
  pub listed : ListsFormats formats
  pub found : IsAmong (kind_of e) (fault_of (bspemu_app formats) words) ⊎ LacksAction words formats (kind_of e)

-- why words ask for nothing: memory ran out, or the words have a fault
abbrev pub IsFaultOf : List Text → Error → Type 0
IsFaultOf words e = (kind_of e ≡ OutOfMemory) ⊎ FindsFault words e
