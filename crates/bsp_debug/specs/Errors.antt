-- What a debugger's refusals are called in texts for users (own names).
use Rattle.std.specs.Prelude.{ℕ, List, codes}
use Rattle.bsp_debug.specs.declared.error.DebugError.{DebugError}
use Rattle.bsp_debug.specs.declared.error.DebugError.TheVariants.{BadRank, BadRange, NoFloatUnit, TooMany}
use Rattle.bsp_debug.specs.declared.error.DebugError.TheVariants.{NoSuchBreak, NoSuchKept, Over, NoMemory}

abbrev pub name_of : DebugError → List ℕ
name_of BadRank = codes "BadRank"
name_of BadRange = codes "BadRange"
name_of NoFloatUnit = codes "NoFloatUnit"
name_of TooMany = codes "TooMany"
name_of NoSuchBreak = codes "NoSuchBreak"
name_of NoSuchKept = codes "NoSuchKept"
name_of Over = codes "Over"
name_of NoMemory = codes "NoMemory"
