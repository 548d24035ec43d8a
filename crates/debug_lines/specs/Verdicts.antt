-- What a line is answered that no reply of a debugger answers (own format).
use Rattle.std.specs.Prelude.{ℕ, List, [], ◌++◌, codes}
use Rattle.std.specs.Fmt.{decimal}
use Rattle.bsp_debug.specs.declared.error.DebugError.{DebugError}
use Rattle.bsp_debug.specs.declared.error.DebugError.TheVariants.{BadRank, BadRange, NoFloatUnit, TooMany}
use Rattle.bsp_debug.specs.declared.error.DebugError.TheVariants.{NoSuchBreak, NoSuchKept, Over, NoMemory}
use Rattle.bsp_debug.specs.Errors.{name_of}
use Rattle.debug_lines.specs.Help.{usage}
use Rattle.debug_lines.specs.declared.verdict.Verdict.{Verdict}
use Rattle.debug_lines.specs.declared.verdict.Verdict.TheVariants.{Done, Kept, Refused, BadCommand, Misused, NoLine}

-- what is told behind the name of a refusal: by which option a session is started that does not refuse it, if there is one
abbrev pub advice : DebugError → List ℕ
advice NoFloatUnit = codes ": nodes have one with --float"
advice BadRank = []
advice BadRange = []
advice TooMany = []
advice NoSuchBreak = []
advice NoSuchKept = []
advice Over = []
advice NoMemory = []

abbrev pub verdict_text : Verdict → List ℕ
verdict_text Done = codes "ok\n"
verdict_text (Kept number) = codes "kept " ++ decimal number ++ codes "\n"
verdict_text (Refused error) = codes "refused: " ++ name_of error ++ advice error ++ codes "\n"
verdict_text BadCommand = codes "refused: BadCommand\n"
verdict_text (Misused topic) = codes "refused: BadCommand: the line is " ++ usage topic ++ codes "\n"
verdict_text NoLine = codes "refused: BadCommand: there is no such line; help lists the lines\n"
