-- What clap's rules give for the command line, whatever the words.
use Rattle.std.proofs.Common.{◌≡◌, ap, refl, subst, true, inl, inr, List, [], ◌∙◌}
use Rattle.clap.specs.Words.{App, HasKind, HasMatchesOf, IsAmong, Text, app_of}
use Rattle.clap.specs.Words.{fault_of, is_simple, is_simple_and_free, kind_of, subcommand_of, subcommand_rows_of}
use Rattle.clap.specs.declared.builder.command.Command.{Command}
use Rattle.clap.specs.declared.error.Error.{Error}
use Rattle.clap.specs.declared.error.kind.ErrorKind.{ErrorKind}
use Rattle.clap.specs.declared.parser.matches.ArgMatches.{ArgMatches}
use Rattle.bspemu.specs.CommandLine.{HasAppOfFormats, NameList, bspemu_app}
use Rattle.bspemu.specs.Options.{AsksFor, Gives, IsFaultOf, IsLack, IsNeverMet}
use Rattle.bspemu.specs.declared.options.Action.{Action}

-- they give its matches and its faults exactly
is_simple_line : (formats : NameList) → is_simple (bspemu_app formats) ≡ true
is_simple_line formats = refl

pub is_free_line : (formats : NameList) → is_simple_and_free (bspemu_app formats) ≡ true
is_free_line formats = refl

-- the matches of a parse are those of the words
found_of_parse : (command : Command) (words : List Text) (m : ArgMatches) (app : HasAppOfFormats command bspemu_app)
    → HasMatchesOf (app_of command) words m → subcommand_rows_of m ≡ subcommand_of (bspemu_app app.formats) words
found_of_parse command words m app matches =
    (matches (ap is_simple app.has.is ∙ is_simple_line app.formats)).1 ∙ ap (λ (a : App). subcommand_of a words) app.has.is

-- so is the action that they give
pub asks_of_parse : (command : Command) (words : List Text) (m : ArgMatches) (a : Action) → HasAppOfFormats command bspemu_app
    → fault_of (app_of command) words ≡ [] → HasMatchesOf (app_of command) words m → Gives (subcommand_rows_of m) a → AsksFor words a
asks_of_parse command words m a app faultless matches gives = record {
  formats = app.formats;
  listed = app.listed;
  faultless = subst (λ (a : App). fault_of a words ≡ []) app.has.is faultless;
  gives = subst (λ found. Gives found a) (found_of_parse command words m app matches) gives;
}

-- where they give none, what they lack is the fault
pub lack_of_parse : (command : Command) (words : List Text) (m : ArgMatches) (kind : ErrorKind) (e : Error)
    → HasAppOfFormats command bspemu_app
    → fault_of (app_of command) words ≡ [] → HasMatchesOf (app_of command) words m → IsNeverMet (Gives (subcommand_rows_of m))
    → IsLack (subcommand_rows_of m) kind → kind_of e ≡ kind → IsFaultOf words e
lack_of_parse command words m kind e app faultless matches never lack is = inr (record {
  formats = app.formats;
  listed = app.listed;
  found = inr (record {
    faultless = subst (λ (a : App). fault_of a words ≡ []) app.has.is faultless;
    never = subst (λ found. IsNeverMet (Gives found)) (found_of_parse command words m app matches) never;
    lack = rw is (subst (λ found. IsLack found kind) (found_of_parse command words m app matches) lack);
  });
})

-- a parse that fails has a fault of the words, or no memory
pub fault_of_parse : (command : Command) (words : List Text) (e : Error) → HasAppOfFormats command bspemu_app
    → HasKind (fault_of (app_of command) words) e → IsFaultOf words e
fault_of_parse command words e app (inl refused) = inl refused
fault_of_parse command words e app (inr found) = inr (record {
  formats = app.formats;
  listed = app.listed;
  found = inl (subst (λ (a : App). IsAmong (kind_of e) (fault_of a words)) app.has.is found);
})
