-- A command that grows by an argument or a subcommand.
use Rattle.std.proofs.Common.{ap, ap₂, ◌∙◌, ◌||◌, Bool, List, [], ◌∷◌, Result, Ok, Err, subst}
use Rattle.std.specs.Prelude.{IfOk, IsOkAnd}
use Rattle.std.specs.declared.alloc.AllocError.{AllocError}
use Rattle.clap.specs.Words.{AddsArg, AddsInTurn, AddsSubcommand, App, Rule, with_rule, with_subcommand}
use Rattle.clap.specs.declared.builder.arg.Arg.{Arg}
use Rattle.clap.specs.declared.builder.command.Command.{Command}
use Rattle.bspemu.specs.CommandLine.{HasApp, HasRule}

-- an argument joins the app by its rule
pub with_arg : (old new : Command) (arg : Arg) (app : App) (rule : Rule) → AddsArg old arg new → HasApp old app → HasRule arg rule
    → HasApp new (with_rule app rule)
with_arg old new arg app rule adds before has = record {
  is = adds.shape has.local ∙ ap₂ with_rule before.is has.is;
  local = adds.globals ∙ ap₂ (λ (a b : Bool). a || b) before.local has.local;
}

-- arguments by their rules, one for each
abbrev pub HaveRules : List Arg → List Rule → Type 0
HaveRules [] [] = Unit {0}
HaveRules (arg ∷ args) (rule ∷ rules) = HasRule arg rule × HaveRules args rules
HaveRules _ _ = ⊥

abbrev pub with_rules : App → List Rule → App
with_rules app [] = app
with_rules app (rule ∷ rules) = with_rules (with_rule app rule) rules

-- they join it in turn
pub with_args : (old new : Command) (app : App) (args : List Arg) (rules : List Rule) → AddsInTurn AddsArg old args new → HasApp old app
    → HaveRules args rules → HasApp new (with_rules app rules)
with_args old new app [] [] same before have = subst (λ command. HasApp command app) same before
with_args old new app (arg ∷ args) (rule ∷ rules) adds before have =
    with_args adds.0 new (with_rule app rule) args rules adds.2 (with_arg old adds.0 arg app rule adds.1 before have.0) have.1
with_args old new app [] (rule ∷ rules) adds before have = absurd have
with_args old new app (arg ∷ args) [] adds before have = absurd have

-- a subcommand joins it by its shape
pub with_sub : (old sub new : Command) (app below : App) → AddsSubcommand old sub new → HasApp old app → HasApp sub below
    → HasApp new (with_subcommand app below.top)
with_sub old sub new app below adds before has = record {
  is = adds.shape has.local ∙ ap₂ with_subcommand before.is (ap (λ (a : App). a.top) has.is);
  local = adds.globals ∙ ap₂ (λ (a b : Bool). a || b) before.local has.local;
}

-- the same where it was made
pub with_made : (old new : Command) (sub : Result Command AllocError) (app below : App) → IsOkAnd sub (λ s. AddsSubcommand old s new)
    → HasApp old app
    → IfOk sub (λ s. HasApp s below) → HasApp new (with_subcommand app below.top)
with_made old new (Ok sub) app below adds before has = with_sub old sub new app below adds before has
with_made old new (Err refused) app below adds before has = absurd adds
