-- The command has the shape of `run`: that of any command over a machine, and a list of options, each made by its rule.
use Rattle.std.proofs.Common.{codes, rules, [], ◌∷◌, subst}
use Rattle.std.proofs.lemmas.Result.{IfOk-weaker}
use Rattle.clap.specs.Words.{AddsArg, AddsInTurn}
use Rattle.bspemu.specs.CommandLine.{HasApp, flag_rule, machine_app, option_rule, slice_rule, workers_rule}
use Rattle.bspemu.proofs.Commands.{with_args}
use Rattle.bspemu.proofs.command_line.run_command.Goals as goal

pub returns : goal.returns
returns c =
    let made = c.in_ok-machine_command.ensures in
    let named : HasApp c.after_help.result (machine_app (codes "run") c.args.formats) =
    record { is = search rules; local = search rules } in
    IfOk-weaker c.args-2.result _ _
    (λ r adds.
    with_args _ r _
    (c.flag.result ∷ c.flag-2.result ∷ c.number.result ∷ c.long_number.result ∷ c.file_option.result ∷ c.file_option-2.result
    ∷ c.file_option-3.result ∷ c.file_option-4.result ∷ [])
    (flag_rule (codes "report") ∷ flag_rule (codes "live") ∷ workers_rule ∷ slice_rule ∷ option_rule (codes "profile")
    ∷ option_rule (codes "counts") ∷ option_rule (codes "contested") ∷ option_rule (codes "exposed") ∷ [])
    (subst (λ args. AddsInTurn AddsArg c.after_help.result args r) (c.in_ok-arguments.ensures {u = tt}).items adds) named (
      c.flag.ensures,
      (
        c.flag-2.ensures,
        (
          c.number.ensures,
          (c.long_number.ensures, (c.file_option.ensures, (c.file_option-2.ensures, (c.file_option-3.ensures, (c.file_option-4.ensures, tt))))),
        ),
      ),
    ))
    c.args-2.ensures
