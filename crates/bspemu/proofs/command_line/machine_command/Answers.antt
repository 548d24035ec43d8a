-- A command over a machine has the arguments that `run` and `debug` share: each item of the list is made by its rule.
use Rattle.std.proofs.Common.{codes, rules, [], ◌∷◌, subst}
use Rattle.std.proofs.lemmas.Result.{IfOk-weaker}
use Rattle.clap.specs.Words.{AddsArg, AddsInTurn, new_app}
use Rattle.bspemu.specs.CommandLine.{HasApp, file_rule, flag_rule, format_rule, g_rule, l_rule}
use Rattle.bspemu.specs.CommandLine.{ledger_rule, limit_rule, memory_rule, nodes_rule, option_rule}
use Rattle.bspemu.proofs.Commands.{with_args}
use Rattle.bspemu.proofs.command_line.machine_command.Goals as goal

pub returns : goal.returns
returns c =
    let named : HasApp c.new.result (new_app c.args.name.now) = record { is = search rules; local = search rules } in
    IfOk-weaker c.args-2.result _ _
    (λ r adds.
    with_args _ r _ (c.file.result ∷ c.format.result ∷ c.number.result ∷ c.number-2.result ∷ c.long_number.result ∷ c.file_option.result
    ∷ c.number-3.result ∷ c.number-4.result ∷ c.ledger.result ∷ c.flag.result ∷ c.flag-2.result ∷ c.flag-3.result ∷ c.flag-4.result
    ∷ [])
    (file_rule (codes "image") ∷ format_rule c.args.formats ∷ nodes_rule ∷ memory_rule ∷ limit_rule ∷ option_rule (codes "input") ∷ g_rule
    ∷ l_rule ∷ ledger_rule ∷ flag_rule (codes "clock")
    ∷ flag_rule (codes "float") ∷ flag_rule (codes "atomic") ∷ flag_rule (codes "large") ∷ [])
    (subst (λ args. AddsInTurn AddsArg c.new.result args r) (c.in_ok-arguments.ensures {u = tt}).items adds) named (
      c.file.ensures,
      (
        c.format.ensures,
        (
          c.number.ensures,
          (
            c.number-2.ensures,
            (
              c.long_number.ensures,
              (
                c.file_option.ensures,
                (
                  c.number-3.ensures,
                  (c.number-4.ensures, (c.ledger.ensures, (c.flag.ensures, (c.flag-2.ensures, (c.flag-3.ensures, (c.flag-4.ensures, tt)))))),
                ),
              ),
            ),
          ),
        ),
      ),
    ))
    c.args-2.ensures
