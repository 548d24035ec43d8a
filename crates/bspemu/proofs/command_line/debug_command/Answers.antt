-- The command has the shape of `debug`: that of any command over a machine, with two more flags.
use Rattle.std.proofs.Common.{codes, rules}
use Rattle.std.proofs.lemmas.Result.{IfOk-weaker}
use Rattle.bspemu.specs.CommandLine.{HasApp, machine_app}
use Rattle.bspemu.proofs.Commands.{with_arg}
use Rattle.bspemu.proofs.command_line.debug_command.Goals as goal

pub returns : goal.returns
returns c =
    let made = c.in_ok-machine_command.ensures in
    let named : HasApp c.after_help.result (machine_app (codes "debug") c.args.formats) =
    record { is = search rules; local = search rules } in
    let interactive = with_arg _ _ _ _ _ c.in_ok-arg.ensures named c.flag.ensures in
    IfOk-weaker c.arg-2.result _ _ (λ r adds. with_arg _ _ _ _ _ adds interactive c.flag-2.ensures) c.arg-2.ensures
