-- The command has the shape of `list`: each argument that is added is that of its rule, in the order of the definition.
use Rattle.std.proofs.Common.{codes, rules}
use Rattle.std.proofs.lemmas.Result.{IfOk-weaker}
use Rattle.clap.specs.Words.{new_app}
use Rattle.bspemu.specs.CommandLine.{HasApp}
use Rattle.bspemu.proofs.Commands.{with_arg}
use Rattle.bspemu.proofs.command_line.list_command.Goals as goal

pub returns : goal.returns
returns c =
    let named : HasApp c.about.result (new_app (codes "list")) = record { is = search rules; local = search rules } in
    let image = with_arg _ _ _ _ _ c.in_ok-arg.ensures named c.file.ensures in
    let format = with_arg _ _ _ _ _ c.in_ok-arg-2.ensures image c.format.ensures in
    let float = with_arg _ _ _ _ _ c.in_ok-arg-3.ensures format c.flag.ensures in
    let atomic = with_arg _ _ _ _ _ c.in_ok-arg-4.ensures float c.flag-2.ensures in
    IfOk-weaker c.arg-5.result _ _ (λ r adds. with_arg _ _ _ _ _ adds atomic c.flag-3.ensures) c.arg-5.ensures
