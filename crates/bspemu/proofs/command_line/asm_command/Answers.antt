-- The command has the shape of `asm`: each argument that is added is that of its rule, in the order of the definition.
use Rattle.std.proofs.Common.{codes, rules}
use Rattle.std.proofs.lemmas.Result.{IfOk-weaker}
use Rattle.clap.specs.Words.{new_app}
use Rattle.bspemu.specs.CommandLine.{HasApp}
use Rattle.bspemu.proofs.Commands.{with_arg}
use Rattle.bspemu.proofs.command_line.asm_command.Goals as goal

pub returns : goal.returns
returns c =
    let named : HasApp c.after_help.result (new_app (codes "asm")) = record { is = search rules; local = search rules } in
    let text = with_arg _ _ _ _ _ c.in_ok-arg.ensures named c.file.ensures in
    let image = with_arg _ _ _ _ _ c.in_ok-arg-2.ensures text c.file-2.ensures in
    let float = with_arg _ _ _ _ _ c.in_ok-arg-3.ensures image c.flag.ensures in
    IfOk-weaker c.arg-4.result _ _ (λ r adds. with_arg _ _ _ _ _ adds float c.flag-2.ensures) c.arg-4.ensures
