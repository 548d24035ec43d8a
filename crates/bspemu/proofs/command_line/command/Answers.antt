-- The command line has its subcommands as defined: each that is added has the shape of its definition, and the formats are those listed.
use Rattle.std.proofs.Common.{refl, rules, []}
use Rattle.std.proofs.lemmas.Result.{IfOk-weaker}
use Rattle.bspemu.specs.CommandLine.{HasApp, ListsFormats, bspemu_shape}
use Rattle.bspemu.proofs.Commands.{with_made}
use Rattle.bspemu.proofs.command_line.command.Goals as goal

pub returns : goal.returns
returns c =
    let named : HasApp c.arg_required_else_help-command.result (record { top = bspemu_shape; subs = [] }) =
    record { is = search rules; local = search rules } in
    let listed : ListsFormats c.as_slice-formats.result = rw c.as_slice-formats.ensures refl in
    let run = with_made _ _ _ _ _ (c.in_ok-command.ensures {u = tt}) named c.run_command.ensures in
    let debug = with_made _ _ _ _ _ (c.in_ok-command-2.ensures {u = tt}) run c.debug_command.ensures in
    let list = with_made _ _ _ _ _ (c.in_ok-command-3.ensures {u = tt}) debug c.list_command.ensures in
    IfOk-weaker c.with_subcommand-4.result _ _
    (λ r adds. record {
      formats = c.as_slice-formats.result;
      listed = listed;
      has = with_made _ _ _ _ _ adds list c.asm_command.ensures;
    })
    c.with_subcommand-4.ensures
