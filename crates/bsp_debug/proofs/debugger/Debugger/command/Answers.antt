-- What was made leads from where the machine was.
use Rattle.std.proofs.Common.{None, sym, ap, refl, ◌∙◌}
use Rattle.bsp_debug.specs.Inside.{debugger_view}
use Rattle.bsp_debug.specs.Reply.{answer}
use Rattle.bsp_debug.specs.Trace.{Traced}
use Rattle.bsp_debug.proofs.Commands.{same-others, forgot-made, forgot-start, made-machine, fault-of}
use Rattle.bsp_debug.proofs.Commands.{faultless-command, made-part, made-whole}
use Rattle.bsp_debug.proofs.Keeps.{reached-trace}
use Rattle.bsp_debug.proofs.debugger.Debugger.command.Goals as goal

pub invariant_of-self : goal.invariant_of-self
invariant_of-self g c =
    reached-trace (debugger_view c.self.inside) c.forget.new.self c.forget.ensures.trace
    (ap (λ (t : Traced). t.start) c.forget.ensures.value) c.self.invariant

pub invariant_of-self-in_err-check : goal.invariant_of-self-in_err-check
invariant_of-self-in_err-check g c =
    reached-trace (debugger_view c.self.inside) c.forget.new.self c.forget.ensures.trace
    (ap (λ (t : Traced). t.start) c.forget.ensures.value) c.self.invariant

pub returns-in_err-check-clause-machine : goal.returns-in_err-check-clause-machine
returns-in_err-check-clause-machine g c =
    made-machine (debugger_view c.self.inside) c.args.self.now c.forget.new.self c.args.command c.self.view_is c.forget.ensures.value
    c.forget.new.self c.forget.ensures.trace refl

pub returns-in_err-check-clause-few : goal.returns-in_err-check-clause-few
returns-in_err-check-clause-few g c = c.forget.ensures.trace.few

pub returns-in_err-check-clause-others : goal.returns-in_err-check-clause-others
returns-in_err-check-clause-others g c =
    same-others (debugger_view c.self.inside) c.args.self.now c.forget.new.self.machine c.forget.new.self.made c.self.view_is

pub returns-in_err-check-clause-unmade : goal.returns-in_err-check-clause-unmade
returns-in_err-check-clause-unmade g c =
    λ some. forgot-made (debugger_view c.self.inside) c.args.self.now c.forget.new.self c.args.command c.self.view_is c.forget.ensures.value

pub reply_to-requires-clause-fresh : goal.reply_to-requires-clause-fresh
reply_to-requires-clause-fresh g c =
    forgot-made (debugger_view c.self.inside) c.args.self.now c.forget.new.self c.args.command c.self.view_is c.forget.ensures.value

pub reply_to-requires-clause-start : goal.reply_to-requires-clause-start
reply_to-requires-clause-start g c =
    forgot-start (debugger_view c.self.inside) c.args.self.now c.forget.new.self c.args.command c.self.view_is c.forget.ensures.value

pub reply_to-requires-clause-faultless : goal.reply_to-requires-clause-faultless
reply_to-requires-clause-faultless g c = sym (c.in_ok-check.ensures {u = tt})

pub invariant_of-self-in_err-reply : goal.invariant_of-self-in_err-reply
invariant_of-self-in_err-reply g c =
    reached-trace (debugger_view c.self.inside) c.reply_to.new.trace c.reply_to.ensures.trace
    (c.reply_to.ensures.start ∙ ap (λ (t : Traced). t.start) c.forget.ensures.value) c.self.invariant

pub returns-in_err-reply-clause-machine : goal.returns-in_err-reply-clause-machine
returns-in_err-reply-clause-machine g c =
    made-machine (debugger_view c.self.inside) c.args.self.now c.forget.new.self c.args.command c.self.view_is c.forget.ensures.value
    c.reply_to.new.trace c.reply_to.ensures.trace c.reply_to.ensures.start

pub returns-in_err-reply-clause-few : goal.returns-in_err-reply-clause-few
returns-in_err-reply-clause-few g c = c.reply_to.ensures.trace.few

pub returns-in_err-reply-clause-others : goal.returns-in_err-reply-clause-others
returns-in_err-reply-clause-others g c =
    same-others (debugger_view c.self.inside) c.args.self.now c.reply_to.new.trace.machine c.reply_to.new.trace.made c.self.view_is

pub returns-in_err-reply-clause-unmade : goal.returns-in_err-reply-clause-unmade
returns-in_err-reply-clause-unmade g c =
    λ some.
    absurd (faultless-command (debugger_view c.self.inside) c.args.self.now c.forget.new.self c.args.command c.self.view_is
    c.forget.ensures.value (c.in_ok-check.ensures {u = tt}) some)

pub returns-in_err-reply-clause-no_memory : goal.returns-in_err-reply-clause-no_memory
returns-in_err-reply-clause-no_memory g c =
    λ memory. (
      fault-of (debugger_view c.self.inside) c.args.self.now c.forget.new.self c.args.command c.self.view_is c.forget.ensures.value None
          (c.in_ok-check.ensures {u = tt}),
      made-part (debugger_view c.self.inside) c.args.self.now c.forget.new.self c.args.command c.self.view_is c.forget.ensures.value
          c.reply_to.new.trace.made c.in_err-reply.ensures.err,
    )

pub invariant_of-self-2 : goal.invariant_of-self-2
invariant_of-self-2 g c =
    reached-trace (debugger_view c.self.inside) c.reply_to.new.trace c.reply_to.ensures.trace
    (c.reply_to.ensures.start ∙ ap (λ (t : Traced). t.start) c.forget.ensures.value) c.self.invariant

pub returns-clause-machine : goal.returns-clause-machine
returns-clause-machine g c =
    made-machine (debugger_view c.self.inside) c.args.self.now c.forget.new.self c.args.command c.self.view_is c.forget.ensures.value
    c.reply_to.new.trace c.reply_to.ensures.trace c.reply_to.ensures.start

pub returns-clause-few : goal.returns-clause-few
returns-clause-few g c = c.reply_to.ensures.trace.few

pub returns-clause-others : goal.returns-clause-others
returns-clause-others g c =
    same-others (debugger_view c.self.inside) c.args.self.now c.reply_to.new.trace.machine c.reply_to.new.trace.made c.self.view_is

pub returns-clause-ok : goal.returns-clause-ok
returns-clause-ok g c =
    made-whole (debugger_view c.self.inside) c.args.self.now c.forget.new.self c.args.command c.self.view_is c.forget.ensures.value
    c.reply_to.new.trace.made (answer c.in_ok-reply.reply) c.in_ok-reply.ensures.ok

pub returns-clause-faultless : goal.returns-clause-faultless
returns-clause-faultless g c =
    fault-of (debugger_view c.self.inside) c.args.self.now c.forget.new.self c.args.command c.self.view_is c.forget.ensures.value None
    (c.in_ok-check.ensures {u = tt})

pub returns-clause-unmade : goal.returns-clause-unmade
returns-clause-unmade g c =
    λ some.
    absurd (faultless-command (debugger_view c.self.inside) c.args.self.now c.forget.new.self c.args.command c.self.view_is
    c.forget.ensures.value (c.in_ok-check.ensures {u = tt}) some)
