-- An outcome before the exchange keeps it from being made, and so does a fault of it; else there is no outcome.
use Rattle.std.proofs.Common.{◌≡◌, Bool, false, true, List, Option, Some, None, refl, sym, ap, ◌∙◌, option_map}
use Rattle.std.proofs.lemmas.Bool.{false≢true, true≢false}
use Rattle.std.specs.Prelude.{IfSome, IsNone, is_some, is_none, not}
use Rattle.node_core.specs.Node.{NodeState}
use Rattle.bsp_exchange.specs.Exchange.{states}
use Rattle.bsp_exchange.specs.Faults.{exchange_fault}
use Rattle.bsp_exchange.specs.declared.fault.ExchangeFault.{ExchangeFault}
use Rattle.machine_core.specs.declared.outcome.Outcome.{Outcome}
use Rattle.machine_core.specs.declared.outcome.Outcome.TheVariants.{Refused}
use Rattle.machine_core.specs.Turn.{outcome_of, makes_exchange}
use Rattle.machine_core.proofs.Closings.{outcome-exchange}
use Rattle.machine_core.proofs.closing.makes_exchange.Goals as goal

has_outcome : (answer : Option Outcome) (nodes : List NodeState) → IfSome answer (λ outcome. outcome_of nodes ≡ Some outcome)
    → is_some answer ≡ true → false ≡ makes_exchange nodes
has_outcome None nodes some is = absurd (false≢true is)
has_outcome (Some outcome) nodes some is = rw some refl

is-none : (answer : Option Outcome) → is_some answer ≡ false → IsNone answer
is-none None is = refl
is-none (Some outcome) is = absurd (true≢false is)

is-not-some : (answer : Bool) (fault : Option ExchangeFault) → is_some fault ≡ not answer → answer ≡ is_none fault
is-not-some true None is = refl
is-not-some false (Some fault) is = refl
is-not-some true (Some fault) is = absurd (true≢false is)
is-not-some false None is = absurd (false≢true is)

none-refused : (fault : Option ExchangeFault) → is_none (option_map Refused fault) ≡ is_none fault
none-refused None = refl
none-refused (Some fault) = refl

pub returns-then-is_some : goal.returns-then-is_some
returns-then-is_some g c =
    has_outcome c.outcome_before_exchange.result (states c.args.nodes.now) c.outcome_before_exchange.ensures.some
    (sym c.is_some.ensures ∙ c.if-is_some.true)

pub returns : goal.returns
returns g c =
    let none = is-none c.outcome_before_exchange.result (sym c.is_some.ensures ∙ c.if-is_some.false) in
    let all =
    outcome-exchange c.args.nodes.now (c.outcome_before_exchange.ensures.stopped none) (c.outcome_before_exchange.ensures.ended none) in
    is-not-some c.is_none.result c.first_fault.result c.is_none.ensures ∙ ap is_none c.first_fault.ensures
    ∙ sym (ap is_none all ∙ none-refused (exchange_fault (states c.args.nodes.now)))
