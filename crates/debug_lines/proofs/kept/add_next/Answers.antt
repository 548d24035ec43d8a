-- The node joins the group, or the group is told and the node begins one.
use Rattle.std.proofs.Common.{sym, ◌∙◌}
use Rattle.debug_lines.specs.KeptViews.{group_value}
use Rattle.debug_lines.proofs.Groups.{next-same, next-other}
use Rattle.debug_lines.proofs.kept.add_next.Goals as goal
use Rattle.debug_lines.proofs.kept.add_next.Goals.{then-eq, else-eq+in_ok-add_group}

pub returns : goal.returns
returns g c = λ others. elim c.if-eq.branch [
  | then-eq w ↦
      rw (w.text-is, w.group-is)
      (next-same (group_value c.args.group.now) (group_value c.in_ok-next.next) _ _ others c.in_ok-next.ensures
      (sym c.eq.ensures ∙ w.if-eq.true))
  | else-eq+in_ok-add_group w ↦
      rw (w.text-is, w.group-is, w.swap.ensures.x_after)
      (next-other (group_value c.args.group.now) (group_value c.in_ok-next.next) _ _ _ others c.in_ok-next.ensures
      (sym c.eq.ensures ∙ w.if-eq.false)
      w.in_ok-add_group.ensures)
]
