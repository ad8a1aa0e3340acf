use Rattle.std.proofs.Common.{rules, map, vec_items, sym, subst}
use Rattle.k42_stamp.specs.Lists.{AreLists}
use Rattle.k42_stamp.proofs.Listed.{lists_push}
use Rattle.kind_tests.proofs.tests.merges.lists_of.Goals as goal

pub loop-caller-preserved : goal.loop-caller-preserved
loop-caller-preserved c = (
  subst (λ items. AreLists (map vec_items items)) (sym c.in_ok-push.ensures.items) (lists_push vec_items c.loop-caller.lists.items c.in_ok-list_of.field-0 c.loop-caller.caller c.loop-caller.invariant.0 c.loop-caller.invariant.1 c.in_ok-list_of.ensures),
  search rules,
)
