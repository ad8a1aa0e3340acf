use Rattle.std.proofs.Common.{rules, refl, sym, subst}
use Rattle.k42_stamp.proofs.Listed.{IsListUpTo, list_push}
use Rattle.kind_tests.proofs.tests.merges.list_of.Goals as goal

pub loop-stamp-preserved : goal.loop-stamp-preserved
loop-stamp-preserved c = subst (IsListUpTo c.args.caller _) (sym c.in_ok-push_onto.ensures.ok) (list_push c.args.caller c.loop-stamp.last c.loop-stamp.list.items _ c.loop-stamp.invariant refl (search rules))
