use Rattle.std.proofs.Common.{sym, ap, ◌∙◌}
use Rattle.k42_rule.specs.Finishing.{with_none_kept}
use Rattle.table_crews.specs.Ready.{rest_from}
use Rattle.table_crews.proofs.PassLists.{at_rest, given_at_rest}
use Rattle.table_crews.proofs.crews.finish.Goals as goal

pub finish-requires-after_bounds : goal.finish-requires-after_bounds
finish-requires-after_bounds g c κs within =
    given_at_rest c.args.sys c.args.passes.len c.args.passes.items c.give_logs.new.passes c.args.passes.ok.0 (c.give_logs.ensures.passes ∙ ap with_none_kept c.as_mut_slice.ensures.value)
    (at_rest c.args.sys c.args.passes.items c.requires.many c.requires.free (sym (ap (rest_from 0) c.as_slice.ensures.value) ∙ sym c.rest.ensures ∙ c.if-not-rest.false))
