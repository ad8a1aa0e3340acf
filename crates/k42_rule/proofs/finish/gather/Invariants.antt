use Rattle.k42_rule.specs.Finishing.{IsGathering}
use Rattle.k42_rule.proofs.finish.gather.Given as goal

abbrev pub invariant-loop-pass : goal.invariant-loop-pass
invariant-loop-pass g l =
    IsGathering l.board.shared.table_id l.initial.seat l.seat l.fn.passes.items l.pass-iterator.rest.items
