use Rattle.record_text.proofs.Referee.Walking.{walked_end}
use Rattle.record_text.proofs.judging.course.Course.end_block.Goals as goal

pub returns-clause-kept : goal.returns-clause-kept
returns-clause-kept c = λ items told walked here. walked_end items told c.args.self.now walked here
