use Rattle.std.proofs.Common.{arith}
use Rattle.std.proofs.lemmas.Bool.Decides.{nat_tests}
use Rattle.record_text.proofs.Referee.Crews.{done_decided}
use Rattle.record_text.proofs.judging.is_done.Goals as goal

pub returns-clause-done : goal.returns-clause-done
returns-clause-done c = λ told walked. done_decided c.args.items.now told c.walk.new.self _ (c.walk.ensures.kept told walked) c.walk.ensures.at_line (λ yes. grind (arith, nat_tests, yes), λ le. grind (arith, nat_tests, le))
