use Rattle.k42_quiesce.proofs.Ended.{quiet_always}
use Rattle.k42_quiesce.proofs.laws.quiet_activities_are_younger.Goals as goal

pub returns : goal.returns
returns g c = λ id v base quiet found. quiet_always _ _ id v base quiet found
