use Rattle.k42_stamp.proofs.MergedSections.{one_merge}
use Rattle.k42_stamp.proofs.laws.a_merge_is_one.Goals as goal

pub returns : goal.returns
returns g c = one_merge
