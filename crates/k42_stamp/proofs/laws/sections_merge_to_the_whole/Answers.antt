use Rattle.k42_stamp.proofs.MergedSections.{sections_merged}
use Rattle.k42_stamp.proofs.laws.sections_merge_to_the_whole.Goals as goal

pub returns : goal.returns
returns g c = sections_merged
