use Rattle.k42_stamp.proofs.MergesExist.{merge_exists}
use Rattle.k42_stamp.proofs.laws.lists_have_a_merge.Goals as goal

pub returns : goal.returns
returns g c = merge_exists
