use Rattle.std.proofs.Common.{length}
use Rattle.k42_handles.proofs.starting.+objects_coded.Given as goal

abbrev pub decreases-objects_coded : goal.decreases-objects_coded
decreases-objects_coded l = length l.objects.now
