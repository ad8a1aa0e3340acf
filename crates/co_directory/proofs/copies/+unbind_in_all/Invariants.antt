use Rattle.std.proofs.Common.{length}
use Rattle.co_directory.proofs.copies.+unbind_in_all.Given as goal

abbrev pub decreases-unbind_in_all : goal.decreases-unbind_in_all
decreases-unbind_in_all l = length l.copies.now
