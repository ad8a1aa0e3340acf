use Rattle.std.proofs.Common.{length}
use Rattle.co_directory.proofs.copies.+bind_in_all.Given as goal

abbrev pub decreases-bind_in_all : goal.decreases-bind_in_all
decreases-bind_in_all l = length l.copies.now
