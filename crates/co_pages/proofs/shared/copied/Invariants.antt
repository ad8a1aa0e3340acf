use Rattle.std.proofs.Common.{◌≡◌, fold}
use Rattle.co_pages.specs.PutIn.{put_in}
use Rattle.co_pages.proofs.shared.copied.Given as goal

abbrev pub invariant-loop-number : goal.invariant-loop-number
invariant-loop-number l = fold put_in l.copy l.number-iterator ≡ l.pages
