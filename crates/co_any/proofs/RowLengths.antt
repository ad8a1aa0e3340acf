-- An operation at all cells leaves as many parts as there were.
use Rattle.std.proofs.Common.{◌≡◌, ℕ, List, length, OnOk, OnErr, sym, ap, ◌∙◌}
use Rattle.std.specs.declared.result.Result.{Result}
use Rattle.std.specs.declared.result.Result.TheVariants.{Ok, Err}
use Rattle.k42_memory.specs.declared.Memory.{Memory}
use Rattle.k42_kinds.specs.declared.entry.Reach.TheVariants.{All}
use Rattle.k42_kinds.specs.OneThread.{OneThread}
use Rattle.k42_kinds.specs.Rows.{Ways}
use Rattle.k42_kinds.specs.LayoutLaws.{StepsRow}

pub still_long : {S P O R : Type 0} (object : OneThread S O R) (ways : Ways S P O R) (Whole : List P → Type 0) (cells : ℕ) (old new : List P) (op : O) (result : Result R Memory) → ((row : List P) → Whole row → length row ≡ cells) → Whole old → StepsRow object ways Whole old op All → OnOk result (new ≡ ways.row_after old op) → OnErr result (new ≡ old) → length new ≡ length old
still_long object ways Whole cells old new op (Ok reply) sized whole steps moved same = ap length moved ∙ sized (ways.row_after old op) steps.whole ∙ sym (sized old whole)
still_long object ways Whole cells old new op (Err memory) sized whole steps moved same = ap length same
