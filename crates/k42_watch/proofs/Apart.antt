-- Rows that are taken apart, stepped within, and put together again.
use Rattle.std.proofs.Common.{◌≡◌, ℕ, Bool, false, List, length, Option, if◌then◌else◌, OnOk, OnErr, refl, sym, ap, ◌∙◌}
use Rattle.std.specs.Result.{is_ok}
use Rattle.std.specs.declared.result.Result.{Result}
use Rattle.std.specs.declared.result.Result.TheVariants.{Ok, Err}
use Rattle.k42_memory.specs.declared.Memory.{Memory}
use Rattle.k42_kinds.specs.declared.entry.Reach.TheVariants.{All}
use Rattle.k42_kinds.specs.OneThread.{OneThread}
use Rattle.k42_kinds.specs.Rows.{Ways, changed_at}
use Rattle.k42_kinds.specs.LayoutLaws.{StepsRow}
use Rattle.k42_kinds.specs.Watched.{Asking, counted}
use Rattle.k42_watch.specs.WatchedRows.{Within, inners, seens, rejoined, watched_ways}
use Rattle.k42_watch.specs.CountLaws.{rejoined-apart}
use Rattle.k42_watch.specs.declared.watch.WatchPart.{WatchPart}

-- an operation at all cells leaves as many parts as there were
pub still_long : {S P O R : Type 0} (object : OneThread S O R) (ways : Ways S P O R) (Whole : List P → Type 0) (cells : ℕ) (old new : List P) (op : O) (result : Result R Memory)
    → ((row : List P) → Whole row → length row ≡ cells) → Whole old → StepsRow object ways Whole old op All
    → OnOk result (new ≡ ways.row_after old op) → OnErr result (new ≡ old) → length new ≡ length old
still_long object ways Whole cells old new op (Ok reply) sized whole steps moved same = ap length moved ∙ sized (ways.row_after old op) steps.whole ∙ sym (sized old whole)
still_long object ways Whole cells old new op (Err memory) sized whole steps moved same = ap length same

-- The row put together again: where the step was made it is the one that is due, and else as it was.
module _ {S P O R : Type 0} (asking : Asking O R) (ways : Ways S P O R) (known : Within) (row joined : List (WatchPart P)) (op : O) (apart within : List P) (kept seen : List (Option ℕ)) (made : Bool)
    (apart_is : apart ≡ inners row) (kept_is : kept ≡ seens row) (called : seen ≡ (if made then changed_at counted kept 0 else kept)) (joins : joined ≡ rejoined within seen) where
  pub stepped_row : (result : Result R Memory) → asking.asks op ≡ false → made ≡ is_ok result
      → OnOk result (within ≡ ways.row_after apart op) → OnOk result (joined ≡ (watched_ways asking known ways).row_after row op)
  stepped_row (Ok reply) not is moved =
      let stepped : within ≡ ways.row_after (inners row) op = moved ∙ ap (λ own. ways.row_after own op) apart_is in
      let counts : seen ≡ changed_at counted (seens row) 0 = called ∙ ap (λ (b : Bool). if b then changed_at counted kept 0 else kept) is ∙ ap (λ ones. changed_at counted ones 0) kept_is in
      joins ∙ (λ i. rejoined (stepped i) (counts i)) ∙ rw not refl
  stepped_row (Err memory) not is moved = tt

  pub same_row : (result : Result R Memory) → made ≡ is_ok result → OnErr result (within ≡ apart) → OnErr result (joined ≡ row)
  same_row (Ok reply) is same = tt
  same_row (Err memory) is same =
      let stayed : within ≡ inners row = same ∙ apart_is in
      let counts : seen ≡ seens row = called ∙ ap (λ (b : Bool). if b then changed_at counted kept 0 else kept) is ∙ kept_is in
      joins ∙ (λ i. rejoined (stayed i) (counts i)) ∙ rejoined-apart row

-- nothing was changed in between
pub rejoined_same : {P : Type 0} (row joined : List (WatchPart P)) (within : List P) (seen : List (Option ℕ)) → within ≡ inners row → seen ≡ seens row → joined ≡ rejoined within seen → joined ≡ row
rejoined_same row joined within seen stayed kept joins = joins ∙ (λ i. rejoined (stayed i) (kept i)) ∙ rejoined-apart row
