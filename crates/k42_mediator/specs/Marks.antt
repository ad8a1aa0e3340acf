-- The entry of a swap that found its object over.
use Rattle.std.specs.Prelude.{◌≡◌, ℕ, ◌+◌, ◌<◌, true, false, Some, None, length}
use Rattle.k42_limits.specs.declared.TheConstants.{PASS_ENTRIES}
use Rattle.k42_kinds.specs.Histories.{is_call}
use Rattle.k42_kinds.specs.declared.entry.Act.{Act}
use Rattle.k42_kinds.specs.declared.entry.Answer.{Answer}
use Rattle.k42_kinds.specs.declared.entry.Entry.{Entry}
use Rattle.turn_core.specs.Events.{caller_drawn}
use Rattle.k42_joined.specs.Numbers.{cell_of}
use Rattle.k42_joined.specs.Swapping.{holds_none}
use Rattle.k42_board.specs.Drawing.{IsDrawer}
use Rattle.k42_board.specs.Log.{ComesTo}
use Rattle.k42_board.specs.Plan.{LayoutWords}
use Rattle.k42_board.specs.Protocol as protocol
use Rattle.k42_board.specs.Seen.{SysSeen, PassSeen}
use Rattle.k42_board.specs.Stepping.{HasStepped}
use Rattle.k42_board.specs.Tabling.{is_over_in}
use Rattle.k42_board.specs.Values.{answer_in, incarnation_in}
use Rattle.k42_board.specs.Views.{object_begun, word_begun, live_at}
use Rattle.k42_board.specs.declared.view.PassView.{PassView}
use Rattle.k42_mediator.specs.Entries.{IsNext}
use Rattle.k42_mediator.specs.declared.answers.Marked.{Marked}
use Rattle.k42_mediator.specs.declared.answers.Marked.TheVariants as marks

-- its last Begin found the object over, and it has drawn nothing since; it holds no cell
pub record MayMark {P O R : Type 0} (act : Act O) (v : PassView P O R) : Type 0 where
  pub act_is : is_call act ≡ false
  pub found : v.found ≡ answer_in (live_at v (object_begun v.last)) (word_begun v.last)
  pub over : is_over_in (live_at v (object_begun v.last)) (word_begun v.last) ≡ true
  pub free : holds_none v.taker.held ≡ true
  pub few : length v.taker.mine < PASS_ENTRIES

-- the first cell of the present row
abbrev pub cell_marked : {P O R : Type 0} → PassView P O R → ℕ
cell_marked v = cell_of (object_begun v.last) (incarnation_in (word_begun v.last)) 0

-- the pass has drawn what the Begin answered
pub record HasMarked {P O R : Type 0} (act : Act O) (old new : PassSeen P O R) : Type 0 where
  pub drawer : IsDrawer old new
  pub answer : Answer R
  pub told : answer_in (live_at old.view (object_begun old.view.last)) (word_begun old.view.last) ≡ Some answer
  pub entry : Entry O R
  pub next :
      IsNext old.view (object_begun old.view.last) (incarnation_in (word_begun old.view.last)) (cell_marked old.view) act
      answer entry
  pub comes : ComesTo old.view (record old.view { taker = caller_drawn entry old.view.taker; found = None }) new.view

module _ {S L P O R : Type 0} (words : LayoutWords S L P O R) (sys : SysSeen L) where
  -- it has found the lock of that cell with this caller
  abbrev pub IsHeldBy : ℕ → PassSeen P O R → PassSeen P O R → Type 0
  IsHeldBy holder old new = HasStepped words sys (protocol.lock (cell_marked old.view)) old (holder + 1) new

  abbrev pub IsMarkAnswer : Marked → Act O → PassSeen P O R → PassSeen P O R → Type 0
  IsMarkAnswer marks.Marked act old new = HasMarked act old new
  IsMarkAnswer (marks.Held holder) act old new = IsHeldBy holder old new
