-- The transfer of an object's state.
use Rattle.std.specs.Prelude.{◌≡◌, ℕ, ◌+◌, ◌<◌, List, [], Some, None, slice_get}
use Rattle.k42_kinds.specs.OneThread.{OneThread}
use Rattle.k42_kinds.specs.declared.entry.Act.{Act}
use Rattle.k42_kinds.specs.declared.entry.Answer.TheVariants.{Swapped}
use Rattle.k42_kinds.specs.declared.entry.Entry.{Entry}
use Rattle.phase_core.specs.Stages.{IsInside}
use Rattle.phase_core.specs.State.{visitor_at}
use Rattle.turn_core.specs.Events.{caller_drawn}
use Rattle.k42_joined.specs.Numbers.{cell_of}
use Rattle.k42_joined.specs.Plain.{Joined}
use Rattle.k42_joined.specs.State.{many_callers}
use Rattle.k42_board.specs.Drawing.{IsDrawer}
use Rattle.k42_board.specs.Log.{ComesTo, Extends, with_log}
use Rattle.k42_board.specs.Seen.{PassSeen, IsSamePass}
use Rattle.k42_board.specs.Swapping.{object_swapped}
use Rattle.k42_board.specs.Values.{incarnation_in}
use Rattle.k42_board.specs.Views.{word_begun}
use Rattle.k42_board.specs.declared.view.PassView.{PassView}
use Rattle.k42_mediator.specs.Entries.{IsNext}
use Rattle.k42_mediator.specs.Taken.{released}

-- the layout is of the object's kind
pub record IsOfKind {S L O R : Type 0} (object_of : L → OneThread S O R) (declared : List L) (o : ℕ) (layout : L) : Type 0 where
  pub declaration : L
  pub declares : slice_get declared o ≡ Some declaration
  pub same : object_of layout ≡ object_of declaration

-- no call is inside a row of the object
abbrev pub IsVacant : {L O R : Type 0} → ℕ → Joined L O R → Type 0
IsVacant o s = (c i : ℕ) → c < many_callers s → IsInside (visitor_at s.phases c).place o i → ⊥

-- the entry of a swap that the pass has done
abbrev pub IsDoneNext : {P O R : Type 0} → Act O → PassView P O R → Entry O R → Type 0
IsDoneNext act v entry =
    let o = object_swapped v in let i = incarnation_in (word_begun v.last) in
    IsNext v o i (cell_of o (i + 1) 0) act (Swapped (i + 1)) entry

-- the pass has handed the row on, and holds these cells still
pub record HasHanded {P O R : Type 0} (act : Act O) (tag : ℕ) (cells : List ℕ) (old new : PassSeen P O R) : Type 0 where
  pub drawer : IsDrawer old new
  pub entry : Entry O R
  pub next : IsDoneNext act old.view entry
  pub knows :
      released cells new.view
      ≡ with_log new.view.log (record (released cells old.view) {
        taker = caller_drawn entry (released cells old.view).taker;
        found = None;
        handed = Some tag;
        untold = [];
      })
  pub log : Extends old.view.log new.view.log

-- the pass has handed the row on, and has drawn that
pub record HasDone {P O R : Type 0} (act : Act O) (tag : ℕ) (old new : PassSeen P O R) : Type 0 where
  pub drawer : IsDrawer old new
  pub entry : Entry O R
  pub next : IsDoneNext act old.view entry
  pub comes :
      ComesTo old.view
      (record old.view { taker = caller_drawn entry old.view.taker; found = None; handed = Some tag })
      new.view

-- the pass has what it had
pub record HasKept {P O R : Type 0} (old new : PassSeen P O R) : Type 0 where
  pub same : IsSamePass old new
  pub comes : ComesTo old.view old.view new.view
