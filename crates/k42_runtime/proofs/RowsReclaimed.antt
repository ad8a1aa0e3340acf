-- A grace that began once rows were collected, and the reclaim that ends it.
use Rattle.std.proofs.Common.{◌≡◌, ℕ, ◌+◌, zero, suc, Bool, true, false, List, [], ◌∷◌, ◌++◌, Option, Some, None, take, refl, ap, ◌∙◌, subst}
use Rattle.std.specs.Prelude.{if◌then◌else◌, nat_lt}
use Rattle.std.proofs.Math.Seq.{take-length}
use Rattle.phase_core.specs.Plain.{Visitor}
use Rattle.phase_core.specs.State.{note_at}
use Rattle.k42_stamp.specs.Layouts.{Layouts}
use Rattle.k42_joined.specs.Numbers.{cell_of}
use Rattle.k42_board.specs.Log.{Extends, Grows, obstacles, step_at}
use Rattle.k42_board.specs.Noting.{notes_due}
use Rattle.k42_board.specs.Seen.{PassSeen}
use Rattle.k42_board.specs.Words.{freed_word, role_word}
use Rattle.k42_board.specs.declared.view.PassView.{PassView}
use Rattle.k42_board.specs.declared.view.Row.{Row}
use Rattle.k42_board.specs.declared.view.StepName.TheVariants as steps
use Rattle.k42_board.specs.declared.view.Taken.{Taken}
use Rattle.k42_board.proofs.Gained.{extends_as, extends_by, extends_on, extends_one, extends_same, grows_one, grows_on, grows_same, obstacles_none}
use Rattle.k42_quiesce.specs.Collecting.{HasCollected}
use Rattle.k42_quiesce.specs.Gracing.{HasGraced, after_tries}
use Rattle.k42_quiesce.specs.Reclaiming.{Frees, FreesAll, Reclaims, steps_emptying, steps_emptying_row, steps_freeing}
use Rattle.k42_runtime.specs.Reclaims.{with_rows}

-- a cell is emptied without meeting anybody, and so is a row
emptied_alone : (o row p : ℕ) → obstacles (steps_emptying_row o row p) ≡ []
emptied_alone o row zero = refl
emptied_alone o row (suc p) = obstacles_none (steps_emptying (cell_of o row p)) (steps_emptying_row o row p) refl (emptied_alone o row p)

freed_alone : (procs o : ℕ) (note : Option ℕ) (count : ℕ) (old new : List Taken) → Frees procs o note count old new → Extends old new
freed_alone procs o None count old new is = extends_as is.1 (extends_same old)
freed_alone procs o (Some number) count old new is =
    extends_by (steps_freeing procs o number is.found) is.log
    (obstacles_none (if nat_lt is.found number then steps_emptying_row o is.found procs else []) (step_at steps.Free (freed_word o) is.found ∷ []) (go (nat_lt is.found number)) refl)
  where
    go : (b : Bool) → obstacles (if b then steps_emptying_row o is.found procs else []) ≡ []
    go true = emptied_alone o is.found procs
    go false = refl

all_freed_alone : (procs : ℕ) (noted : List (Option ℕ)) (many count : ℕ) (old new : List Taken) → FreesAll procs noted many count old new → Extends old new
all_freed_alone procs noted zero count old new is = extends_as is.1 (extends_same old)
all_freed_alone procs noted (suc o) count old new is =
    extends_on (all_freed_alone procs noted o is.1 old is.0 is.3) (freed_alone procs o (note_at noted o) is.2 is.0 new is.4)

-- so a reclaim meets nobody
pub reclaims_alone : {procs many : ℕ} {noted : List (Option ℕ)} {old new : List Taken} {count : ℕ} → Reclaims procs many noted old new count → Extends old new
reclaims_alone {procs} {many} {noted} {old} {new} {count} is =
    extends_on (all_freed_alone procs noted many count old is.log is.frees)
    (extends_as is.given (extends_one (step_at steps.GiveRole role_word 0) is.log refl))

-- tries of the role free nothing
tries_grow : (holders : List ℕ) (log : List Taken) → Grows log (after_tries holders log)
tries_grow [] log = grows_same log
tries_grow (holder ∷ holders) log = grows_on (tries_grow holders log) (grows_one (step_at steps.TakeRole role_word (holder + 1)) (after_tries holders log) refl)

module _ {S L P O R : Type 0} (F : Layouts S L P O R) (declared : List L) (id : ℕ) (old mid : PassSeen P O R) (more : List Row) (w : PassView P O R)
    (is : HasCollected more old mid) (graced : HasGraced F declared id mid.view w) where
  -- it serves all rows that the pass has
  pub serves_all : take w.granted w.rows ≡ old.view.rows ++ more
  serves_all =
      (λ j. take (ap (λ (v : PassView P O R). v.granted) graced.goes.rest j) (ap (λ (v : PassView P O R). v.rows) graced.goes.rest j)) ∙ take-length mid.view.rows
      ∙ ap (λ (v : PassView P O R). v.rows) is.knows

  pub notes_all : w.visitor.noted ≡ notes_due (with_rows more old.view)
  notes_all = ap (λ (x : Visitor). x.noted) graced.goes.visitor ∙ ap notes_due is.knows

  -- and frees nothing yet
  pub grows_graced : Grows old.view.log w.log
  grows_graced =
      let tried : List Taken = after_tries graced.holders mid.view.log in
      let before : Grows old.view.log tried = subst (λ (log : List Taken). Grows log tried) (ap (λ (v : PassView P O R). v.log) is.knows) (tries_grow graced.holders mid.view.log) in
      grows_on (grows_on before (grows_one (step_at steps.TakeRole role_word 0) tried refl)) graced.goes.frees_none
