-- A pass that waits for a cell, and takes the step of the handler again.
use Rattle.std.proofs.Common.{◌≡◌, ℕ, ◌+◌, ◌<◌, List, [], ◌∷◌, Result, Ok, Err, length, refl, sym, ap, ◌∙◌, subst}
use Rattle.std.specs.Prelude.{Some, OnErr}
use Rattle.phase_core.specs.Stages.{is_missed}
use Rattle.k42_stamp.specs.Layouts.{Layouts}
use Rattle.k42_joined.specs.Swapping.{holds_none}
use Rattle.k42_board.specs.Seen.{SysSeen, PassSeen, IsPassOf, IsSamePass}
use Rattle.k42_board.specs.Values.{layout_in}
use Rattle.k42_board.specs.declared.view.PassView.{PassView}
use Rattle.k42_tables.specs.Entries.{IfFilled}
use Rattle.k42_tables.specs.Missing.{MayMiss, after_tries, steps_tried, HasFilled, HasFilledAtLast, HasGivenUp, HasGivenUpAtLast, IsHeldUp}
use Rattle.k42_tables.specs.declared.answers.Filled.{Filled}
use Rattle.k42_tables.specs.declared.answers.Tried as tries
use Rattle.k42_tables.specs.declared.answers.Tried.TheVariants as tried

pub on_err_any : {X E A : Type 0} (r : Result X E) → A → OnErr r A
on_err_any (Ok x) a = tt
on_err_any (Err e) a = a

pub same_on : {P O R : Type 0} {old now new : PassSeen P O R} → IsSamePass old now → IsSamePass now new → IsSamePass old new
same_on first second = record {
  table = second.table ∙ first.table;
  seat = second.seat ∙ first.seat;
  keep = second.keep ∙ first.keep;
  room = second.room ∙ first.room;
  row_room = second.row_room ∙ first.row_room;
  queue = second.queue ∙ first.queue;
  pushed = second.pushed ∙ first.pushed;
  popped = second.popped ∙ first.popped;
}

-- it is the same pass, still in the call that missed, and has only tried since
pub record IsWaiting {P O R : Type 0} (o : ℕ) (old now : PassSeen P O R) : Type 0 where
  pub same : IsSamePass old now
  pub tries : List (ℕ × ℕ)
  pub there : now.view ≡ record old.view { layout = now.view.layout; log = after_tries o tries old.view }

pub may_still : {P O R : Type 0} (objects o : ℕ) (old now : PassSeen P O R) → IsWaiting o old now → MayMiss objects o old.view → MayMiss objects o now.view
may_still {O} {R} objects o old now waits may = record {
  missed = ap (λ (x : PassView _ O R). is_missed x.visitor.place o) waits.there ∙ may.missed;
  there = may.there;
  free = ap (λ (x : PassView _ O R). holds_none x.taker.held) waits.there ∙ may.free;
}

pub ours_still : {L P O R : Type 0} (sys : SysSeen L) (o : ℕ) (old now : PassSeen P O R) → IsWaiting o old now → IsPassOf sys old → IsPassOf sys now
ours_still {O} {R} sys o old now waits ours = record {
  table = waits.same.table ∙ ours.table;
  proc = subst (λ p. p < sys.procs) (sym (ap (λ (x : PassView _ O R). x.turn.proc) waits.there)) ours.proc;
  waits = ap (λ (x : PassView _ O R). length x.turn.waits) waits.there ∙ ours.waits;
  objects = ap (λ (x : PassView _ O R). length x.visitor.noted) waits.there ∙ ours.objects;
  shapes = ap (λ (x : PassView _ O R). x.shapes) waits.there ∙ ours.shapes;
  spans = ap (λ (x : PassView _ O R). length x.visitor.freeing) waits.there ∙ ours.spans;
  queue = waits.same.queue ∙ ours.queue;
  keep = (λ i. (waits.same.keep i).what) ∙ ours.keep;
}

pub waits_from : {P O R : Type 0} (o : ℕ) (old : PassSeen P O R) → IsWaiting o old old
waits_from o old = record {
  same = record { table = refl; seat = refl; keep = refl; room = refl; row_room = refl; queue = refl; pushed = refl; popped = refl };
  tries = [];
  there = refl;
}

module _ {P O R : Type 0} (o : ℕ) (old now : PassSeen P O R) (waits : IsWaiting o old now) where
  -- the pass as it was, but for what it has learned and taken since
  abbrev still : PassView P O R
  still = record old.view { layout = now.view.layout; log = after_tries o waits.tries old.view }

  pub given_up : (w : PassView P O R) → HasGivenUp o now.view w → HasGivenUpAtLast o old.view w
  given_up w is' =
      let is = subst (λ v. HasGivenUp o v w) waits.there is' in
      record {
        tries = waits.tries;
        up = record { root = is.root; rooted = record { word = record { layout = is.rooted.word.layout; last = is.rooted.word.last }; row = is.rooted.row }; ended = is.ended; knows = is.knows };
      }

  pub filled_at_last : {S L : Type 0} (F : Layouts S L P O R) (declared : List L) (w : PassView P O R) (answer : Filled)
      (given : tries.Tried) → given ≡ tried.Filled answer → IfFilled given (HasFilled F declared now.seat o now.view w)
      → HasFilledAtLast F declared old.seat o old.view w answer
  filled_at_last F declared w answer given told filled =
      let is' = subst (λ t. IfFilled t (HasFilled F declared now.seat o now.view w)) told filled in
      let is : HasFilled F declared old.seat o still w answer =
      subst (λ (z : ℕ × PassView P O R). HasFilled F declared z.0 o z.1 w answer) (λ k. (waits.same.seat k, waits.there k)) is' in
      record {
        tries = waits.tries;
        filled = record {
          root = is.root;
          rooted = record { word = record { layout = is.rooted.word.layout; last = is.rooted.word.last }; row = is.rooted.row };
          found = is.found;
          installed = is.installed;
          answered = is.answered;
        };
      }

  pub waits_on : (holder : ℕ) (new : PassSeen P O R) → IsSamePass now new → IsHeldUp o now.view new.view holder → IsWaiting o old new
  waits_on holder new same is =
      let tries : List (ℕ × ℕ) = (is.root, holder) ∷ waits.tries in
      let there : new.view ≡ record old.view { layout = Some (layout_in is.root); log = after_tries o tries old.view } =
      is.knows ∙ ap (λ (x : PassView P O R). record x { layout = Some (layout_in is.root); log = steps_tried o is.root (holder + 1) x }) waits.there in
      record {
        same = same_on waits.same same;
        tries = tries;
        there = there ∙ (λ k. record old.view { layout = (sym there k).layout; log = after_tries o tries old.view });
      }
