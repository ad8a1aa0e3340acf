-- What the step that frees leaves, for one object.
use Rattle.std.proofs.Common.{◌≡◌, ℕ, zero, suc, ◌+◌, ◌<◌, ◌≤◌, Bool, true, false, cond, eqb, ltb, List, [], ◌∷◌, ◌++◌, Some, None, length, length-set, refl, sym, ap, ◌∙◌, subst, arith, append_assoc}
use Rattle.std.specs.Prelude.{is_some, slice_set}
use Rattle.std.proofs.lemmas.Bool.{eq-eqb, lt-ltb, le-ltb, or_left, or_right}
use Rattle.phase_core.specs.State.{note_at}
use Rattle.k42_board.specs.Freeing.{number_noted, freed_view}
use Rattle.k42_board.specs.Log.{has_swept, step_at, took}
use Rattle.k42_board.specs.Seen.{SysSeen, PassSeen, IsPassOf, IsSamePass}
use Rattle.k42_board.specs.Words.{freed_word, freed_object}
use Rattle.k42_board.specs.declared.view.PassView.{PassView}
use Rattle.k42_board.specs.declared.view.StepName.TheVariants as steps
use Rattle.k42_board.specs.declared.view.Taken.{Taken}
use Rattle.k42_quiesce.specs.Reclaiming.{Frees, Sweeps, steps_emptying_row, row_emptied_view}

pub swept_still : {L P O R : Type 0} (sys : SysSeen L) (procs o count : ℕ) (old new : PassSeen P O R) → IsPassOf sys old → IsSamePass old new
    → Sweeps procs o count old.view new.view → IsPassOf sys new
swept_still {L} {P} {O} {R} sys procs o count old new is same sweeps =
    let rest = sweeps.rest in
    record {
      table = same.table ∙ is.table;
      proc = subst (λ n. n < sys.procs) (sym (ap (λ (v : PassView P O R). v.turn.proc) rest)) is.proc;
      waits = ap (λ (v : PassView P O R). length v.turn.waits) rest ∙ is.waits;
      objects = ap (λ (v : PassView P O R). length v.visitor.noted) rest ∙ is.objects;
      shapes = ap (λ (v : PassView P O R). v.shapes) rest ∙ is.shapes;
      spans = sweeps.spans ∙ is.spans;
      queue = same.queue ∙ is.queue;
      keep = (λ i. (same.keep i).what) ∙ is.keep;
    }

freed_object_is : (o : ℕ) → freed_object (freed_word o) ≡ o
freed_object_is o = omega arith

-- no step that empties a cell sweeps
swept_emptying : (o row p q : ℕ) (log : List Taken) → has_swept (steps_emptying_row o row p ++ log) q ≡ has_swept log q
swept_emptying o row zero q log = refl
swept_emptying o row (suc p) q log = swept_emptying o row p q log

-- nothing was noted
pub sweeps_none : {P O R : Type 0} (procs o : ℕ) (v : PassView P O R) → note_at v.visitor.noted o ≡ None → Sweeps procs o 0 v v
sweeps_none procs o v none = record {
  frees = subst (λ note. Frees procs o note 0 v.log v.log) (sym none) (refl, refl);
  spans = refl;
  marked = λ some. absurd (let no : is_some (note_at v.visitor.noted o) ≡ false = ap is_some none in cc);
  kept = λ q is. is;
  rest = refl;
}

module _ {P O R : Type 0} (procs o found number : ℕ) (v w : PassView P O R) (noted : note_at v.visitor.noted o ≡ Some number)
    (view : w ≡ took steps.Free (freed_word o) found (freed_view o found v)) where
  abbrev free_step : Taken
  free_step = step_at steps.Free (freed_word o) found

  abbrev KeepsRest : PassView P O R → Type 0
  KeepsRest u =
      (u ≡ record v { visitor = record v.visitor { freeing = u.visitor.freeing }; log = u.log; out = u.out })
      × (length u.visitor.freeing ≡ length v.visitor.freeing)

  abbrev freed_by : Bool → PassView P O R
  freed_by b = took steps.Free (freed_word o) found (record v {
    visitor = cond b (record v.visitor { freeing = slice_set v.visitor.freeing o (found, number_noted v o) }) v.visitor;
  })

  rest_kept : KeepsRest w
  rest_kept = subst KeepsRest (sym view) (by_test (ltb found (number_noted v o))) where
    by_test : (b : Bool) → KeepsRest (freed_by b)
    by_test true = (refl, length-set v.visitor.freeing o (found, number_noted v o))
    by_test false = (refl, refl)

  swept_here : has_swept w.log o ≡ true
  swept_here =
      ap (λ (u : PassView P O R). has_swept u.log o) view
      ∙ or_left (eqb (freed_object (freed_word o)) o) (has_swept v.log o) (eq-eqb (freed_object (freed_word o)) o (freed_object_is o))

  swept_there : (q : ℕ) → has_swept v.log q ≡ true → has_swept w.log q ≡ true
  swept_there q is = ap (λ (u : PassView P O R). has_swept u.log q) view ∙ or_right (eqb (freed_object (freed_word o)) q) (has_swept v.log q) is

  -- the mark was not below the number
  pub sweeps_past : number ≤ found → Sweeps procs o 0 v w
  sweeps_past past =
      let test : ltb found number ≡ false = le-ltb found number past in
      record {
        frees =
            subst (λ note. Frees procs o note 0 v.log w.log) (sym noted)
            (record {
              found = found;
              one = λ lt. absurd (omega (arith, lt, past));
              counted = sym (ap (λ b. cond b 1 0) test);
              log =
                  ap (λ (u : PassView P O R). u.log) view
                  ∙ sym (ap (λ b. (cond b (steps_emptying_row o found procs) [] ++ free_step ∷ []) ++ v.log) test);
            });
        spans = rest_kept.1;
        marked = λ some. swept_here;
        kept = swept_there;
        rest = rest_kept.0;
      }

  -- it was, and the row is emptied
  pub sweeps_row : (x : PassView P O R) → found + 1 ≡ number → x ≡ row_emptied_view procs o found w → Sweeps procs o 1 v x
  sweeps_row x one emptied =
      let short : found < number = omega (arith, one) in
      let test : ltb found number ≡ true = lt-ltb found number short in
      let row : List Taken = steps_emptying_row o found procs in
      let same : (q : ℕ) → has_swept x.log q ≡ has_swept w.log q =
      λ q. ap (λ (u : PassView P O R). has_swept u.log q) emptied ∙ swept_emptying o found procs q w.log in
      record {
        frees =
            subst (λ note. Frees procs o note 1 v.log x.log) (sym noted)
            (record {
              found = found;
              one = λ lt. one;
              counted = sym (ap (λ b. cond b 1 0) test);
              log =
                  ap (λ (u : PassView P O R). u.log) emptied
                  ∙ ap (λ (log : List Taken). row ++ log) (ap (λ (u : PassView P O R). u.log) view)
                  ∙ sym (append_assoc row (free_step ∷ []) v.log)
                  ∙ sym (ap (λ b. (cond b (steps_emptying_row o found procs) [] ++ free_step ∷ []) ++ v.log) test);
            });
        spans = ap (λ (u : PassView P O R). length u.visitor.freeing) emptied ∙ rest_kept.1;
        marked = λ some. same o ∙ swept_here;
        kept = λ q is. same q ∙ swept_there q is;
        rest =
            subst
            (λ (u : PassView P O R). u ≡ record v { visitor = record v.visitor { freeing = u.visitor.freeing }; log = u.log; out = u.out })
            (sym emptied)
            (ap (row_emptied_view procs o found) rest_kept.0);
      }
