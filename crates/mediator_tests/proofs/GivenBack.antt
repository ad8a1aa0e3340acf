-- A pass that has left the lock of its only cell.
use Rattle.std.proofs.Common.{◌≡◌, ℕ, ◌<◌, not, cond, eqb, [], ◌∷◌, length, refl, sym, ap, ◌∙◌, subst}
use Rattle.std.specs.List.{filter}
use Rattle.std.proofs.lemmas.Bool.{eq-eqb}
use Rattle.gen_core.specs.Plain.{Caller}
use Rattle.phase_core.specs.Plain.{Visitor}
use Rattle.k42_board.specs.Log.{took}
use Rattle.k42_board.specs.Seen.{SysSeen, PassSeen, IsPassOf}
use Rattle.k42_board.specs.Taking.{unlocked_view}
use Rattle.k42_board.specs.Words.{lock_word}
use Rattle.k42_board.specs.declared.view.PassView.{PassView}
use Rattle.k42_board.specs.declared.view.StepName.TheVariants as steps
use Rattle.table_crews.specs.Ready.{HoldsNoCell}

-- the pass is where it was, and holds no cell
pub record HasLeft {P O R : Type 0} (v w : PassView P O R) : Type 0 where
  pub turn : w.turn ≡ v.turn
  pub visitor : w.visitor ≡ v.visitor
  pub shapes : w.shapes ≡ v.shapes
  pub held : w.taker.held ≡ []
  pub notes : w.notes ≡ []

pub free_left : {L P O R : Type 0} (sys : SysSeen L) (old new : PassSeen P O R) → IsPassOf sys old → new.table ≡ old.table → new.queue ≡ old.queue → new.keep ≡ old.keep → HasLeft old.view new.view
    → HoldsNoCell sys new
free_left sys old new ours table queue keep left = record {
  ours = record {
    table = table ∙ ours.table;
    proc = subst (λ (turn : Caller). turn.proc < sys.procs) (sym left.turn) ours.proc;
    waits = ap (λ (turn : Caller). length turn.waits) left.turn ∙ ours.waits;
    objects = ap (λ (visitor : Visitor). length visitor.noted) left.visitor ∙ ours.objects;
    shapes = left.shapes ∙ ours.shapes;
    spans = ap (λ (visitor : Visitor). length visitor.freeing) left.visitor ∙ ours.spans;
    queue = queue ∙ ours.queue;
    keep = (λ i. (keep i).what) ∙ ours.keep;
  };
  held = left.held;
  notes = left.notes;
}

pub left_lock : {P O R : Type 0} (n : ℕ) (v y : PassView P O R) → y ≡ took steps.Unlock (lock_word n) 0 (unlocked_view n v) → v.taker.held ≡ n ∷ [] → v.notes ≡ [] → HasLeft v y
left_lock n v y leaves held none = record {
  turn = ap (λ (z : PassView _ _ _). z.turn) leaves;
  visitor = ap (λ (z : PassView _ _ _). z.visitor) leaves;
  shapes = ap (λ (z : PassView _ _ _). z.shapes) leaves;
  held =
      ap (λ (z : PassView _ _ _). z.taker.held) leaves ∙ ap (λ ns. filter (λ m. not (eqb m n)) ns) held
      ∙ ap (λ b. cond (not b) (n ∷ []) []) (eq-eqb n n refl);
  notes = ap (λ (z : PassView _ _ _). z.notes) leaves ∙ none;
}
