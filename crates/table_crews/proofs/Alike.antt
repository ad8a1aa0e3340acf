-- What is so of a pass that holds no cell is so of one that is like it.
use Rattle.std.proofs.Common.{◌≡◌, ◌<◌, length, sym, ap, ◌∙◌, subst}
use Rattle.k42_board.specs.Seen.{SysSeen, PassSeen, Keeping}
use Rattle.k42_board.specs.declared.view.PassView.{PassView}
use Rattle.table_crews.specs.Ready.{HoldsNoCell}

-- what is the same of two views of a pass that holds no cell
pub record IsAlike {P O R : Type 0} (v w : PassView P O R) : Type 0 where
  pub proc : w.turn.proc ≡ v.turn.proc
  pub waits : length w.turn.waits ≡ length v.turn.waits
  pub noted : length w.visitor.noted ≡ length v.visitor.noted
  pub freeing : length w.visitor.freeing ≡ length v.visitor.freeing
  pub held : w.taker.held ≡ v.taker.held
  pub notes : w.notes ≡ v.notes
  pub shapes : w.shapes ≡ v.shapes

pub free_alike : {L P O R : Type 0} (sys : SysSeen L) (old new : PassSeen P O R) → HoldsNoCell sys old → new.table ≡ old.table → new.queue ≡ old.queue → new.keep ≡ old.keep → IsAlike old.view new.view
    → HoldsNoCell sys new
free_alike sys old new is table queue keep alike = record {
  ours = record {
    table = table ∙ is.ours.table;
    proc = subst (λ p. p < sys.procs) (sym alike.proc) is.ours.proc;
    waits = alike.waits ∙ is.ours.waits;
    objects = alike.noted ∙ is.ours.objects;
    shapes = alike.shapes ∙ is.ours.shapes;
    spans = alike.freeing ∙ is.ours.spans;
    queue = queue ∙ is.ours.queue;
    keep = ap (λ (k : Keeping). k.what) keep ∙ is.ours.keep;
  };
  held = alike.held ∙ is.held;
  notes = alike.notes ∙ is.notes;
}
