-- What a pass has come to know, and the steps that it has taken since.
use Rattle.std.proofs.Common.{◌≡◌, List, sym, ap, ◌∙◌}
use Rattle.k42_board.specs.Log.{ComesTo, Extends, with_log}
use Rattle.k42_board.specs.declared.view.PassView.{PassView}
use Rattle.k42_board.specs.declared.view.Taken.{Taken}
use Rattle.k42_board.proofs.Gained.{extends_as, extends_on}

-- the log of a pass that is told is its own
pub log_now : {P O R : Type 0} (due new : PassView P O R) (log : List Taken) → new ≡ with_log log due → new ≡ with_log new.log due
log_now {O} {R} due new log e = e ∙ ap (λ l. with_log l due) (sym (ap (λ (w : PassView _ O R). w.log) e))

pub comes_by : {P O R : Type 0} (old due new : PassView P O R) (log : List Taken) → new ≡ with_log log due → Extends old.log log → ComesTo old due new
comes_by {O} {R} old due new log e extends = record {
  knows = log_now due new log e;
  log = extends_as (ap (λ (w : PassView _ O R). w.log) e) extends;
}

-- one after the other, where the second does not look at the log
pub comes_on : {P O R : Type 0} (then' : PassView P O R → PassView P O R) (old due mid new : PassView P O R) → ComesTo old due mid → ComesTo mid (then' mid) new
    → ((log : List Taken) (v : PassView P O R) → then' (with_log log v) ≡ with_log log (then' v)) → ComesTo old (then' due) new
comes_on {O} {R} then' old due mid new first second blind = record {
  knows = second.knows ∙ ap (λ (w : PassView _ O R). with_log new.log (then' w)) first.knows ∙ ap (with_log new.log) (blind mid.log due);
  log = extends_on first.log second.log;
}
