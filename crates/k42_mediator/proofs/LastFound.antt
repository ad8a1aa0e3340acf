-- What the last step of a pass found, as its log tells.
use Rattle.std.proofs.Common.{◌≡◌, ℕ, List, sym, ap, ◌∙◌, subst}
use Rattle.k42_stamp.specs.Layouts.{Layouts}
use Rattle.k42_board.specs.Log.{last_found}
use Rattle.k42_board.specs.Plan.{LayoutWords}
use Rattle.k42_board.specs.Seen.{SysSeen, PassSeen}
use Rattle.k42_board.specs.Stepping.{WordStep, Takes, HasStepped}
use Rattle.k42_board.specs.declared.view.PassView.{PassView}

pub last_takes : {S L P O R : Type 0} (F : Layouts S L P O R) (declared : List L) (step : PassView P O R → WordStep S L P O R) (id : ℕ) (v : PassView P O R) (found : ℕ) (w : PassView P O R)
    → Takes F declared step id v found w → last_found ((step v).after found).log ≡ found → Takes F declared step id v (last_found w.log) w
last_takes {O} {R} F declared step id v found w takes last =
    subst (λ h. Takes F declared step id v h w) (sym (ap (λ (u : PassView _ O R). last_found u.log) takes.knows ∙ last)) takes

pub last_steps : {S L P O R : Type 0} (words : LayoutWords S L P O R) (sys : SysSeen L) (step : PassView P O R → WordStep S L P O R) (old : PassSeen P O R) (found : ℕ) (new : PassSeen P O R)
    → HasStepped words sys step old found new → last_found ((step old.view).after found).log ≡ found
    → HasStepped words sys step old (last_found new.view.log) new
last_steps {O} {R} words sys step old found new steps last =
    subst (λ h. HasStepped words sys step old h new) (sym (ap (λ (u : PassView _ O R). last_found u.log) steps.takes.knows ∙ last)) steps
