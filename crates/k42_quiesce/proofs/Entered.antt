-- What a pass knows of the activity that it has begun.
use Rattle.std.proofs.Common.{◌≡◌, ℕ, refl, subst, sym, ap}
use Rattle.std.specs.Option.{unwrap_or}
use Rattle.k42_board.specs.Generating.{EnteredFound, entered_view, MayLeave, CanLeave, active_in}
use Rattle.k42_board.specs.Log.{took, last_found}
use Rattle.k42_board.specs.Plan.{LayoutWords}
use Rattle.k42_board.specs.Seen.{SysSeen, PassSeen}
use Rattle.k42_board.specs.Stepping.{WordStep, HasStepped}
use Rattle.k42_board.specs.Values.{generation_in}
use Rattle.k42_board.specs.declared.view.PassView.{PassView}
use Rattle.k42_board.specs.declared.view.StepName.TheVariants as steps
use Rattle.k42_quiesce.specs.Activities.{HasEntered}

pub has_entered : {P O R : Type 0} (v w : PassView P O R) (word found : ℕ) → w ≡ took steps.Enter word found (entered_view found v) → EnteredFound v found → HasEntered w
has_entered v w word found e is =
    subst HasEntered (sym e) (record { generation = generation_in found; active = refl; out = is.out; later = is.times })

pub may_leave : {P O R : Type 0} (v : PassView P O R) → CanLeave v → MayLeave (active_in v) v
may_leave v can = subst (λ n. MayLeave n v) (sym (ap (λ active. unwrap_or active 0) can.1.active)) can.1

-- the log tells what the step found
pub told_last : {S L P O R : Type 0} {words : LayoutWords S L P O R} {sys : SysSeen L} {step : PassView P O R → WordStep S L P O R} {old new : PassSeen P O R} {found : ℕ}
    → last_found new.view.log ≡ found → HasStepped words sys step old found new → HasStepped words sys step old (last_found new.view.log) new
told_last {words = words} {sys = sys} {step = step} {old = old} {new = new} same is = subst (λ n. HasStepped words sys step old n new) (sym same) is
