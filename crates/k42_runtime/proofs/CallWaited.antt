-- A call that is tried again and again.
use Rattle.std.proofs.Common.{◌≡◌, ℕ, Bool, ◌<◌, [], ◌∷◌, ◌++◌, length, refl, sym, ap, ◌∙◌, subst}
use Rattle.k42_kinds.specs.declared.entry.Act.TheVariants.{Call}
use Rattle.k42_kinds.specs.declared.entry.Answer.TheVariants.{Replied}
use Rattle.k42_kinds.specs.OneThread.{OneThread}
use Rattle.turn_core.specs.Stamps.{last_stamp}
use Rattle.k42_board.specs.Seen.{Own, PassSeen}
use Rattle.k42_board.specs.declared.view.PassView.{PassView}
use Rattle.k42_runtime.specs.Calls.{IsAsked, IsWorn, HasCalled, HasNotCalled}
use Rattle.k42_runtime.specs.Serving.{IsSameSeat}
use Rattle.k42_runtime.specs.Systems.{SystemSeen, IsPlanned, IsPassHere, IsAtWork, KeepsElse}

-- what the plan declares the table does
pub asked_of : {S L O R : Type 0} (object_of : L → OneThread S O R) (is_live : L → Bool) (system : SystemSeen L) → IsPlanned is_live system
    → (object : ℕ) (op : O) → IsAsked object_of system.plan.objects object op → IsAsked object_of system.sys.layouts object op
asked_of object_of is_live system planned object op asked = subst (λ objects. IsAsked object_of objects object op) (sym planned.layouts) asked

-- the pass has drawn nothing yet
pub record IsCalling {L P O R : Type 0} (system : SystemSeen L) (first now : PassSeen P O R) : Type 0 where
  pub here : IsPassHere system now
  pub works : IsAtWork now.view
  pub since : HasNotCalled first.view now.view
  pub seat : IsSameSeat first now
  pub kept : IsWorn first.view → now ≡ first

module _ {P O R : Type 0} where
  pub same_seat : (pass : PassSeen P O R) → IsSameSeat pass pass
  same_seat pass = record { table = refl; seat = refl; keep = refl; room = λ none. refl; row_room = refl; queue = refl }

  pub same_seat_on : (first now new : PassSeen P O R) → IsSameSeat first now → IsSameSeat now new → IsSameSeat first new
  same_seat_on first now new one two = record {
    table = two.table ∙ one.table;
    seat = two.seat ∙ one.seat;
    keep = two.keep ∙ one.keep;
    room = λ none. two.room ((λ i. (one.keep i).what) ∙ none) ∙ one.room none;
    row_room = two.row_room ∙ one.row_room;
    queue = two.queue ∙ one.queue;
  }

  pub keeps_on : (u v w : PassView P O R) → KeepsElse u v → KeepsElse v w → KeepsElse u w
  keeps_on u v w first second =
      second
      ∙ ap (λ (own : Own). record own { place = w.visitor.place; layout = w.layout; drawn = length w.taker.mine; clock = w.taker.clock })
      first

  pub not_called : (v : PassView P O R) → HasNotCalled v v
  not_called v = record { same = refl; clock = refl; keeps = refl }

  pub not_called_on : (u v w : PassView P O R) → HasNotCalled u v → HasNotCalled v w → HasNotCalled u w
  not_called_on u v w first second = record { same = second.same ∙ first.same; clock = second.clock ∙ first.clock; keeps = keeps_on u v w first.keeps second.keeps }

  pub called_on : (u v w : PassView P O R) (object : ℕ) (op : O) (reply : R) → HasNotCalled u v → HasCalled object op reply v w → HasCalled object op reply u w
  called_on u v w object op reply first then = record {
    entry = then.entry;
    drawn = then.drawn ∙ ap (λ mine. mine ++ then.entry ∷ []) first.same;
    later = subst (λ mine. last_stamp mine < then.entry.stamp) first.same then.later;
    clock = then.clock;
    whole =
        then.whole
        ∙ (λ j. record {
          stamp = then.entry.stamp;
          caller = (first.keeps j).number;
          index = length (first.same j);
          object = object;
          incarnation = then.entry.incarnation;
          cell = then.entry.cell;
          act = Call op;
          answer = Replied reply;
          proc = (first.keeps j).turn.proc;
          generation = (first.keeps j).turn.active;
        });
    keeps = keeps_on u v w first.keeps then.keeps;
  }
