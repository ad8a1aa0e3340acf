-- Locking, taking, putting, unlocking and skipping keep the answers.
use Rattle.std.proofs.Common.{◌≡◌, ℕ, ◌<◌, Bool, true, false, List, Option, Some, None, get_or, set, refl, inr}
use Rattle.k42_places.proofs.Written.{get_or-set_related}
use Rattle.turn_core.specs.declared.event.TurnEvent.{TurnEvent}
use Rattle.turn_core.specs.declared.event.TurnEvent.TheVariants.{Lock, Take, Draw, Alone, Hand, Put, Unlock, Skip}
use Rattle.turn_core.specs.Events as turn_events
use Rattle.turn_core.specs.Events.{caller_locked, caller_unlocked, caller_skipped}
use Rattle.turn_core.specs.Plain.{Caller, Turns}
use Rattle.turn_core.specs.Sound.{drawn_by}
use Rattle.turn_core.specs.State.{cell_at, caller_at, fresh_caller}
use Rattle.k42_joined.specs.Plain.{Joined}
use Rattle.k42_joined.specs.Answers.{IsKept, AreAnswered}
use Rattle.k42_joined.specs.State.{many_callers, object, swap_of}
use Rattle.k42_joined.proofs.AnswersSteps.{StepsOn, answered_on, found_on, answered_after}
use Rattle.k42_joined.proofs.AnswersQuiet.{under_way_on, drawn_alike}
use Rattle.k42_joined.proofs.AnswersStaged.{same_on}
use Rattle.k42_joined.proofs.AnswersWords.{same_word, alike}

abbrev pub is_touch : {O R : Type 0} → TurnEvent O R → Bool
is_touch (Draw c cells entry) = false
is_touch (Alone c entry) = false
is_touch (Hand c from onto entry) = false
is_touch event = true

same_drawn : {O R : Type 0} (callers : List (Caller O R)) (c d : ℕ) (x : Caller O R) → x.mine ≡ (get_or callers c fresh_caller).mine → drawn_by (set callers c x) d ≡ drawn_by callers d
same_drawn {O} {R} callers c d x same =
    get_or-set_related (λ (y z : Caller O R). z.mine ≡ y.mine) (λ y. refl) callers c d x fresh_caller same

locked_drawn : {O R : Type 0} (t : Turns O R) (c n d : ℕ) (lock : Option ℕ) → drawn_by (turn_events.locked t c n lock).callers d ≡ drawn_by t.callers d
locked_drawn t c n d None = same_drawn t.callers c d (caller_locked n (caller_at t c)) refl
locked_drawn t c n d (Some holder) = refl

touched_drawn : {O R : Type 0} (t : Turns O R) (event : TurnEvent O R) → is_touch event ≡ true → (d : ℕ) → drawn_by (turn_events.effect t event).callers d ≡ drawn_by t.callers d
touched_drawn t (Lock c n) touch d = locked_drawn t c n d (cell_at t n).lock
touched_drawn t (Take c n) touch d = refl
touched_drawn t (Put c n) touch d = refl
touched_drawn t (Unlock c n) touch d = same_drawn t.callers c d (caller_unlocked n (caller_at t c)) refl
touched_drawn t (Skip c stamp) touch d = same_drawn t.callers c d (caller_skipped stamp (caller_at t c)) refl
touched_drawn t event touch d = absurd (cc)

module _ {L O R : Type 0} (s : Joined L O R) (answered : AreAnswered s) (event : TurnEvent O R) (touch : is_touch event ≡ true) where
  abbrev t : Joined L O R
  t = record s { turns = turn_events.effect s.turns event }

  on : StepsOn s t
  on = record {
    callers = refl;
    objects = refl;
    mines = λ d. touched_drawn s.turns event touch d;
    words = λ o. same_on (object s o);
    reached = λ d number e within is answer reached. reached;
    rivals = λ d o number is. inr (under_way_on s t d o number refl is refl refl refl);
  }

  pub touch_answers : AreAnswered t
  touch_answers =
      answered_after s t on answered (λ d within. kept d within)
      (λ d o answer within begun is. found_on s t on d o answer ((answered d within).found o answer begun is))
      (λ d o within named.
      drawn_alike s t d o (alike (swap_of s d)) refl (same_word (object s o)) refl (λ told. answered_on s t on d o told) ((answered d within).drawn o named))
    where
      kept : (d : ℕ) → d < many_callers s → IsKept t d
      kept d within = let old = (answered d within).kept in record { begun = old.begun; there = old.there; found = old.found }
