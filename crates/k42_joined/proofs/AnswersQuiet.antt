-- An event that changes no stage and no word that answers tell of keeps them.
use Rattle.std.proofs.Common.{◌≡◌, ℕ, ◌+◌, ◌<◌, ◌∙◌, true, false, not, ◌&&◌, ◌||◌, ltb, eqb, List, refl, sym, ap, subst, inl, inr, ⊎_elim, arith}
use Rattle.k42_kinds.specs.declared.entry.Answer.{Answer}
use Rattle.k42_kinds.specs.declared.entry.Answer.TheVariants.{Swapped, Abandoned}
use Rattle.phase_core.specs.Event.{Event, Begin, TurnOver, Unblock, Clear, caller_of}
use Rattle.phase_core.specs.Plain.{Object}
use Rattle.phase_core.specs.Sound as phases
use Rattle.phase_core.specs.Stages.{named_by, is_idle}
use Rattle.phase_core.specs.declared.caller.SwapAt.{SwapAt}
use Rattle.phase_core.specs.declared.caller.SwapAt.TheVariants.{Moved, Opening, Reopening, Opened}
use Rattle.k42_stamp.specs.Layouts.{Layouts}
use Rattle.k42_joined.specs.Plain.{Kept, Joined}
use Rattle.k42_joined.specs.Event.{AtPhases}
use Rattle.k42_joined.specs.Effects.{effect}
use Rattle.k42_joined.specs.Answers.{is_refused, is_turned, HasAnswered, IsKept, IsUnderWay, IsKnownNumber, HasDrawn, AreAnswered}
use Rattle.k42_joined.specs.Found.{swap_number}
use Rattle.k42_joined.specs.Possible.{MayAtPhases}
use Rattle.k42_joined.specs.Refusals.{is_given_up}
use Rattle.std.specs.Prelude.{slice_index_or}
use Rattle.k42_joined.specs.State.{nothing_kept, many_callers, many_objects, object, incarnation, swap_of, kept_of, many_hands}
use Rattle.k42_joined.specs.Swapping.{kept_after_phases}
use Rattle.k42_joined.proofs.AnswersSteps.{StepsOn, answered_on, found_on, answered_after}
use Rattle.k42_joined.proofs.AnswersWords.{IsSameWord, same_number, word_on, is_quiet, changes_word, word_stays, IsAlike, quiet_alike}
use Rattle.k42_joined.proofs.PhaseSteps.{only_its_caller}

-- stages are read of COMPLETE alone
pub turned_by : (swap : SwapAt) (k l : Object) → l.complete ≡ k.complete → is_turned swap k ≡ is_turned swap l
turned_by (Opening q p) k l same = refl
turned_by (Opened q) k l same = sym same
turned_by swap k l same = refl

pub given_up_by : (swap : SwapAt) (k l : Object) (o : ℕ) → l.complete ≡ k.complete → is_given_up swap k o ≡ is_given_up swap l o
given_up_by (Reopening q p) k l o same = refl
given_up_by (Opened q) k l o same = ap (λ b. (eqb q o) && not b) (sym same)
given_up_by swap k l o same = refl

-- what a swap under way goes on as
pub under_way_on : {L O R : Type 0} (s t : Joined L O R) (d o number : ℕ) → many_callers t ≡ many_callers s
    → (is : IsUnderWay s d o number) → named_by (swap_of t is.rival) ≡ named_by (swap_of s is.rival)
    → is_refused (swap_of t is.rival) ≡ is_refused (swap_of s is.rival) → swap_number (object t o) ≡ swap_number (object s o)
    → IsUnderWay t d o number
under_way_on s t d o number callers is named refused same = record {
  rival = is.rival;
  other = is.other;
  there = rw callers is.there;
  named = named ∙ is.named;
  granted = refused ∙ is.granted;
  number = is.number ∙ sym same;
}

-- a number that was reached stays so, where the incarnation and the stage stay
pub reached_on : {L O R : Type 0} (s t : Joined L O R) (d o number : ℕ) → incarnation t o ≡ incarnation s o
    → (swap_of s d ≡ Moved o → swap_of t d ≡ Moved o) → IsKnownNumber s d o number → IsKnownNumber t d o number
reached_on s t d o number same moved is =
    ⊎_elim {C = IsKnownNumber t d o number} (λ low. inl (omega (arith, low, same)))
    (λ (ahead : (number ≡ incarnation s o + 1) × (swap_of s d ≡ Moved o)).
    let next = ahead.0 in inr (omega (arith, next, same), moved ahead.1)) is

-- what a swap has drawn stays, where its stage, what is kept of it and the word of its object stay
pub drawn_alike : {L O R : Type 0} (s t : Joined L O R) (d o : ℕ) → IsAlike (swap_of s d) (swap_of t d) → kept_of t d ≡ kept_of s d
    → IsSameWord (object s o) (object t o) → many_hands t o ≡ many_hands s o → ((told : Answer R) → HasAnswered s d o told → HasAnswered t d o told)
    → HasDrawn s d o → HasDrawn t d o
drawn_alike {R} s t d o same kept word hands on old = record {
  handed = λ moved is.
      subst (λ i. HasAnswered t d o (Swapped (i + 1))) (sym word.incarnation)
      (on (Swapped (incarnation s o + 1)) (old.handed (same.was_moved o moved)
      (sym (ap (λ i. ltb i (many_hands t o)) word.incarnation ∙ ap (λ n. ltb (incarnation s o) n) hands) ∙ is)));
  turned = λ is.
      subst (λ i. HasAnswered t d o (Swapped i)) (sym word.incarnation)
      (on (Swapped (incarnation s o)) (old.turned (sym (same.turned (object s o)) ∙ turned_by (swap_of t d) (object s o) (object t o) word.complete ∙ is)));
  given_up = λ is abandons.
      subst (λ i. HasAnswered t d o (Abandoned (i + 1))) (sym word.incarnation)
      (on (Abandoned (incarnation s o + 1)) (old.given_up (sym (same.given_up (object s o) o) ∙ given_up_by (swap_of t d) (object s o) (object t o) o word.complete ∙ is)
      (sym (ap (λ (k : Kept R). k.abandoned) kept) ∙ abandons)));
}

module _ {L O R : Type 0} (s t : Joined L O R) (d : ℕ) (same : IsAlike (swap_of s d) (swap_of t d)) (words : (o : ℕ) → IsSameWord (object s o) (object t o))
    (kept : kept_of t d ≡ kept_of s d) (objects : many_objects t ≡ many_objects s) where
  pub kept_on : IsKept s d → IsKept t d
  kept_on old = record {
    begun = λ o named. ap (λ (k : Kept R). k.begun) kept ∙ old.begun o (sym same.named ∙ named);
    there = λ o begun. rw objects (old.there o (sym (ap (λ (k : Kept R). k.begun) kept) ∙ begun));
    found = λ answer is.
        ap (λ b. b || is_refused (swap_of t d)) same.idle ∙ ap (λ b. is_idle (swap_of s d) || b) same.refused
        ∙ old.found answer (sym (ap (λ (k : Kept R). k.found) kept) ∙ is);
  }

-- a quiet event keeps what is kept beside
kept_still : {L O R : Type 0} (s : Joined L O R) (event : Event) → is_quiet event ≡ true → kept_after_phases s event ≡ s.kept
kept_still s (Begin c o) quiet = absurd (cc)
kept_still s (Unblock c) quiet = absurd (cc)
kept_still s event quiet = refl

no_change : (event : Event) → is_quiet event ≡ true → changes_word event ≡ false
no_change (TurnOver c layout) quiet = absurd (cc)
no_change (Clear c) quiet = absurd (cc)
no_change event quiet = refl

module _ {S L P O R : Type 0} (F : Layouts S L P O R) (declared : List L) (s : Joined L O R) (sound : phases.IsSound s.phases) (answered : AreAnswered s)
    (event : Event) (there : caller_of event < many_callers s) (may : MayAtPhases F declared s event) (quiet : is_quiet event ≡ true) where
  abbrev t : Joined L O R
  t = effect s (AtPhases event)

  same : (d : ℕ) → IsAlike (swap_of s d) (swap_of t d)
  same d = quiet_alike s.phases event quiet may.core d

  words : (o : ℕ) → IsSameWord (object s o) (object t o)
  words o = word_stays s.phases event (no_change event quiet) o

  on : StepsOn s t
  on =
      let only = only_its_caller s.phases event sound there in
      record {
        callers = only.many_callers;
        objects = only.many_objects;
        mines = λ d. refl;
        words = λ o. word_on (object s o) (object t o) (words o);
        reached = λ d number e within is answer. reached_on s t d e.object number (words e.object).incarnation ((same d).moved e.object);
        rivals = λ d o number is.
            inr (under_way_on s t d o number only.many_callers is (same is.rival).named (same is.rival).refused (same_number (object s o) (object t o) (words o)));
      }

  kept_same : (d : ℕ) → kept_of t d ≡ kept_of s d
  kept_same d = ap (λ kept. slice_index_or kept d nothing_kept) (kept_still s event quiet)

  pub quiet_keeps : AreAnswered t
  quiet_keeps =
      answered_after s t on answered
      (λ d within. kept_on s t d (same d) words (kept_same d) on.objects (answered d within).kept)
      (λ d o answer within begun is.
      found_on s t on d o answer
      ((answered d within).found o answer (sym (ap (λ (k : Kept R). k.begun) (kept_same d)) ∙ begun) (sym (ap (λ (k : Kept R). k.found) (kept_same d)) ∙ is)))
      (λ d o within named.
      drawn_alike s t d o (same d) (kept_same d) (words o) refl (λ told. answered_on s t on d o told)
      ((answered d within).drawn o (sym (same d).named ∙ named)))
