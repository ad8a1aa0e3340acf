-- What the answers of swaps need of a step that draws no entry.
use Rattle.std.proofs.Common.{◌≡◌, ℕ, ◌<◌, ◌≤◌, ◌⊎◌, ◌∙◌, List, [], ◌∷◌, ◌++◌, refl, sym, ap, subst, inl, inr, ⊎_elim, arith, length}
use Rattle.std.specs.Prelude.{Some}
use Rattle.k42_limits.specs.declared.TheConstants.{LAST_INCARNATION}
use Rattle.k42_kinds.specs.declared.entry.Answer.{Answer}
use Rattle.k42_kinds.specs.declared.entry.Answer.TheVariants.{Replied, Swapped, Busy, Spent, Gone, Abandoned}
use Rattle.k42_kinds.specs.declared.entry.Entry.{Entry}
use Rattle.phase_core.specs.Consequences.{IsSameRow}
use Rattle.phase_core.specs.Plain.{Object}
use Rattle.phase_core.specs.Stages.{named_by}
use Rattle.k42_stamp.specs.Orders.{In}
use Rattle.k42_joined.specs.Plain.{Joined}
use Rattle.k42_joined.specs.Answers.{HasAnswered, AreTimely, IsTrueOf, IsKept, IsUnderWay, IsSettled, HasRival, IsKnownNumber, IsAnswer, IsFound, HasDrawn, AreAnswered}
use Rattle.k42_joined.specs.Found.{swap_number}
use Rattle.k42_joined.specs.State.{many_callers, many_objects, object, swap_of, mine, kept_of}

-- the word of an object goes on: its numbers do not fall, and nothing comes after the end
pub record WordGoesOn (k l : Object) : Type 0 where
  pub shapes : l.shapes ≡ k.shapes
  pub incarnation : k.incarnation ≤ l.incarnation
  pub number : swap_number k ≤ swap_number l
  pub over : (k.layout ≡ length k.shapes) ⊎ (k.incarnation ≡ LAST_INCARNATION) → IsSameRow k l

pub true_on : {R : Type 0} (k l : Object) (i : ℕ) (answer : Answer R) → WordGoesOn k l → IsTrueOf k i answer → IsTrueOf l i answer
true_on k l i Spent on is =
    let same = on.over (inr is.1) in
    (is.0 ∙ sym same.incarnation, same.incarnation ∙ is.1, λ two. is.2 (sym same.layout ∙ two ∙ ap length on.shapes))
true_on k l i Gone on is = let same = on.over (inl is.1) in (is.0 ∙ sym same.incarnation, same.layout ∙ is.1 ∙ ap length (sym on.shapes))
true_on k l i (Replied reply) on is = tt
true_on k l i (Swapped number) on is = tt
true_on k l i (Busy number) on is = tt
true_on k l i (Abandoned number) on is = tt

-- where the object is over, what is true of its own incarnation stays so
pub true_now : {R : Type 0} (k l : Object) (answer : Answer R) → WordGoesOn k l → IsTrueOf k k.incarnation answer → IsTrueOf l l.incarnation answer
true_now k l Spent on is = let same = on.over (inr is.1) in (refl, same.incarnation ∙ is.1, λ two. is.2 (sym same.layout ∙ two ∙ ap length on.shapes))
true_now k l Gone on is = let same = on.over (inl is.1) in (refl, same.layout ∙ is.1 ∙ ap length (sym on.shapes))
true_now k l (Replied reply) on is = tt
true_now k l (Swapped number) on is = tt
true_now k l (Busy number) on is = tt
true_now k l (Abandoned number) on is = tt

module _ {L O R : Type 0} (s t : Joined L O R) where
  pub record StepsOn : Type 0 where
    pub callers : many_callers t ≡ many_callers s
    pub objects : many_objects t ≡ many_objects s
    pub mines : (d : ℕ) → mine t d ≡ mine s d
    pub words : (o : ℕ) → WordGoesOn (object s o) (object t o)
    pub reached :
        (d number : ℕ) (e : Entry O R) → d < many_callers s → In e (mine s d) → e.answer ≡ Swapped number
        → IsKnownNumber s d e.object number → IsKnownNumber t d e.object number
    pub rivals : (d o number : ℕ) → IsUnderWay s d o number → HasRival t d o number

  module _ (on : StepsOn) where
    pub answered_on : (d o : ℕ) (told : Answer R) → HasAnswered s d o told → HasAnswered t d o told
    answered_on d o told has =
        record { entry = has.entry; drawn = subst (λ (es : List (Entry O R)). In has.entry es) (sym (on.mines d)) has.drawn; object = has.object; answer = has.answer }

    pub rival_on : (d o number : ℕ) → HasRival s d o number → HasRival t d o number
    rival_on d o number rival =
        ⊎_elim {C = HasRival t d o number}
        (λ (is : IsSettled s d o number).
        inl (record {
          rival = is.rival;
          other = is.other;
          entry = is.entry;
          drawn = subst (λ (es : List (Entry O R)). In is.entry es) (sym (on.mines is.rival)) is.drawn;
          object = is.object;
          settles = is.settles;
        }))
        (λ (is : IsUnderWay s d o number). on.rivals d o number is) rival

    answer_on : (d : ℕ) (e : Entry O R) → d < many_callers s → In e (mine s d) → IsAnswer s d e → IsAnswer t d e
    answer_on d e there is old =
        let word = on.words e.object in
        record {
          there = rw on.objects old.there;
          replied = old.replied;
          known = let low = old.known in let rises = word.incarnation in omega (arith, low, rises);
          done = λ number answer. on.reached d number e there is answer (old.done number answer);
          over = true_on (object s e.object) (object t e.object) e.incarnation e.answer word old.over;
          last = λ over f number other within listed same answer.
              old.last over f number other (rw on.callers at within) (subst (λ (es : List (Entry O R)). In other es) (on.mines f) listed) same answer;
          busy = λ number answer. let low = old.busy number answer in let rises = word.number in omega (arith, low, rises);
          abandoned = λ number answer. let low = old.abandoned number answer in let rises = word.number in omega (arith, low, rises);
          rival = λ number answer. rival_on d e.object number (old.rival number answer);
        }

    pub found_on : (d o : ℕ) (answer : Answer R) → IsFound s d o answer → IsFound t d o answer
    found_on d o answer old =
        let word = on.words o in
        record {
          over = true_now (object s o) (object t o) answer word old.over;
          some = old.some;
          busy = λ number is. let low = old.busy number is in let rises = word.number in omega (arith, low, rises);
          rival = λ number is. rival_on d o number (old.rival number is);
          timely = λ number e is busy. subst (λ (es : List (Entry O R)). AreTimely (es ++ e ∷ [])) (sym (on.mines d)) (old.timely number e is busy);
        }

    -- what is kept beside, and what swaps have drawn, is shown by itself
    pub answered_after : AreAnswered s → ((d : ℕ) → d < many_callers s → IsKept t d)
        → ((d o : ℕ) (answer : Answer R) → d < many_callers s → (kept_of t d).begun ≡ Some o → (kept_of t d).found ≡ Some answer → IsFound t d o answer)
        → ((d o : ℕ) → d < many_callers s → named_by (swap_of t d) ≡ Some o → HasDrawn t d o)
        → AreAnswered t
    answered_after answered kept found drawn d within =
        let there : d < many_callers s = rw on.callers at within in
        let old = answered d there in
        record {
          kept = kept d there;
          timely = subst AreTimely (sym (on.mines d)) old.timely;
          each = λ e is. let listed : In e (mine s d) = subst (λ (es : List (Entry O R)). In e es) (on.mines d) is in
              answer_on d e there listed (old.each e listed);
          found = λ o answer begun is. found d o answer there begun is;
          drawn = λ o named. drawn d o there named;
        }
