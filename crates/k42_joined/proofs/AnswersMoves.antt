-- A swap that moves its object, turns it over, or gives up before its hand keeps the answers.
use Rattle.std.proofs.Common.{◌≡◌, ℕ, ◌+◌, ◌<◌, ◌∙◌, Bool, true, false, not, ◌||◌, cond, eqb, ltb, List, Some, refl, sym, ap, subst, inl, ⊎_elim, arith, length}
use Rattle.std.proofs.lemmas.Bool.{and_parts, not-true, lt-ltb}
use Rattle.std.proofs.lemmas.List.{get_or-set_same, get_or-set_other}
use Rattle.std.proofs.lemmas.Option.{same_Some}
use Rattle.k42_limits.specs.declared.TheConstants.{LAST_INCARNATION}
use Rattle.k42_kinds.specs.declared.entry.Answer.{Answer}
use Rattle.k42_kinds.specs.declared.entry.Answer.TheVariants.{Swapped}
use Rattle.phase_core.specs.Effects.{turned_over, unblocked}
use Rattle.phase_core.specs.Event.{Move, TurnOver, Unblock}
use Rattle.phase_core.specs.Events.{staged}
use Rattle.phase_core.specs.Plain.{Object}
use Rattle.phase_core.specs.Sound as phases
use Rattle.phase_core.specs.Stages.{named_by, object_named, is_idle, is_blocking, is_moved}
use Rattle.phase_core.specs.declared.caller.SwapAt.{SwapAt}
use Rattle.phase_core.specs.declared.caller.SwapAt.TheVariants.{Blocking, Moved, Opening, Reopening}
use Rattle.phase_core.proofs.InSound.{object_known, visitor_known, one_swap, moved_is_ready}
use Rattle.turn_core.specs.Sound as turns
use Rattle.k42_stamp.specs.Laws.{AreLaws}
use Rattle.k42_stamp.specs.Layouts.{Layouts}
use Rattle.k42_joined.specs.Plain.{Kept, Joined}
use Rattle.k42_joined.specs.Answers.{is_refused, is_turned, HasAnswered, IsKept, IsKnownNumber, HasDrawn, AreAnswered}
use Rattle.k42_joined.specs.Event.{AtPhases}
use Rattle.k42_joined.specs.Effects.{effect}
use Rattle.k42_joined.specs.Fitting.{Fitting}
use Rattle.k42_joined.specs.Found.{swap_number}
use Rattle.k42_joined.specs.Locks.{AreLocked}
use Rattle.k42_joined.specs.Possible.{MayAtPhases}
use Rattle.k42_joined.specs.Refusals.{is_given_up}
use Rattle.k42_joined.specs.State.{nothing_kept, many_callers, many_objects, object, incarnation, swap_of, held, kept_of, keep, many_hands, is_handed}
use Rattle.k42_joined.specs.Swapping.{holds_none}
use Rattle.k42_joined.proofs.AnswersOwn.{MovesOn, steps, own_keeps}
use Rattle.k42_joined.proofs.AnswersRows.{done_handed, handed_moved}
use Rattle.k42_joined.proofs.AnswersStaged.{swap_here, object_here, many_objects_same, words_same, moves_same, moves_changed, still_under_way}
use Rattle.k42_joined.proofs.AnswersSteps.{WordGoesOn, answered_on}
use Rattle.k42_joined.proofs.AnswersWords.{IsSameWord, same_number}
use Rattle.k42_joined.proofs.Lends.{from_is_moved}
use Rattle.k42_joined.proofs.LocksPhases.{turned_handed}

from_is_blocking : (swap : SwapAt) → is_blocking swap ≡ true → swap ≡ Blocking (object_named swap)
from_is_blocking (Blocking q) is = refl
from_is_blocking swap is = absurd (cc)

-- a swap that is neither idle nor refused has nothing kept
pub nothing_found : {L O R : Type 0} (s : Joined L O R) (c : ℕ) (swap : SwapAt) (answer : Answer R) → IsKept s c → swap_of s c ≡ swap
    → is_idle swap || is_refused swap ≡ false → (kept_of s c).found ≡ Some answer → ⊥
nothing_found s c swap answer kept at neither found =
    let is : is_idle swap || is_refused swap ≡ true = subst (λ w. is_idle w || is_refused w ≡ true) at (kept.found answer found) in
    absurd (cc)

module _ {S L P O R : Type 0} (F : Layouts S L P O R) (laws : AreLaws F) (declared : List L) (s : Joined L O R)
    (sound : phases.IsSound s.phases) (turns_sound : turns.IsSound s.turns) (locked : AreLocked s) (rows : Fitting F declared s)
    (answered : AreAnswered s) (c : ℕ) (there : c < many_callers s) where
  abbrev q : ℕ
  q = object_named (swap_of s c)

  abbrev k : Object
  k = object s q

  kept_there : (o : ℕ) → named_by (swap_of s c) ≡ Some o → o < many_objects s
  kept_there o named = (answered c there).kept.there o ((answered c there).kept.begun o named)

  -- a row is handed on only while its swapper moves the object
  pub not_handed_yet : (o : ℕ) → named_by (swap_of s c) ≡ Some o → (swap_of s c ≡ Moved o → ⊥) → is_handed s o ≡ true → ⊥
  not_handed_yet o named not handed =
      let inside = kept_there o named in
      let mover = handed_moved F laws declared s turns_sound locked rows answered o inside handed in
      let same = (one_swap s.phases sound o inside).one mover.caller c mover.there there (ap named_by mover.moves) named in
      not (subst (λ d. swap_of s d ≡ Moved o) same mover.moves)

  -- the object is moved

  module _ (at : swap_of s c ≡ Blocking q) where
    blocked_names : named_by (swap_of s c) ≡ Some q
    blocked_names = ap named_by at

    abbrev m : Joined L O R
    m = record s { phases = staged s.phases c q (Moved q) (record k { moving = true }); kept = s.kept }

    m_word : IsSameWord k (record k { moving = true })
    m_word = record { shapes = refl; incarnation = refl; layout = refl; complete = refl }

    m_swap : swap_of m c ≡ Moved q
    m_swap = swap_here s c there q (Moved q) (record k { moving = true }) s.kept

    m_words : (o : ℕ) → IsSameWord (object s o) (object m o)
    m_words = words_same s c there q (Moved q) (record k { moving = true }) s.kept m_word

    m_moves : MovesOn s m c
    m_moves =
        moves_same s c there q (Moved q) (record k { moving = true }) s.kept m_word (λ d other. refl)
        (λ number e is answer ahead moved. let bad : Blocking q ≡ Moved e.object = sym at ∙ moved in absurd (cc))
        (λ d o number other named granted number_is.
        let same : q ≡ o = same_Some q o (sym blocked_names ∙ named) in
        still_under_way s c there q (Moved q) (record k { moving = true }) s.kept d o number other (ap Some same) refl
        (number_is ∙ sym (same_number (object s o) (object m o) (m_words o))))

    pub moved_answers : AreAnswered m
    moved_answers =
        own_keeps s m sound answered c there m_moves
        (record {
          begun = λ o named. (answered c there).kept.begun o (blocked_names ∙ sym (ap named_by m_swap) ∙ named);
          there = λ o begun. rw (many_objects_same s c there q (Moved q) (record k { moving = true }) s.kept) ((answered c there).kept.there o begun);
          found = λ answer is. absurd (nothing_found s c (Blocking q) answer (answered c there).kept at refl is);
        })
        (λ o answer begun is. absurd (nothing_found s c (Blocking q) answer (answered c there).kept at refl is))
        (λ o named.
        let same : q ≡ o = same_Some q o (sym (ap named_by m_swap) ∙ named) in
        record {
          handed = λ moved handed.
              absurd (not_handed_yet o (blocked_names ∙ ap Some same) (λ was. let bad : Blocking q ≡ Moved o = sym at ∙ was in cc)
              (sym (ap (λ i. ltb i (many_hands s o)) (m_words o).incarnation) ∙ handed));
          turned = λ is. let bad : is_turned (Moved q) (object m o) ≡ true = subst (λ w. is_turned w (object m o) ≡ true) m_swap is in absurd (cc);
          given_up = λ is abandons. let bad : is_given_up (Moved q) (object m o) o ≡ true = subst (λ w. is_given_up w (object m o) o ≡ true) m_swap is in absurd (cc);
        })

  pub move_answers : is_blocking (swap_of s c) ≡ true → AreAnswered (effect s (AtPhases (Move c)))
  move_answers may = by_count (eqb k.count 0) where
    by_count : (b : Bool) → AreAnswered (record s { phases = cond b (staged s.phases c q (Moved q) (record k { moving = true })) s.phases })
    by_count true = moved_answers (from_is_blocking (swap_of s c) may)
    by_count false = answered

  -- a moved object is live, and COMPLETE is clear

  module _ (at : swap_of s c ≡ Moved q) where
    moved_names : named_by (swap_of s c) ≡ Some q
    moved_names = ap named_by at

    q_there : q < many_objects s
    q_there = kept_there q moved_names

    not_complete : k.complete ≡ false
    not_complete =
        let is = object_known s.phases sound q q_there in
        let stage : (sound.scene.looks q).stage ≡ Moved q = ((visitor_known s.phases sound c there).swap_alone.owned q moved_names).1 ∙ at in
        (rw stage at is.bits_follow.bits).0.2

    number_before : swap_number k ≡ k.incarnation + 1
    number_before = ap (λ b. cond b k.incarnation (k.incarnation + 1)) not_complete

    -- it is turned over

    module _ (tag : ℕ) (may : MayAtPhases F declared s (TurnOver c tag)) where
      abbrev u : Joined L O R
      u = record s { phases = staged s.phases c q (Opening q 0) (turned_over k tag); kept = s.kept }

      u_swap : swap_of u c ≡ Opening q 0
      u_swap = swap_here s c there q (Opening q 0) (turned_over k tag) s.kept

      u_object : object u q ≡ turned_over k tag
      u_object = object_here s c there q (Opening q 0) (turned_over k tag) s.kept q_there

      u_word : WordGoesOn k (turned_over k tag)
      u_word =
          let ready = moved_is_ready s.phases sound c q there at in
          let alive = ready.alive in
          let more = ready.next in
          let number = number_before in
          record {
            shapes = refl;
            incarnation = omega arith;
            number = omega (arith, number);
            over = λ is. ⊎_elim (λ (two : k.layout ≡ length k.shapes). absurd (omega (arith, two, alive)))
                (λ (last : k.incarnation ≡ LAST_INCARNATION). absurd (omega (arith, last, more))) is;
          }

      u_moves : MovesOn s u c
      u_moves =
          moves_changed s c there q (Opening q 0) (turned_over k tag) s.kept moved_names u_word (λ d other. refl)
          (λ number e is answer ahead moved.
          let same : q ≡ e.object = same_Some q e.object (sym moved_names ∙ ap named_by moved) in
          subst (λ o. IsKnownNumber u c o number) same
          (inl (let rises = ap (λ (l : Object). l.incarnation) u_object in
          let here : number ≡ incarnation s q + 1 = subst (λ o. number ≡ incarnation s o + 1) (sym same) ahead in
          omega (arith, here, rises))))
          (λ d o number other named granted number_is.
          let same : q ≡ o = same_Some q o (sym moved_names ∙ named) in
          still_under_way s c there q (Opening q 0) (turned_over k tag) s.kept d o number other (ap Some same) refl
          (subst (λ r. number ≡ swap_number (object u r)) same
          (subst (λ r. number ≡ swap_number (object s r)) (sym same) number_is ∙ number_before ∙ sym (ap swap_number u_object))))

      turn_over_keeps : AreAnswered u
      turn_over_keeps =
          own_keeps s u sound answered c there u_moves
          (record {
            begun = λ o named. (answered c there).kept.begun o (moved_names ∙ sym (ap named_by u_swap) ∙ named);
            there = λ o begun. rw (many_objects_same s c there q (Opening q 0) (turned_over k tag) s.kept) ((answered c there).kept.there o begun);
            found = λ answer is. absurd (nothing_found s c (Moved q) answer (answered c there).kept at refl is);
          })
          (λ o answer begun is. absurd (nothing_found s c (Moved q) answer (answered c there).kept at refl is))
          (λ o named.
          let same : q ≡ o = same_Some q o (sym (ap named_by u_swap) ∙ named) in
          subst (λ r. HasDrawn u c r) same
          (record {
            handed = λ moved handed. let bad : Opening q 0 ≡ Moved q = sym u_swap ∙ moved in absurd (cc);
            turned = λ is.
                subst (λ i. HasAnswered u c q (Swapped i)) (sym (ap (λ (l : Object). l.incarnation) u_object))
                (answered_on s u (steps s u sound answered c there u_moves) c q (Swapped (incarnation s q + 1))
                (((answered c there).drawn q moved_names).handed at (turned_handed F declared s sound turns_sound locked c tag there may)));
            given_up = λ is abandons. let bad : is_given_up (Opening q 0) (object u q) q ≡ true = subst (λ w. is_given_up w (object u q) q ≡ true) u_swap is in absurd (cc);
          }))

    -- it is given up

    module _ (may : MayAtPhases F declared s (Unblock c)) where
      abbrev kept : List (Kept R)
      kept = keep s c (record (kept_of s c) { abandoned = false })

      abbrev v : Joined L O R
      v = record s { phases = staged s.phases c q (Reopening q 0) (unblocked k); kept = kept }

      v_swap : swap_of v c ≡ Reopening q 0
      v_swap = swap_here s c there q (Reopening q 0) (unblocked k) kept

      v_word : IsSameWord k (unblocked k)
      v_word = record { shapes = refl; incarnation = refl; layout = refl; complete = refl }

      v_words : (o : ℕ) → IsSameWord (object s o) (object v o)
      v_words = words_same s c there q (Reopening q 0) (unblocked k) kept v_word

      v_kept : kept_of v c ≡ record (kept_of s c) { abandoned = false }
      v_kept = get_or-set_same s.kept c (record (kept_of s c) { abandoned = false }) nothing_kept (rw locked.many.kept there)

      not_handed : is_handed s q ≡ false
      not_handed = not-true (is_handed s q) (and_parts (holds_none (held s c)) _ may.beside).1

      v_moves : MovesOn s v c
      v_moves =
          moves_same s c there q (Reopening q 0) (unblocked k) kept v_word
          (λ d other. get_or-set_other s.kept c d (record (kept_of s c) { abandoned = false }) nothing_kept other)
          (λ number e is answer ahead moved.
          let same : q ≡ e.object = same_Some q e.object (sym moved_names ∙ ap named_by moved) in
          let few = done_handed F laws declared s turns_sound locked rows answered c number e there is answer in
          let more = lt-ltb (incarnation s e.object) (many_hands s e.object) (omega (arith, few, ahead)) in
          let none : is_handed s e.object ≡ false = subst (λ r. is_handed s r ≡ false) same not_handed in
          absurd (cc))
          (λ d o number other named granted number_is.
          let same : q ≡ o = same_Some q o (sym moved_names ∙ named) in
          still_under_way s c there q (Reopening q 0) (unblocked k) kept d o number other (ap Some same) refl
          (number_is ∙ sym (same_number (object s o) (object v o) (v_words o))))

      unblock_keeps : AreAnswered v
      unblock_keeps =
          own_keeps s v sound answered c there v_moves
          (record {
            begun = λ o named. ap (λ (x : Kept R). x.begun) v_kept ∙ (answered c there).kept.begun o (moved_names ∙ sym (ap named_by v_swap) ∙ named);
            there = λ o begun.
                rw (many_objects_same s c there q (Reopening q 0) (unblocked k) kept) ((answered c there).kept.there o (sym (ap (λ (x : Kept R). x.begun) v_kept) ∙ begun));
            found = λ answer is. absurd (nothing_found s c (Moved q) answer (answered c there).kept at refl (sym (ap (λ (x : Kept R). x.found) v_kept) ∙ is));
          })
          (λ o answer begun is. absurd (nothing_found s c (Moved q) answer (answered c there).kept at refl (sym (ap (λ (x : Kept R). x.found) v_kept) ∙ is)))
          (λ o named. record {
            handed = λ moved handed. let bad : Reopening q 0 ≡ Moved o = sym v_swap ∙ moved in absurd (cc);
            turned = λ is. let bad : is_turned (Reopening q 0) (object v o) ≡ true = subst (λ w. is_turned w (object v o) ≡ true) v_swap is in absurd (cc);
            given_up = λ is abandons. let bad : false ≡ true = sym (ap (λ (x : Kept R). x.abandoned) v_kept) ∙ abandons in absurd (cc);
          })

  pub turn_over_answers : (tag : ℕ) → MayAtPhases F declared s (TurnOver c tag) → AreAnswered (effect s (AtPhases (TurnOver c tag)))
  turn_over_answers tag may =
      turn_over_keeps (from_is_moved (swap_of s c) (and_parts (is_moved (swap_of s c)) _ may.core).0) tag may

  pub unblock_answers : MayAtPhases F declared s (Unblock c) → AreAnswered (effect s (AtPhases (Unblock c)))
  unblock_answers may = unblock_keeps (from_is_moved (swap_of s c) may.core) may
