-- A swap that opens its object's entries, and one that ends, keep the answers.
use Rattle.std.proofs.Common.{◌≡◌, ℕ, ◌+◌, ◌<◌, ◌≤◌, ◌∙◌, Bool, true, false, not, ◌||◌, cond, eqb, ltb, List, Some, length, refl, sym, ap, subst, inl, arith}
use Rattle.std.proofs.lemmas.Bool.{and_parts, eq-eqb}
use Rattle.std.proofs.lemmas.Option.{same_Some}
use Rattle.k42_kinds.specs.declared.entry.Answer.{Answer}
use Rattle.k42_kinds.specs.declared.entry.Answer.TheVariants.{Swapped, Abandoned}
use Rattle.k42_kinds.specs.Legal.{Settles}
use Rattle.phase_core.specs.Effects.{cleared}
use Rattle.phase_core.specs.Event.{Open, Clear}
use Rattle.phase_core.specs.Events.{staged, opened}
use Rattle.phase_core.specs.Objects.{bits_of, BitsFollow}
use Rattle.phase_core.specs.Plain.{Object}
use Rattle.phase_core.specs.Sound as phases
use Rattle.phase_core.specs.Stages.{named_by, object_named, is_idle, is_ended}
use Rattle.phase_core.specs.State.{empty_entry, put_entry}
use Rattle.phase_core.specs.declared.caller.SwapAt.{SwapAt}
use Rattle.phase_core.specs.declared.caller.SwapAt.TheVariants.{Idle, Refused, Moved, Opening, Reopening, Opened}
use Rattle.phase_core.proofs.InSound.{object_known, visitor_known}
use Rattle.k42_stamp.specs.Layouts.{Layouts}
use Rattle.k42_joined.specs.Plain.{Joined}
use Rattle.k42_joined.specs.Answers.{is_refused, is_turned, HasAnswered, HasDrawn, AreAnswered}
use Rattle.k42_joined.specs.Event.{AtPhases}
use Rattle.k42_joined.specs.Effects.{effect}
use Rattle.k42_joined.specs.Found.{swap_number}
use Rattle.k42_joined.specs.Possible.{MayAtPhases}
use Rattle.k42_joined.specs.Refusals.{is_given_up}
use Rattle.k42_joined.specs.State.{many_callers, many_objects, object, incarnation, swap_of, kept_of}
use Rattle.k42_joined.specs.Swapping.{may_clear}
use Rattle.k42_joined.proofs.AnswersMoves.{nothing_found}
use Rattle.k42_joined.proofs.AnswersOwn.{MovesOn, steps, own_keeps}
use Rattle.k42_joined.proofs.AnswersQuiet.{turned_by, given_up_by}
use Rattle.k42_joined.proofs.AnswersStaged.{swap_here, object_here, many_objects_same, words_same, moves_same, moves_changed, still_under_way}
use Rattle.k42_joined.proofs.AnswersSteps.{WordGoesOn, answered_on, found_on}
use Rattle.k42_joined.proofs.AnswersWords.{IsSameWord, same_number}

module _ {L O R : Type 0} (s : Joined L O R) (sound : phases.IsSound s.phases) (answered : AreAnswered s) (c : ℕ) (there : c < many_callers s) where
  own_there : (q : ℕ) → named_by (swap_of s c) ≡ Some q → q < many_objects s
  own_there q named = (answered c there).kept.there q ((answered c there).kept.begun q named)

  -- the bits of the object that the swap names
  own_bits : (q : ℕ) → named_by (swap_of s c) ≡ Some q → BitsFollow (bits_of (object s q)) (object s q).shapes (object s q).layout (object s q).incarnation (swap_of s c)
  own_bits q named =
      let is = object_known s.phases sound q (own_there q named) in
      let stage = ((visitor_known s.phases sound c there).swap_alone.owned q named).1 in
      subst (λ w. BitsFollow (bits_of (object s q)) (object s q).shapes (object s q).layout (object s q).incarnation w) stage is.bits_follow.bits

  -- an entry is opened, and the swap goes to a stage of the same object

  module _ (q p : ℕ) (before next : SwapAt) (at : swap_of s c ≡ before) (named : named_by before ≡ Some q) (named' : named_by next ≡ Some q)
      (free : is_idle before || is_refused before ≡ false) (granted : is_refused next ≡ false) (unmoved : (o : ℕ) → before ≡ Moved o → ⊥)
      (unmoved' : (o : ℕ) → next ≡ Moved o → ⊥)
      (turned : is_turned next (object s q) ≡ true → is_turned before (object s q) ≡ true)
      (given_up : is_given_up next (object s q) q ≡ true → is_given_up before (object s q) q ≡ true) where
    abbrev k : Object
    k = put_entry (object s q) p (empty_entry (object s q).incarnation)

    abbrev t : Joined L O R
    t = record s { phases = staged s.phases c q next k }

    t_swap : swap_of t c ≡ next
    t_swap = swap_here s c there q next k s.kept

    t_word : IsSameWord (object s q) k
    t_word = record { shapes = refl; incarnation = refl; layout = refl; complete = refl }

    t_words : (o : ℕ) → IsSameWord (object s o) (object t o)
    t_words = words_same s c there q next k s.kept t_word

    names : named_by (swap_of s c) ≡ Some q
    names = ap named_by at ∙ named

    t_object : object t q ≡ k
    t_object = object_here s c there q next k s.kept (own_there q names)

    t_moves : MovesOn s t c
    t_moves =
        moves_same s c there q next k s.kept t_word (λ d other. refl)
        (λ number e is answer ahead moved. absurd (unmoved e.object (sym at ∙ moved)))
        (λ d o number other name granted' number_is.
        still_under_way s c there q next k s.kept d o number other (named' ∙ sym names ∙ name) granted
        (number_is ∙ sym (same_number (object s o) (object t o) (t_words o))))

    pub opened_keeps : AreAnswered t
    opened_keeps =
        own_keeps s t sound answered c there t_moves
        (record {
          begun = λ o name. (answered c there).kept.begun o (names ∙ sym named' ∙ sym (ap named_by t_swap) ∙ name);
          there = λ o begun. rw (many_objects_same s c there q next k s.kept) ((answered c there).kept.there o begun);
          found = λ answer is. absurd (nothing_found s c before answer (answered c there).kept at free is);
        })
        (λ o answer begun is. absurd (nothing_found s c before answer (answered c there).kept at free is))
        (λ o name.
        let same : q ≡ o = same_Some q o (sym named' ∙ sym (ap named_by t_swap) ∙ name) in
        let old = (answered c there).drawn q names in
        let on : (told : Answer R) → HasAnswered s c q told → HasAnswered t c q told = λ told. answered_on s t (steps s t sound answered c there t_moves) c q told in
        let inc = (t_words q).incarnation in
        subst (λ r. HasDrawn t c r) same
        (record {
          handed = λ moved handed. absurd (unmoved' q (sym t_swap ∙ moved));
          turned = λ is.
              let here : is_turned next k ≡ true = subst (λ w. is_turned w k ≡ true) t_swap (subst (λ l. is_turned (swap_of t c) l ≡ true) t_object is) in
              subst (λ i. HasAnswered t c q (Swapped i)) (sym inc)
              (on (Swapped (incarnation s q)) (old.turned (subst (λ w. is_turned w (object s q) ≡ true) (sym at) (turned (turned_by next (object s q) k refl ∙ here)))));
          given_up = λ is abandons.
              let here : is_given_up next k q ≡ true = subst (λ w. is_given_up w k q ≡ true) t_swap (subst (λ l. is_given_up (swap_of t c) l q ≡ true) t_object is) in
              subst (λ i. HasAnswered t c q (Abandoned (i + 1))) (sym inc)
              (on (Abandoned (incarnation s q + 1)) (old.given_up (subst (λ w. is_given_up w (object s q) q ≡ true) (sym at) (given_up (given_up_by next (object s q) k q refl ∙ here))) abandons));
        }))

  open_by : (swap : SwapAt) → swap_of s c ≡ swap → AreAnswered (record s { phases = opened s.phases c swap })
  open_by (Opening q p) at = by_end (ltb (p + 1) (length s.phases.turns.procs)) where
    complete : (object s q).complete ≡ true
    complete = let bits = rw at at (own_bits q (ap named_by at)) in bits.0.2

    by_end : (b : Bool) → AreAnswered (record s { phases = staged s.phases c q (cond b (Opening q (p + 1)) (Opened q)) (put_entry (object s q) p (empty_entry (object s q).incarnation)) })
    by_end true = opened_keeps q p (Opening q p) (Opening q (p + 1)) at refl refl refl refl (λ o is. cc) (λ o is. cc) (λ is. refl) (λ is. absurd (cc))
    by_end false =
        opened_keeps q p (Opening q p) (Opened q) at refl refl refl refl (λ o is. cc) (λ o is. cc) (λ is. refl)
        (λ is.
        let parts = and_parts (eqb q q) (not (object s q).complete) is in
        let bad : not (object s q).complete ≡ true = parts.1 in
        absurd (wrong (object s q).complete complete bad))
      where
        wrong : (b : Bool) → b ≡ true → not b ≡ true → ⊥
        wrong true e f = cc
        wrong false e f = cc
  open_by (Reopening q p) at = by_end (ltb (p + 1) (length s.phases.turns.procs)) where
    clear : (object s q).complete ≡ false
    clear = let bits = rw at at (own_bits q (ap named_by at)) in bits.2

    by_end : (b : Bool) → AreAnswered (record s { phases = staged s.phases c q (cond b (Reopening q (p + 1)) (Opened q)) (put_entry (object s q) p (empty_entry (object s q).incarnation)) })
    by_end true = opened_keeps q p (Reopening q p) (Reopening q (p + 1)) at refl refl refl refl (λ o is. cc) (λ o is. cc) (λ is. absurd (cc)) (λ is. is)
    by_end false =
        opened_keeps q p (Reopening q p) (Opened q) at refl refl refl refl (λ o is. cc) (λ o is. cc)
        (λ is. let bad : false ≡ true = sym clear ∙ is in absurd (cc))
        (λ is. (and_parts (eqb q q) (not (object s q).complete) is).0)
  open_by swap at = answered

  pub open_answers : AreAnswered (effect s (AtPhases (Open c)))
  open_answers = open_by (swap_of s c) refl

  -- the swap ends

  module _ (q : ℕ) (names : named_by (swap_of s c) ≡ Some q) (unmoved : (o : ℕ) → swap_of s c ≡ Moved o → ⊥)
      (settled : is_refused (swap_of s c) ≡ false → (answer : Answer R) × HasAnswered s c q answer × Settles (swap_number (object s q)) answer) where
    abbrev k' : Object
    k' = cleared (object s q)

    abbrev u : Joined L O R
    u = record s { phases = staged s.phases c q Idle k' }

    u_swap : swap_of u c ≡ Idle
    u_swap = swap_here s c there q Idle k' s.kept

    number_rises : (b : Bool) → cond b (object s q).incarnation ((object s q).incarnation + 1) ≤ (object s q).incarnation + 1
    number_rises true = omega arith
    number_rises false = omega arith

    u_word : WordGoesOn (object s q) k'
    u_word = record {
      shapes = refl;
      incarnation = omega arith;
      number = number_rises (object s q).complete;
      over = λ is. record { incarnation = refl; layout = refl };
    }

    u_moves : MovesOn s u c
    u_moves =
        moves_changed s c there q Idle k' s.kept names u_word (λ d other. refl)
        (λ number e is answer ahead moved. absurd (unmoved e.object moved))
        (λ d o number other name granted number_is.
        let same : q ≡ o = same_Some q o (sym names ∙ name) in
        let has = settled granted in
        inl (record {
          rival = c;
          other = other;
          entry = has.1.entry;
          drawn = has.1.drawn;
          object = has.1.object ∙ same;
          settles = subst (λ answer. Settles number answer) (sym has.1.answer)
              (subst (λ n. Settles n has.0) (sym (number_is ∙ ap (λ r. swap_number (object s r)) (sym same))) has.2);
        }))

    pub ended_keeps : AreAnswered u
    ended_keeps =
        own_keeps s u sound answered c there u_moves
        (record {
          begun = λ o name. let bad : named_by Idle ≡ Some o = sym (ap named_by u_swap) ∙ name in absurd (cc);
          there = λ o begun. rw (many_objects_same s c there q Idle k' s.kept) ((answered c there).kept.there o begun);
          found = λ answer is. ap (λ w. is_idle w || is_refused w) u_swap;
        })
        (λ o answer begun is. found_on s u (steps s u sound answered c there u_moves) c o answer ((answered c there).found o answer begun is))
        (λ o name. let bad : named_by Idle ≡ Some o = sym (ap named_by u_swap) ∙ name in absurd (cc))

  clear_by : (swap : SwapAt) → swap_of s c ≡ swap → is_ended swap ≡ true
      → may_clear swap (object s (object_named swap)) (kept_of s c).abandoned ≡ true
      → AreAnswered (record s { phases = staged s.phases c (object_named swap) Idle (cleared (object s (object_named swap))) })
  clear_by (Refused q) at is may =
      ended_keeps q (ap named_by at) (λ o moved. let bad : Refused q ≡ Moved o = sym at ∙ moved in cc)
      (λ granted. let bad : true ≡ false = sym (ap is_refused at) ∙ granted in absurd (cc))
  clear_by (Opened q) at is may =
      ended_keeps q (ap named_by at) (λ o moved. let bad : Opened q ≡ Moved o = sym at ∙ moved in cc)
      (λ granted. by_complete (object s q).complete refl may)
    where
      old : HasDrawn s c q
      old = (answered c there).drawn q (ap named_by at)

      by_complete : (b : Bool) → (object s q).complete ≡ b → b || (kept_of s c).abandoned ≡ true
          → (answer : Answer R) × HasAnswered s c q answer × Settles (swap_number (object s q)) answer
      by_complete true e may = (
        Swapped (incarnation s q),
        old.turned (subst (λ w. is_turned w (object s q) ≡ true) (sym at) e),
        sym (ap (λ b. cond b (object s q).incarnation ((object s q).incarnation + 1)) e),
      )
      by_complete false e may = (
        Abandoned (incarnation s q + 1),
        old.given_up (subst (λ w. is_given_up w (object s q) q ≡ true) (sym at) (rw (eq-eqb q q refl, e) refl)) may,
        sym (ap (λ b. cond b (object s q).incarnation ((object s q).incarnation + 1)) e),
      )
  clear_by swap at is may = absurd (cc)

  pub clear_answers : {S P : Type 0} (F : Layouts S L P O R) (declared : List L) → MayAtPhases F declared s (Clear c) → AreAnswered (effect s (AtPhases (Clear c)))
  clear_answers F declared may = clear_by (swap_of s c) refl may.core may.beside
