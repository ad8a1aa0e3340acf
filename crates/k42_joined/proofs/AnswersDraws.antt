-- Each entry that is drawn keeps the answers.
use Rattle.std.proofs.Common.{◌≡◌, ◌≢◌, ℕ, ◌+◌, ◌<◌, ◌≤◌, ◌∙◌, Bool, true, false, not, cond, eqb, ltb, List, [], ◌∷◌, ◌++◌, Some, length, get_or, set, refl, sym, ap, subst, inr, ⊎_elim, arith}
use Rattle.std.proofs.lemmas.Bool.{and_parts, not-true, eqb-true, cases_eq}
use Rattle.std.proofs.lemmas.List.{get_or-set_same, get_or-set_other}
use Rattle.std.proofs.lemmas.Option.{same_Some}
use Rattle.k42_limits.specs.declared.TheConstants.{LAST_INCARNATION}
use Rattle.k42_kinds.specs.Histories.{is_call}
use Rattle.k42_kinds.specs.Legal.{IsOwn, IsNotPast, number_carried_out}
use Rattle.k42_kinds.specs.declared.entry.Act.TheVariants.{Call}
use Rattle.k42_kinds.specs.declared.entry.Answer.{Answer}
use Rattle.k42_kinds.specs.declared.entry.Answer.TheVariants.{Replied, Swapped, Busy, Spent, Gone, Abandoned}
use Rattle.k42_kinds.specs.declared.entry.Entry.{Entry}
use Rattle.phase_core.specs.Objects.{bits_of, BitsFollow}
use Rattle.phase_core.specs.Plain.{Object}
use Rattle.phase_core.specs.Sound as phases
use Rattle.phase_core.specs.Stages.{named_by}
use Rattle.phase_core.specs.declared.caller.SwapAt.{SwapAt}
use Rattle.phase_core.specs.declared.caller.SwapAt.TheVariants.{Moved, Reopening, Opened}
use Rattle.phase_core.proofs.InSound.{object_known, visitor_known, one_swap, moved_is_ready}
use Rattle.turn_core.specs.Events.{cell_told, cell_begun, cell_closed, caller_drawn}
use Rattle.turn_core.specs.Plain.{Caller, Turns}
use Rattle.turn_core.specs.Sound.{drawn_by}
use Rattle.turn_core.specs.State.{fresh_caller, change_caller, change_cells}
use Rattle.turn_core.specs.declared.event.TurnEvent.TheVariants.{Draw, Alone, Hand}
use Rattle.turn_core.specs.Events as turn_events
use Rattle.turn_core.proofs.Changed.{callers-change_cells}
use Rattle.k42_stamp.specs.Orders.{In}
use Rattle.k42_stamp.proofs.Elements.{in-append}
use Rattle.k42_joined.specs.Plain.{Joined}
use Rattle.k42_joined.specs.Answers.{HasAnswered, AreTimely, IsTrueOf, HasRival, IsAnswer, IsFound, AreAnswered}
use Rattle.k42_joined.specs.Effects.{kept_drawn, hands_with}
use Rattle.k42_joined.specs.Found.{swap_number, tells_over}
use Rattle.k42_joined.specs.Locks.{AreLocked}
use Rattle.k42_joined.specs.Refusals.{is_given_up, IsRefused, IsAbandoned, IsAnsweredAlone, MayDrawAlone, tells_abandoned}
use Rattle.k42_joined.specs.State.{many_callers, many_objects, object, incarnation, swap_of, mine, kept_of, is_handed}
use Rattle.k42_joined.proofs.AnswersDrawn.{still_answered, newly_answered, rival_own, drawn_answered}
use Rattle.k42_joined.proofs.Timely.{IsLaterFor, IsTimelyLast, timely_push}

-- the callers after one of them drew an entry

pub own_drawn : {O R : Type 0} (callers : List (Caller O R)) (c : ℕ) (e : Entry O R) → c < length callers
    → drawn_by (set callers c (caller_drawn e (get_or callers c fresh_caller))) c ≡ drawn_by callers c ++ e ∷ []
own_drawn {O} {R} callers c e there = ap (λ (x : Caller O R). x.mine) (get_or-set_same callers c _ fresh_caller there)

pub else_drawn : {O R : Type 0} (callers : List (Caller O R)) (c d : ℕ) (e : Entry O R) → d ≢ c
    → drawn_by (set callers c (caller_drawn e (get_or callers c fresh_caller))) d ≡ drawn_by callers d
else_drawn {O} {R} callers c d e other = ap (λ (x : Caller O R). x.mine) (get_or-set_other callers c d _ fresh_caller other)

number_most : (k : Object) → swap_number k ≤ k.incarnation + 1
number_most k = by_complete k.complete where
  by_complete : (b : Bool) → cond b k.incarnation (k.incarnation + 1) ≤ k.incarnation + 1
  by_complete true = omega arith
  by_complete false = omega arith

module _ {L O R : Type 0} (s : Joined L O R) (locked : AreLocked s) (answered : AreAnswered s) (c : ℕ) (there : c < many_callers s) (e : Entry O R) where
  each : (f : Entry O R) → In f (mine s c) → IsAnswer s c f
  each f is = (answered c there).each f is

  callers_there : c < length s.turns.callers
  callers_there = rw locked.many.callers there

  -- an entry of the present incarnation comes late enough for the refusals before it
  late_now : e.incarnation ≡ incarnation s e.object → IsLaterFor (mine s c) e
  late_now now = record {
    busy = λ f m is said own. late f m own ((each f is).busy m said);
    abandoned = λ f m is said own. late f m own ((each f is).abandoned m said);
  } where
    late : (f : Entry O R) (m : ℕ) → IsOwn f e → m ≤ swap_number (object s f.object) → m ≤ e.incarnation + 1
    late f m own le =
        let le' : m ≤ swap_number (object s e.object) = subst (λ o. m ≤ swap_number (object s o)) (sym own.object) le in
        let most = number_most (object s e.object) in
        let same = now in
        omega (arith, le', most, same)

  timely_now : e.incarnation ≡ incarnation s e.object → ((n : ℕ) → e.answer ≡ Busy n → ⊥) → ((n : ℕ) → e.answer ≡ Abandoned n → ⊥)
      → AreTimely (mine s c ++ e ∷ [])
  timely_now now no_busy no_abandoned =
      timely_push (mine s c) e (answered c there).timely (late_now now) (λ n is. absurd (no_busy n is)) (λ n is. absurd (no_abandoned n is))

  -- an entry that hands no row on
  module _ (abandons : Bool) (t : Turns O R) (own : drawn_by t.callers c ≡ mine s c ++ e ∷ []) (mines : (d : ℕ) → d ≢ c → drawn_by t.callers d ≡ mine s d)
      (not_done : (n : ℕ) → e.answer ≡ Swapped n → ⊥)
      (given_up : (o : ℕ) → named_by (swap_of s c) ≡ Some o → is_given_up (swap_of s c) (object s o) o ≡ true → abandons ≡ true
      → HasAnswered (record s { turns = t; kept = kept_drawn s c abandons }) c o (Abandoned (incarnation s o + 1)))
      (timely : AreTimely (mine s c ++ e ∷ []))
      (new : IsAnswer (record s { turns = t; kept = kept_drawn s c abandons }) c e) where
    entry_keeps : AreAnswered (record s { turns = t; kept = kept_drawn s c abandons })
    entry_keeps = drawn_answered s c e abandons t s.hands locked answered (record {
      there = there;
      own = own;
      mines = mines;
      handed = λ d o within moved is.
          still_answered s c e abandons t s.hands own mines d o (Swapped (incarnation s o + 1))
          (((answered d within).drawn o (ap named_by moved)).handed moved is);
      given_up = given_up;
      timely = timely;
      not_over = λ f n is same over true_is. not_done n is;
      new = new;
    })

  -- a call

  pub call_answers : (cells : List ℕ) (op : O) (reply : R) → e.act ≡ Call op → e.answer ≡ Replied reply → e.object < many_objects s
      → e.incarnation ≡ incarnation s e.object
      → AreAnswered (record s { turns = turn_events.effect s.turns (Draw c cells e); kept = kept_drawn s c false })
  call_answers cells op reply act answer named now =
      entry_keeps false t own mines (λ n is. replied_not_swapped n (sym answer ∙ is)) (λ o name is bad. absurd (cc))
      (timely_now now (λ n is. replied_not_busy n (sym answer ∙ is)) (λ n is. replied_not_abandoned n (sym answer ∙ is)))
      (record {
        there = named;
        replied = λ is. (reply, answer);
        known = let same = now in omega (arith, same);
        done = λ n is. absurd (replied_not_swapped n (sym answer ∙ is));
        over = subst (λ a. IsTrueOf (object s e.object) e.incarnation a) (sym answer) tt;
        last = λ over d n other within listed same is. let bad : tells_over {R = R} (Replied reply) ≡ true = subst (λ a. tells_over a ≡ true) answer over in absurd (cc);
        busy = λ n is. absurd (replied_not_busy n (sym answer ∙ is));
        abandoned = λ n is. absurd (replied_not_abandoned n (sym answer ∙ is));
        rival = λ n is. absurd (replied_not_busy n (sym answer ∙ is));
      })
    where
      replied_not_swapped : (n : ℕ) → Replied reply ≡ Swapped n → ⊥
      replied_not_swapped n is = cc

      replied_not_busy : (n : ℕ) → Replied reply ≡ Busy n → ⊥
      replied_not_busy n is = cc

      replied_not_abandoned : (n : ℕ) → Replied reply ≡ Abandoned n → ⊥
      replied_not_abandoned n is = cc

      drawing : Turns O R
      drawing = change_caller (caller_drawn e) s.turns c

      t : Turns O R
      t = turn_events.effect s.turns (Draw c cells e)

      own : drawn_by t.callers c ≡ mine s c ++ e ∷ []
      own = ap (λ callers. drawn_by callers c) (callers-change_cells (cell_told e) drawing cells) ∙ own_drawn s.turns.callers c e callers_there

      mines : (d : ℕ) → d ≢ c → drawn_by t.callers d ≡ mine s d
      mines d other = ap (λ callers. drawn_by callers d) (callers-change_cells (cell_told e) drawing cells) ∙ else_drawn s.turns.callers c d e other

  -- a mark

  over_not_swapped : (answer : Answer R) (n : ℕ) → tells_over answer ≡ true → answer ≡ Swapped n → ⊥
  over_not_swapped answer n over is = let bad : tells_over {R = R} (Swapped n) ≡ true = subst (λ a. tells_over a ≡ true) is over in cc

  over_not_busy : (answer : Answer R) (n : ℕ) → tells_over answer ≡ true → answer ≡ Busy n → ⊥
  over_not_busy answer n over is = let bad : tells_over {R = R} (Busy n) ≡ true = subst (λ a. tells_over a ≡ true) is over in cc

  over_not_abandoned : (answer : Answer R) (n : ℕ) → tells_over answer ≡ true → answer ≡ Abandoned n → ⊥
  over_not_abandoned answer n over is = let bad : tells_over {R = R} (Abandoned n) ≡ true = subst (λ a. tells_over a ≡ true) is over in cc

  pub mark_answers : (cells : List ℕ) → is_call e.act ≡ false → tells_over e.answer ≡ true → (kept_of s c).begun ≡ Some e.object
      → (kept_of s c).found ≡ Some e.answer → e.incarnation ≡ incarnation s e.object
      → ((d n : ℕ) (other : Entry O R) → d < many_callers s → In other (mine s d) → other.object ≡ e.object → other.answer ≡ Swapped n → other.stamp < e.stamp)
      → AreAnswered (record s { turns = turn_events.effect s.turns (Draw c cells e); kept = kept_drawn s c false })
  mark_answers cells no_call over begun found now last =
      entry_keeps false t own mines (λ n is. over_not_swapped e.answer n over is) (λ o name is bad. absurd (cc))
      (timely_now now (λ n is. over_not_busy e.answer n over is) (λ n is. over_not_abandoned e.answer n over is))
      (record {
        there = (answered c there).kept.there e.object begun;
        replied = λ is. let bad : false ≡ true = sym no_call ∙ is in absurd (cc);
        known = let same = now in omega (arith, same);
        done = λ n is. absurd (over_not_swapped e.answer n over is);
        over = subst (λ i. IsTrueOf (object s e.object) i e.answer) (sym now) ((answered c there).found e.object e.answer begun found).over;
        last = λ is_over d n other within listed same is. ⊎_elim
            (λ (here : d ≡ c). by_own n other same is (subst (λ (es : List (Entry O R)). In other es) own (subst (λ g. In other (drawn_by t.callers g)) here listed)))
            (λ (else : d ≢ c). last d n other within (subst (λ (es : List (Entry O R)). In other es) (mines d else) listed) same is)
            (cases_eq d c);
        busy = λ n is. absurd (over_not_busy e.answer n over is);
        abandoned = λ n is. absurd (over_not_abandoned e.answer n over is);
        rival = λ n is. absurd (over_not_busy e.answer n over is);
      })
    where
      drawing : Turns O R
      drawing = change_caller (caller_drawn e) s.turns c

      t : Turns O R
      t = turn_events.effect s.turns (Draw c cells e)

      own : drawn_by t.callers c ≡ mine s c ++ e ∷ []
      own = ap (λ callers. drawn_by callers c) (callers-change_cells (cell_told e) drawing cells) ∙ own_drawn s.turns.callers c e callers_there

      mines : (d : ℕ) → d ≢ c → drawn_by t.callers d ≡ mine s d
      mines d other = ap (λ callers. drawn_by callers d) (callers-change_cells (cell_told e) drawing cells) ∙ else_drawn s.turns.callers c d e other

      by_own : (n : ℕ) (other : Entry O R) → other.object ≡ e.object → other.answer ≡ Swapped n → In other (mine s c ++ e ∷ []) → other.stamp < e.stamp
      by_own n other same is listed =
          ⊎_elim (λ old. last c n other there old same is)
          (λ new. ⊎_elim (λ (same_e : other ≡ e). absurd (over_not_swapped e.answer n over (sym (ap (λ (x : Entry O R). x.answer) same_e) ∙ is))) (λ none. absurd none) new)
          (in-append other (mine s c) (e ∷ []) listed)

  -- a refusal, and a swap that is given up

  alone_own : (e' : Entry O R) → drawn_by (turn_events.effect s.turns (Alone c e')).callers c ≡ mine s c ++ e' ∷ []
  alone_own e' = own_drawn s.turns.callers c e' callers_there

  module _ (no_call : is_call e.act ≡ false) (begun : (kept_of s c).begun ≡ Some e.object) where
    busy_answers : (number : ℕ) → e.caller ≡ c → e.answer ≡ Busy number → IsRefused s c e number
        → AreAnswered (record s { turns = turn_events.effect s.turns (Alone c e); kept = kept_drawn s c false })
    busy_answers number caller answer refused =
        entry_keeps false (turn_events.effect s.turns (Alone c e)) (alone_own e) (λ d other. else_drawn s.turns.callers c d e other)
        (λ n is. let bad : Busy number ≡ Swapped n = sym answer ∙ is in cc) (λ o name is bad. absurd (cc))
        (found.timely number e refl (record { caller = caller; object = refl; incarnation = refused.before; answer = answer }))
        (record {
          there = (answered c there).kept.there e.object begun;
          replied = λ is. let bad : false ≡ true = sym no_call ∙ is in absurd (cc);
          known = let low = found.busy number refl in let most = number_most (object s e.object) in let before = refused.before in omega (arith, low, most, before);
          done = λ n is. let bad : Busy number ≡ Swapped n = sym answer ∙ is in absurd (cc);
          over = subst (λ a. IsTrueOf (object s e.object) e.incarnation a) (sym answer) tt;
          last = λ over d n other within listed same is. let bad : tells_over {R = R} (Busy number) ≡ true = subst (λ a. tells_over a ≡ true) answer over in absurd (cc);
          busy = λ n is. let same : number ≡ n = busy_same (sym answer ∙ is) in subst (λ m. m ≤ swap_number (object s e.object)) same (found.busy number refl);
          abandoned = λ n is. let bad : Busy number ≡ Abandoned n = sym answer ∙ is in absurd (cc);
          rival = λ n is. let same : number ≡ n = busy_same (sym answer ∙ is) in
              subst (HasRival (record s { turns = turn_events.effect s.turns (Alone c e); kept = kept_drawn s c false }) c e.object) same (rival_on (found.rival number refl));
        })
      where
        busy_same : {m n : ℕ} → ◌≡◌ {A = Answer R} (Busy m) (Busy n) → m ≡ n
        busy_same same = cc

        found : IsFound s c e.object (Busy number)
        found = (answered c there).found e.object (Busy number) begun refused.found

        rival_on : HasRival s c e.object number → HasRival (record s { turns = turn_events.effect s.turns (Alone c e); kept = kept_drawn s c false }) c e.object number
        rival_on rival =
            rival_own s c e false (turn_events.effect s.turns (Alone c e)) s.hands (alone_own e) (λ d other. else_drawn s.turns.callers c d e other) c e.object number rival

    -- COMPLETE is clear where the swap is given up
    given_clear : (sound : phases.IsSound s.phases) → is_given_up (swap_of s c) (object s e.object) e.object ≡ true → (object s e.object).complete ≡ false
    given_clear sound is = by_swap (swap_of s c) refl is where
      bits : (q : ℕ) → named_by (swap_of s c) ≡ Some q → BitsFollow (bits_of (object s q)) (object s q).shapes (object s q).layout (object s q).incarnation (swap_of s c)
      bits q named =
          let stage = ((visitor_known s.phases sound c there).swap_alone.owned q named).1 in
          subst (λ w. BitsFollow (bits_of (object s q)) (object s q).shapes (object s q).layout (object s q).incarnation w) stage
          (object_known s.phases sound q ((answered c there).kept.there q ((answered c there).kept.begun q named))).bits_follow.bits

      by_swap : (swap : SwapAt) → swap_of s c ≡ swap → is_given_up swap (object s e.object) e.object ≡ true → (object s e.object).complete ≡ false
      by_swap (Reopening q p) at given =
          let same : q ≡ e.object = eqb-true q e.object given in
          let clear = rw at at (bits q (ap named_by at)) in
          subst (λ o. (object s o).complete ≡ false) same clear.2
      by_swap (Opened q) at given = not-true (object s e.object).complete (and_parts (eqb q e.object) (not (object s e.object).complete) given).1
      by_swap swap at given = absurd (cc)

    abandoned_answers : (number : ℕ) → phases.IsSound s.phases → e.answer ≡ Abandoned number → IsAbandoned s c e number
        → AreAnswered (record s { turns = turn_events.effect s.turns (Alone c e); kept = kept_drawn s c true })
    abandoned_answers number sound answer is_abandoned =
        entry_keeps true t (alone_own e) (λ d other. else_drawn s.turns.callers c d e other)
        (λ n is. let bad : Abandoned number ≡ Swapped n = sym answer ∙ is in cc)
        (λ o name is some.
        let same : e.object ≡ o = same_Some e.object o (sym begun ∙ (answered c there).kept.begun o name) in
        let new = newly_answered s c e true t s.hands (alone_own e) in
        let told : e.answer ≡ Abandoned (incarnation s e.object + 1) = answer ∙ ap Abandoned is_abandoned.next in
        subst (λ r. HasAnswered (record s { turns = t; kept = kept_drawn s c true }) c r (Abandoned (incarnation s r + 1))) same
        (subst (λ a. HasAnswered (record s { turns = t; kept = kept_drawn s c true }) c e.object a) told new))
        (timely_push (mine s c) e (answered c there).timely (late_now is_abandoned.present)
        (λ n is. let bad : Abandoned number ≡ Busy n = sym answer ∙ is in absurd (cc))
        (λ n is. let same : number ≡ n = abandoned_same (sym answer ∙ is) in
        subst (IsTimelyLast (mine s c) e) same
        (record {
          incarnation = let next = is_abandoned.next in let present = is_abandoned.present in omega (arith, next, present);
          earlier = λ f listed own. not_past f listed own;
        })))
        (record {
          there = (answered c there).kept.there e.object begun;
          replied = λ is. let bad : false ≡ true = sym no_call ∙ is in absurd (cc);
          known = let present = is_abandoned.present in omega (arith, present);
          done = λ n is. let bad : Abandoned number ≡ Swapped n = sym answer ∙ is in absurd (cc);
          over = subst (λ a. IsTrueOf (object s e.object) e.incarnation a) (sym answer) tt;
          last = λ over d n other within listed same is. let bad : tells_over {R = R} (Abandoned number) ≡ true = subst (λ a. tells_over a ≡ true) answer over in absurd (cc);
          busy = λ n is. let bad : Abandoned number ≡ Busy n = sym answer ∙ is in absurd (cc);
          abandoned = λ n is.
              let same : number ≡ n = abandoned_same (sym answer ∙ is) in
              let clear = ap (λ b. cond b (incarnation s e.object) (incarnation s e.object + 1)) (given_clear sound is_abandoned.given_up) in
              let next = is_abandoned.next in
              omega (arith, same, clear, next);
          rival = λ n is. let bad : Abandoned number ≡ Busy n = sym answer ∙ is in absurd (cc);
        })
      where
        t : Turns O R
        t = turn_events.effect s.turns (Alone c e)

        abandoned_same : {m n : ℕ} → ◌≡◌ {A = Answer R} (Abandoned m) (Abandoned n) → m ≡ n
        abandoned_same same = cc

        carried : (a : Answer R) → ((j : ℕ) → a ≡ Swapped j → j ≤ number) → number_carried_out a ≤ number
        carried (Swapped j) low = low j refl
        carried a low = omega arith

        not_past : (f : Entry O R) → In f (mine s c) → IsOwn e f → IsNotPast number f
        not_past f listed own =
            let next = is_abandoned.next in
            let known : f.incarnation ≤ incarnation s e.object = subst (λ o. f.incarnation ≤ incarnation s o) own.object (each f listed).known in
            record {
              incarnation = omega (arith, known, next);
              carried_out = carried f.answer
                  (λ j said. ⊎_elim
                  (λ (low : j ≤ incarnation s f.object). let low' : j ≤ incarnation s e.object = subst (λ o. j ≤ incarnation s o) own.object low in omega (arith, low', next))
                  (λ (ahead : (j ≡ incarnation s f.object + 1) × (swap_of s c ≡ Moved f.object)).
                  let here : j ≡ incarnation s e.object + 1 = subst (λ o. j ≡ incarnation s o + 1) own.object ahead.0 in omega (arith, here, next))
                  ((each f listed).done j said));
            }

  alone_by : (answer : Answer R) → e.answer ≡ answer → phases.IsSound s.phases → e.caller ≡ c → is_call e.act ≡ false → (kept_of s c).begun ≡ Some e.object
      → IsAnsweredAlone s c e answer
      → AreAnswered (record s { turns = turn_events.effect s.turns (Alone c e); kept = kept_drawn s c (tells_abandoned answer) })
  alone_by (Busy number) is sound caller no_call begun refused = busy_answers no_call begun number caller is refused
  alone_by (Abandoned number) is sound caller no_call begun abandoned = abandoned_answers no_call begun number sound is abandoned
  alone_by answer is sound caller no_call begun none = absurd none

  pub alone_answers : phases.IsSound s.phases → e.caller ≡ c → MayDrawAlone s c e
      → AreAnswered (record s { turns = turn_events.effect s.turns (Alone c e); kept = kept_drawn s c (tells_abandoned e.answer) })
  alone_answers sound caller may = alone_by e.answer refl sound caller may.act may.begun may.answer

  -- a hand

  pub hand_answers : (sound : phases.IsSound s.phases) (from onto : List ℕ) (layout : L) → is_call e.act ≡ false → e.object < many_objects s
      → swap_of s c ≡ Moved e.object → e.incarnation ≡ incarnation s e.object → e.answer ≡ Swapped (incarnation s e.object + 1)
      → AreAnswered (record s {
        turns = turn_events.effect s.turns (Hand c from onto e);
        hands = hands_with s e.object layout;
        kept = kept_drawn s c false;
      })
  hand_answers sound from onto layout no_call named moved now answer =
      drawn_answered s c e false t h locked answered (record {
        there = there;
        own = own;
        mines = mines;
        handed = handed;
        given_up = λ o name is bad. absurd (cc);
        timely = timely_now now (λ n is. let bad : Swapped (incarnation s e.object + 1) ≡ Busy n = sym answer ∙ is in cc)
            (λ n is. let bad : Swapped (incarnation s e.object + 1) ≡ Abandoned n = sym answer ∙ is in cc);
        not_over = λ f n is same over true_is. alive f same (f.answer) over true_is;
        new = record {
          there = named;
          replied = λ is. let bad : false ≡ true = sym no_call ∙ is in absurd (cc);
          known = let same = now in omega (arith, same);
          done = λ n is. let same : incarnation s e.object + 1 ≡ n = swapped_same (sym answer ∙ is) in inr (sym same, moved);
          over = subst (λ a. IsTrueOf (object s e.object) e.incarnation a) (sym answer) tt;
          last = λ over d n other within listed same is.
              let bad : tells_over {R = R} (Swapped (incarnation s e.object + 1)) ≡ true = subst (λ a. tells_over a ≡ true) answer over in absurd (cc);
          busy = λ n is. let bad : Swapped (incarnation s e.object + 1) ≡ Busy n = sym answer ∙ is in absurd (cc);
          abandoned = λ n is. let bad : Swapped (incarnation s e.object + 1) ≡ Abandoned n = sym answer ∙ is in absurd (cc);
          rival = λ n is. let bad : Swapped (incarnation s e.object + 1) ≡ Busy n = sym answer ∙ is in absurd (cc);
        };
      })
    where
      swapped_same : {m n : ℕ} → ◌≡◌ {A = Answer R} (Swapped m) (Swapped n) → m ≡ n
      swapped_same same = cc

      drawing : Turns O R
      drawing = change_caller (caller_drawn e) s.turns c

      t : Turns O R
      t = turn_events.effect s.turns (Hand c from onto e)

      h : List (List L)
      h = hands_with s e.object layout

      callers_same : t.callers ≡ drawing.callers
      callers_same = callers-change_cells cell_closed (change_cells (cell_begun e) drawing onto) from ∙ callers-change_cells (cell_begun e) drawing onto

      own : drawn_by t.callers c ≡ mine s c ++ e ∷ []
      own = ap (λ callers. drawn_by callers c) callers_same ∙ own_drawn s.turns.callers c e callers_there

      mines : (d : ℕ) → d ≢ c → drawn_by t.callers d ≡ mine s d
      mines d other = ap (λ callers. drawn_by callers d) callers_same ∙ else_drawn s.turns.callers c d e other

      handed : (d o : ℕ) → d < many_callers s → swap_of s d ≡ Moved o
          → is_handed (record s { turns = t; hands = h; kept = kept_drawn s c false }) o ≡ true
          → HasAnswered (record s { turns = t; hands = h; kept = kept_drawn s c false }) d o (Swapped (incarnation s o + 1))
      handed d o within moves is =
          ⊎_elim {C = HasAnswered (record s { turns = t; hands = h; kept = kept_drawn s c false }) d o (Swapped (incarnation s o + 1))}
          (λ (same : o ≡ e.object).
          let mover : d ≡ c = (one_swap s.phases sound e.object named).one d c within there (ap named_by moves ∙ ap Some same) (ap named_by moved) in
          let new = newly_answered s c e false t h own in
          subst (λ g. HasAnswered (record s { turns = t; hands = h; kept = kept_drawn s c false }) g o (Swapped (incarnation s o + 1))) (sym mover)
          (subst (λ r. HasAnswered (record s { turns = t; hands = h; kept = kept_drawn s c false }) c r (Swapped (incarnation s r + 1))) (sym same)
          (subst (λ a. HasAnswered (record s { turns = t; hands = h; kept = kept_drawn s c false }) c e.object a) answer new)))
          (λ (other : o ≢ e.object).
          let hands_same = get_or-set_other s.hands e.object o (layout ∷ get_or s.hands e.object []) [] other in
          still_answered s c e false t h own mines d o (Swapped (incarnation s o + 1))
          (((answered d within).drawn o (ap named_by moves)).handed moves (sym (ap (λ ls. ltb (incarnation s o) (length ls)) hands_same) ∙ is)))
          (cases_eq o e.object)

      alive : (f : Entry O R) → e.object ≡ f.object → (a : Answer R) → tells_over a ≡ true → IsTrueOf (object s f.object) f.incarnation a → ⊥
      alive f same Spent over is =
          let ready = moved_is_ready s.phases sound c e.object there moved in
          let next = ready.next in
          let last : incarnation s e.object ≡ LAST_INCARNATION = subst (λ o. incarnation s o ≡ LAST_INCARNATION) (sym same) is.1 in
          absurd (omega (arith, next, last))
      alive f same Gone over is =
          let ready = moved_is_ready s.phases sound c e.object there moved in
          let alive_is = ready.alive in
          let two : (object s e.object).layout ≡ length (object s e.object).shapes = subst (λ o. (object s o).layout ≡ length (object s o).shapes) (sym same) is.1 in
          absurd (omega (arith, alive_is, two))
      alive f same a over is = absurd (cc)
