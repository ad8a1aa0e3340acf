-- An entry more: what it needs so that the answers stay.
use Rattle.std.proofs.Common.{◌≡◌, ◌≢◌, ℕ, ◌+◌, ◌<◌, ◌⊎◌, ◌∙◌, Bool, true, false, ◌||◌, List, [], ◌∷◌, ◌++◌, Some, None, refl, sym, ap, subst, inl, inr, ⊎_elim}
use Rattle.std.proofs.lemmas.Bool.{cases_eq}
use Rattle.std.proofs.lemmas.List.{get_or-set_same, get_or-set_other}
use Rattle.k42_kinds.specs.declared.entry.Answer.{Answer}
use Rattle.k42_kinds.specs.declared.entry.Answer.TheVariants.{Swapped, Abandoned}
use Rattle.k42_kinds.specs.declared.entry.Entry.{Entry}
use Rattle.k42_kinds.specs.Legal.{Settles}
use Rattle.phase_core.specs.Stages.{named_by}
use Rattle.phase_core.specs.declared.caller.SwapAt.TheVariants.{Moved}
use Rattle.turn_core.specs.Plain.{Turns}
use Rattle.k42_stamp.specs.Orders.{In}
use Rattle.k42_stamp.proofs.Elements.{in_left, in_right, in-append}
use Rattle.k42_joined.specs.Plain.{Kept, Joined}
use Rattle.k42_joined.specs.Answers.{HasAnswered, AreTimely, IsTrueOf, IsKept, IsUnderWay, IsSettled, HasRival, IsAnswer, IsFound, HasDrawn, AreAnswered}
use Rattle.k42_joined.specs.Effects.{kept_drawn}
use Rattle.k42_joined.specs.Found.{tells_over}
use Rattle.k42_joined.specs.Locks.{AreLocked}
use Rattle.k42_joined.specs.Refusals.{is_given_up}
use Rattle.k42_joined.specs.State.{nothing_kept, many_callers, object, incarnation, swap_of, mine, kept_of, is_handed}

module _ {L O R : Type 0} (s : Joined L O R) (c : ℕ) (e : Entry O R) (abandons : Bool) (turns : Turns O R) (hands : List (List L)) where
  abbrev pub t : Joined L O R
  t = record { phases = s.phases; turns = turns; hands = hands; kept = kept_drawn s c abandons }

  -- an answer that was drawn is drawn still
  pub still_answered : mine t c ≡ mine s c ++ e ∷ [] → ((d : ℕ) → d ≢ c → mine t d ≡ mine s d)
      → (d o : ℕ) (told : Answer R) → HasAnswered s d o told → HasAnswered t d o told
  still_answered own mines d o told has =
      ⊎_elim {C = HasAnswered t d o told}
      (λ (same : d ≡ c).
      let here : In has.entry (mine s c) = subst (λ g. In has.entry (mine s g)) same has.drawn in
      record {
        entry = has.entry;
        drawn = subst (λ g. In has.entry (mine t g)) (sym same) (subst (λ (es : List (Entry O R)). In has.entry es) (sym own) (in_left has.entry (mine s c) (e ∷ []) here));
        object = has.object;
        answer = has.answer;
      })
      (λ (other : d ≢ c).
      record { entry = has.entry; drawn = subst (λ (es : List (Entry O R)). In has.entry es) (sym (mines d other)) has.drawn; object = has.object; answer = has.answer })
      (cases_eq d c)

  pub rival_own : mine t c ≡ mine s c ++ e ∷ [] → ((d : ℕ) → d ≢ c → mine t d ≡ mine s d) → (d o number : ℕ) → HasRival s d o number → HasRival t d o number
  rival_own own mines d o number rival =
      ⊎_elim {C = HasRival t d o number}
      (λ (is : IsSettled s d o number).
      let has = still_answered own mines is.rival o is.entry.answer (record { entry = is.entry; drawn = is.drawn; object = is.object; answer = refl }) in
      inl (record {
        rival = is.rival;
        other = is.other;
        entry = has.entry;
        drawn = has.drawn;
        object = has.object;
        settles = subst (λ answer. Settles number answer) (sym has.answer) is.settles;
      }))
      (λ (is : IsUnderWay s d o number). inr (record {
        rival = is.rival;
        other = is.other;
        there = is.there;
        named = is.named;
        granted = is.granted;
        number = is.number;
      })) rival

  pub newly_answered : mine t c ≡ mine s c ++ e ∷ [] → HasAnswered t c e.object e.answer
  newly_answered own = record {
    entry = e;
    drawn = subst (λ (es : List (Entry O R)). In e es) (sym own) (in_right e (mine s c) (e ∷ []) (inl refl));
    object = refl;
    answer = refl;
  }

  -- what the entry needs
  pub record DrawsOn : Type 0 where
    pub there : c < many_callers s
    pub own : mine t c ≡ mine s c ++ e ∷ []
    pub mines : (d : ℕ) → d ≢ c → mine t d ≡ mine s d
    pub handed : (d o : ℕ) → d < many_callers s → swap_of s d ≡ Moved o → is_handed t o ≡ true → HasAnswered t d o (Swapped (incarnation s o + 1))
    pub given_up :
        (o : ℕ) → named_by (swap_of s c) ≡ Some o → is_given_up (swap_of s c) (object s o) o ≡ true → abandons ≡ true
        → HasAnswered t c o (Abandoned (incarnation s o + 1))
    pub timely : AreTimely (mine s c ++ e ∷ [])
    -- no carried-out swap comes where the object is over
    pub not_over : (f : Entry O R) (n : ℕ) → e.answer ≡ Swapped n → e.object ≡ f.object → tells_over f.answer ≡ true
        → IsTrueOf (object s f.object) f.incarnation f.answer → ⊥
    pub new : IsAnswer t c e

  module _ (locked : AreLocked s) (answered : AreAnswered s) (on : DrawsOn) where
    in_more : (d : ℕ) (f : Entry O R) → In f (mine s d) → In f (mine t d)
    in_more d f is =
        ⊎_elim
        (λ (same : d ≡ c). subst (λ g. In f (mine t g)) (sym same)
        (subst (λ (es : List (Entry O R)). In f es) (sym on.own) (in_left f (mine s c) (e ∷ []) (subst (λ g. In f (mine s g)) same is))))
        (λ (other : d ≢ c). subst (λ (es : List (Entry O R)). In f es) (sym (on.mines d other)) is)
        (cases_eq d c)

    in_split : (d : ℕ) (f : Entry O R) → In f (mine t d) → ((d ≡ c) × (f ≡ e)) ⊎ In f (mine s d)
    in_split d f is =
        ⊎_elim {C = ((d ≡ c) × (f ≡ e)) ⊎ In f (mine s d)}
        (λ (same : d ≡ c).
        let here : In f (mine s c ++ e ∷ []) = subst (λ (es : List (Entry O R)). In f es) on.own (subst (λ g. In f (mine t g)) same is) in
        ⊎_elim {C = ((d ≡ c) × (f ≡ e)) ⊎ In f (mine s d)}
        (λ (old : In f (mine s c)). inr (subst (λ g. In f (mine s g)) (sym same) old))
        (λ (new : In f (e ∷ [])). ⊎_elim {C = ((d ≡ c) × (f ≡ e)) ⊎ In f (mine s d)} (λ (is_e : f ≡ e). inl (same, is_e)) (λ none. absurd none) new)
        (in-append f (mine s c) (e ∷ []) here))
        (λ (other : d ≢ c). inr (subst (λ (es : List (Entry O R)). In f es) (on.mines d other) is))
        (cases_eq d c)

    pub answered_more : (d o : ℕ) (told : Answer R) → HasAnswered s d o told → HasAnswered t d o told
    answered_more d o told has = record { entry = has.entry; drawn = in_more d has.entry has.drawn; object = has.object; answer = has.answer }

    pub rival_more : (d o number : ℕ) → HasRival s d o number → HasRival t d o number
    rival_more d o number rival =
        ⊎_elim {C = HasRival t d o number}
        (λ (is : IsSettled s d o number). inl (record {
          rival = is.rival;
          other = is.other;
          entry = is.entry;
          drawn = in_more is.rival is.entry is.drawn;
          object = is.object;
          settles = is.settles;
        }))
        (λ (is : IsUnderWay s d o number). inr (record {
          rival = is.rival;
          other = is.other;
          there = is.there;
          named = is.named;
          granted = is.granted;
          number = is.number;
        })) rival

    answer_more : (d : ℕ) (f : Entry O R) → IsAnswer s d f → IsAnswer t d f
    answer_more d f old = record {
      there = old.there;
      replied = old.replied;
      known = old.known;
      done = λ number answer. old.done number answer;
      over = old.over;
      last = λ over g number other within listed same answer.
          ⊎_elim
          (λ (new : (g ≡ c) × (other ≡ e)).
          absurd (on.not_over f number (sym (ap (λ (x : Entry O R). x.answer) new.1) ∙ answer) (sym (ap (λ (x : Entry O R). x.object) new.1) ∙ same) over old.over))
          (λ was. old.last over g number other within was same answer)
          (in_split g other listed);
      busy = old.busy;
      abandoned = old.abandoned;
      rival = λ number answer. rival_more d f.object number (old.rival number answer);
    }

    kept_here : kept_of t c ≡ record (kept_of s c) { found = None; abandoned = abandons || (kept_of s c).abandoned }
    kept_here = get_or-set_same s.kept c _ nothing_kept (rw locked.many.kept on.there)

    kept_else : (d : ℕ) → d ≢ c → kept_of t d ≡ kept_of s d
    kept_else d other = get_or-set_other s.kept c d _ nothing_kept other

    kept_more : (d : ℕ) → d < many_callers s → IsKept t d
    kept_more d within =
        ⊎_elim {C = IsKept t d}
        (λ (same : d ≡ c). subst (IsKept t) (sym same)
        (let old = (answered c on.there).kept in
        record {
          begun = λ o named. ap (λ (k : Kept R). k.begun) kept_here ∙ old.begun o named;
          there = λ o begun. old.there o (sym (ap (λ (k : Kept R). k.begun) kept_here) ∙ begun);
          found = λ answer is. let none : None ≡ Some answer = sym (ap (λ (k : Kept R). k.found) kept_here) ∙ is in absurd (cc);
        }))
        (λ (other : d ≢ c).
        let old = (answered d within).kept in
        let same = kept_else d other in
        record {
          begun = λ o named. ap (λ (k : Kept R). k.begun) same ∙ old.begun o named;
          there = λ o begun. old.there o (sym (ap (λ (k : Kept R). k.begun) same) ∙ begun);
          found = λ answer is. old.found answer (sym (ap (λ (k : Kept R). k.found) same) ∙ is);
        })
        (cases_eq d c)

    found_more : (d o : ℕ) (answer : Answer R) → d < many_callers s → (kept_of t d).begun ≡ Some o → (kept_of t d).found ≡ Some answer → IsFound t d o answer
    found_more d o answer within begun is =
        ⊎_elim {C = IsFound t d o answer}
        (λ (same : d ≡ c).
        let none : None ≡ Some answer = sym (ap (λ (k : Kept R). k.found) kept_here) ∙ subst (λ g. (kept_of t g).found ≡ Some answer) same is in
        absurd (cc))
        (λ (other : d ≢ c).
        let same = kept_else d other in
        let old = (answered d within).found o answer (sym (ap (λ (k : Kept R). k.begun) same) ∙ begun) (sym (ap (λ (k : Kept R). k.found) same) ∙ is) in
        record {
          over = old.over;
          some = old.some;
          busy = old.busy;
          rival = λ number busy. rival_more d o number (old.rival number busy);
          timely = λ number f busy of. subst (λ (es : List (Entry O R)). AreTimely (es ++ f ∷ [])) (sym (on.mines d other)) (old.timely number f busy of);
        })
        (cases_eq d c)

    by_abandons : (o : ℕ) → named_by (swap_of s c) ≡ Some o → is_given_up (swap_of s c) (object s o) o ≡ true → (b : Bool) → abandons ≡ b
        → b || (kept_of s c).abandoned ≡ true → HasAnswered t c o (Abandoned (incarnation s o + 1))
    by_abandons o named is true e some = on.given_up o named is e
    by_abandons o named is false e some = answered_more c o (Abandoned (incarnation s o + 1)) (((answered c on.there).drawn o named).given_up is some)

    drawn_more : (d o : ℕ) → d < many_callers s → named_by (swap_of s d) ≡ Some o → HasDrawn t d o
    drawn_more d o within named =
        let old = (answered d within).drawn o named in
        record {
          handed = λ moved is. on.handed d o within moved is;
          turned = λ is. answered_more d o (Swapped (incarnation s o)) (old.turned is);
          given_up = λ is some. ⊎_elim {C = HasAnswered t d o (Abandoned (incarnation s o + 1))}
              (λ (same : d ≡ c).
              subst (λ g. HasAnswered t g o (Abandoned (incarnation s o + 1))) (sym same)
              (by_abandons o (subst (λ g. named_by (swap_of s g) ≡ Some o) same named) (subst (λ g. is_given_up (swap_of s g) (object s o) o ≡ true) same is)
              abandons refl (sym (ap (λ (k : Kept R). k.abandoned) kept_here) ∙ subst (λ g. (kept_of t g).abandoned ≡ true) same some)))
              (λ (other : d ≢ c).
              answered_more d o (Abandoned (incarnation s o + 1)) (old.given_up is (sym (ap (λ (k : Kept R). k.abandoned) (kept_else d other)) ∙ some)))
              (cases_eq d c);
        }

    pub drawn_answered : AreAnswered t
    drawn_answered d within = record {
      kept = kept_more d within;
      timely = ⊎_elim {C = AreTimely (mine t d)}
          (λ (same : d ≡ c). subst (λ g. AreTimely (mine t g)) (sym same) (subst AreTimely (sym on.own) on.timely))
          (λ (other : d ≢ c). subst AreTimely (sym (on.mines d other)) (answered d within).timely)
          (cases_eq d c);
      each = λ f is. ⊎_elim {C = IsAnswer t d f}
          (λ (new : (d ≡ c) × (f ≡ e)). subst (λ g. IsAnswer t g f) (sym new.0) (subst (λ g. IsAnswer t c g) (sym new.1) on.new))
          (λ was. answer_more d f ((answered d within).each f was))
          (in_split d f is);
      found = λ o answer begun is. found_more d o answer within begun is;
      drawn = λ o named. drawn_more d o within named;
    }
