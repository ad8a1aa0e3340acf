-- In the trace of a state in which no swap is under way, each refusal and each abandoned swap is legal.
use Rattle.std.proofs.Common.{◌≡◌, ◌≢◌, ℕ, zero, suc, ◌+◌, ◌<◌, ◌≤◌, ◌∙◌, List, [], ◌∷◌, ◌++◌, length, Any, refl, sym, ap, subst, inl, inr, ⊎_elim, arith}
use Rattle.std.specs.List.{slice_get}
use Rattle.std.specs.Prelude.{Some}
use Rattle.std.proofs.lemmas.Bool.{cases_lt, cases_eq}
use Rattle.std.proofs.lemmas.List.{get_or_past}
use Rattle.std.proofs.lemmas.List.Elements.{All-from_recursion, recursion_from_All}
use Rattle.std.proofs.lemmas.Option.{same_Some, slice_get_within, get_or_from_slice_get}
use Rattle.k42_kinds.specs.Histories.{AtEachPlace}
use Rattle.k42_kinds.specs.Legal.{IsOwn, IsNotPast, IsRival, IsTimely, IsLegalRefusal}
use Rattle.k42_kinds.specs.declared.entry.Answer.TheVariants.{Busy, Abandoned}
use Rattle.k42_kinds.specs.declared.entry.Entry.{Entry}
use Rattle.turn_core.specs.Plain.{Caller}
use Rattle.turn_core.specs.Sound.{drawn_by}
use Rattle.turn_core.specs.Sound as turns
use Rattle.turn_core.specs.State.{fresh_caller}
use Rattle.turn_core.proofs.Reached.{lists-rise}
use Rattle.k42_stamp.specs.Lists.{numbered_from, IsTrace}
use Rattle.k42_stamp.specs.Orders.{IsBefore, Ordered, In}
use Rattle.k42_stamp.proofs.Elements.{all_at, all_in, in_left, in_right, in-append}
use Rattle.k42_stamp.proofs.Ordering.{before-irreflexive, before_stamp}
use Rattle.k42_joined.specs.Plain.{Joined}
use Rattle.k42_joined.specs.Answers.{IsUnderWay, IsSettled, IsAnswered, AreAnswered}
use Rattle.k42_joined.specs.Fitting.{lists_of}
use Rattle.k42_joined.specs.Locks.{AreAsMany}
use Rattle.k42_joined.specs.Rest.{IsAtRest}
use Rattle.k42_joined.specs.State.{many_callers, mine}
use Rattle.k42_joined.proofs.RowsCells.{list_here}
use Rattle.k42_joined.proofs.RowsStamps.{in_place, place_in, in_own, own_caller}

-- what a refusal, and an abandoned swap, of a history must meet
abbrev pub IsLegallyHeldUp : {O R : Type 0} → List (Entry O R) → Entry O R → List (Entry O R) → Type 0
IsLegallyHeldUp before entry after =
    ((number : ℕ) → entry.answer ≡ Busy number → IsLegalRefusal before entry after number)
    × ((number : ℕ) → entry.answer ≡ Abandoned number → IsTimely before entry after number)

-- a list is split at one of its elements

pub record IsCutAt {E : Type 0} (xs : List E) (h : E) : Type 0 where
  pub before : List E
  pub after : List E
  pub cut : xs ≡ before ++ h ∷ after

cut_at : {E : Type 0} (xs : List E) (j : ℕ) (h : E) → slice_get xs j ≡ Some h → IsCutAt xs h
cut_at [] j h at = absurd (cc)
cut_at (x ∷ xs) zero h at = record { before = []; after = xs; cut = ap (λ y. y ∷ xs) (same_Some x h at) }
cut_at (x ∷ xs) (suc j) h at =
    let rest = cut_at xs j h at in
    record { before = x ∷ rest.before; after = rest.after; cut = ap (λ ys. x ∷ ys) rest.cut }

-- an element at a lower place stands before, one at a higher place after it
record CutBehind {E : Type 0} (xs : List E) (y h : E) : Type 0 where
  cut : IsCutAt xs h
  has : In y cut.before

cut_behind : {E : Type 0} (xs : List E) (i j : ℕ) (y h : E) → i < j → slice_get xs i ≡ Some y → slice_get xs j ≡ Some h → CutBehind xs y h
cut_behind [] i j y h less at_i at_j = absurd (cc)
cut_behind (x ∷ xs) i zero y h less at_i at_j = absurd (omega (arith, less))
cut_behind (x ∷ xs) zero (suc j) y h less at_i at_j =
    let rest = cut_at xs j h at_j in
    record {
      cut = record { before = x ∷ rest.before; after = rest.after; cut = ap (λ ys. x ∷ ys) rest.cut };
      has = inl (sym (same_Some x y at_i));
    }
cut_behind (x ∷ xs) (suc i) (suc j) y h less at_i at_j =
    let rest = cut_behind xs i j y h (omega (arith, less)) at_i at_j in
    record {
      cut = record { before = x ∷ rest.cut.before; after = rest.cut.after; cut = ap (λ ys. x ∷ ys) rest.cut.cut };
      has = inr rest.has;
    }

record CutBefore {E : Type 0} (xs : List E) (y h : E) : Type 0 where
  cut : IsCutAt xs h
  has : In y cut.after

cut_before : {E : Type 0} (xs : List E) (i j : ℕ) (y h : E) → j < i → slice_get xs i ≡ Some y → slice_get xs j ≡ Some h → CutBefore xs y h
cut_before [] i j y h less at_i at_j = absurd (cc)
cut_before (x ∷ xs) zero j y h less at_i at_j = absurd (omega (arith, less))
cut_before (x ∷ xs) (suc i) zero y h less at_i at_j =
    record { cut = record { before = []; after = xs; cut = ap (λ z. z ∷ xs) (same_Some x h at_j) }; has = place_in y xs i at_i }
cut_before (x ∷ xs) (suc i) (suc j) y h less at_i at_j =
    let rest = cut_before xs i j y h (omega (arith, less)) at_i at_j in
    record {
      cut = record { before = x ∷ rest.cut.before; after = rest.cut.after; cut = ap (λ ys. x ∷ ys) rest.cut.cut };
      has = rest.has;
    }

-- of a list in order, what stands before an element is before it

ordered_front : {O R : Type 0} (front : List (Entry O R)) (h : Entry O R) (back : List (Entry O R)) (y : Entry O R) → Ordered IsBefore (front ++ h ∷ back) → In y front → IsBefore y h
ordered_front [] h back y ordered is = absurd is
ordered_front {O} {R} (x ∷ front) h back y ordered is =
    ⊎_elim {C = IsBefore y h}
    (λ (same : y ≡ x).
    subst (λ (z : Entry O R). IsBefore z h) (sym same) (all_at (IsBefore x) (front ++ h ∷ back) h ordered.0 (in_right h front (h ∷ back) (inl refl))))
    (λ (more : In y front). ordered_front front h back y ordered.1 more) is

ordered_back : {O R : Type 0} (front : List (Entry O R)) (h : Entry O R) (back : List (Entry O R)) (y : Entry O R) → Ordered IsBefore (front ++ h ∷ back) → In y back → IsBefore h y
ordered_back [] h back y ordered is = all_at (IsBefore h) back y ordered.0 is
ordered_back (x ∷ front) h back y ordered is = ordered_back front h back y ordered.1 is

-- entries that are numbered anew

abbrev stamped : {O R : Type 0} → Entry O R → ℕ → Entry O R
stamped entry stamp = record entry { stamp = stamp }

pub record IsNumberedCut {O R : Type 0} (n : ℕ) (es before : List (Entry O R)) (e : Entry O R) (after : List (Entry O R)) : Type 0 where
  pub front : List (Entry O R)
  pub here : Entry O R
  pub back : List (Entry O R)
  pub cut : es ≡ front ++ here ∷ back
  pub stamp : ℕ
  pub before_is : before ≡ numbered_from n front
  pub here_is : e ≡ stamped here stamp
  pub next : ℕ
  pub after_is : after ≡ numbered_from next back

record AreHeads {O R : Type 0} (x y : Entry O R) (xs ys : List (Entry O R)) : Type 0 where
  head : x ≡ y
  tail : xs ≡ ys

are_heads : {O R : Type 0} (x y : Entry O R) (xs ys : List (Entry O R)) → x ∷ xs ≡ y ∷ ys → AreHeads x y xs ys
are_heads x y xs ys same = record { head = cc; tail = cc }

pub numbered_cut : {O R : Type 0} (n : ℕ) (es before : List (Entry O R)) (e : Entry O R) (after : List (Entry O R)) → numbered_from n es ≡ before ++ e ∷ after → IsNumberedCut n es before e after
numbered_cut n [] [] e after is = absurd (cc)
numbered_cut n [] (b ∷ before) e after is = absurd (cc)
numbered_cut n (x ∷ es) [] e after is =
    let same = are_heads (stamped x n) e (numbered_from (suc n) es) after is in
    record {
      front = [];
      here = x;
      back = es;
      cut = refl;
      stamp = n;
      before_is = refl;
      here_is = sym same.head;
      next = suc n;
      after_is = sym same.tail;
    }
numbered_cut {O} {R} n (x ∷ es) (b ∷ before) e after is =
    let same = are_heads (stamped x n) b (numbered_from (suc n) es) (before ++ e ∷ after) is in
    let rest = numbered_cut (suc n) es before e after same.tail in
    record {
      front = x ∷ rest.front;
      here = rest.here;
      back = rest.back;
      cut = ap (λ ys. x ∷ ys) rest.cut;
      stamp = rest.stamp;
      before_is = ap (λ (y : Entry O R). y ∷ before) (sym same.head) ∙ ap (λ ys. stamped x n ∷ ys) rest.before_is;
      here_is = rest.here_is;
      next = rest.next;
      after_is = rest.after_is;
    }

-- a numbered entry is one of the entries but for its stamp, and each is numbered

record WasOf {O R : Type 0} (x : Entry O R) (es : List (Entry O R)) : Type 0 where
  entry : Entry O R
  has : In entry es
  stamp : ℕ
  same : x ≡ stamped entry stamp

numbered_was : {O R : Type 0} (n : ℕ) (es : List (Entry O R)) (x : Entry O R) → In x (numbered_from n es) → WasOf x es
numbered_was n [] x is = absurd is
numbered_was n (y ∷ es) x is =
    ⊎_elim {C = WasOf x (y ∷ es)} (λ (same : x ≡ stamped y n). record { entry = y; has = inl refl; stamp = n; same = same })
    (λ (more : In x (numbered_from (suc n) es)).
    let rest = numbered_was (suc n) es x more in
    record { entry = rest.entry; has = inr rest.has; stamp = rest.stamp; same = rest.same }) is

numbered_has : {O R : Type 0} (n : ℕ) (es : List (Entry O R)) (y : Entry O R) → In y es → (stamp : ℕ) × In (stamped y stamp) (numbered_from n es)
numbered_has n [] y is = absurd is
numbered_has n (x ∷ es) y is =
    ⊎_elim {C = (stamp : ℕ) × In (stamped y stamp) (numbered_from n (x ∷ es))}
    (λ (same : y ≡ x). (n, inl (ap (λ z. stamped z n) same)))
    (λ (more : In y es). let rest = numbered_has (suc n) es y more in (rest.0, inr rest.1)) is

any_in : {O R : Type 0} (P : Entry O R → Type 0) (xs : List (Entry O R)) (x : Entry O R) → In x xs → P x → Any P xs
any_in P xs x is holds =
    let placed = in_place x xs is in
    (placed.place, x, slice_get_within xs placed.place x placed.at, get_or_from_slice_get xs placed.place x x placed.at, holds)

module _ {L O R : Type 0} (s : Joined L O R) (many : AreAsMany s) (turns_sound : turns.IsSound s.turns) (answered : AreAnswered s)
    (trace : List (Entry O R)) (is : IsTrace (lists_of s) trace) where
  -- an entry of a list is its caller's, who is there

  mine_there : (d : ℕ) (f : Entry O R) → In f (mine s d) → d < many_callers s
  mine_there d f listed = ⊎_elim (λ there. rw (← many.callers) there)
      (λ past. absurd (subst (λ (x : Caller O R). In f x.mine) (get_or_past s.turns.callers d fresh_caller past) listed)) (cases_lt d (length s.turns.callers))

  caller_is : (d : ℕ) (f : Entry O R) → In f (mine s d) → f.caller ≡ d
  caller_is d f listed = own_caller s.turns turns_sound d f (rw many.callers (mine_there d f listed)) listed

  into_trace : (d : ℕ) (f : Entry O R) → In f (mine s d) → In f trace
  into_trace d f listed =
      is.all f (record { place = d; list = mine s d; there = list_here s d (rw many.callers (mine_there d f listed)); has = listed })

  from_trace : (f : Entry O R) → In f trace → In f (mine s f.caller)
  from_trace f has = (in_own s.turns turns_sound f (is.only f has)).1

  module _ (front : List (Entry O R)) (here : Entry O R) (back : List (Entry O R)) (cut : trace ≡ front ++ here ∷ back) where
    ordered : Ordered IsBefore (front ++ here ∷ back)
    ordered = subst (λ es. Ordered IsBefore es) cut is.ordered

    in_trace : (f : Entry O R) → In f (front ++ here ∷ back) → In f trace
    in_trace f has = subst (λ es. In f es) (sym cut) has

    own_list : In here (mine s here.caller)
    own_list = from_trace here (in_trace here (in_right here front (here ∷ back) (inl refl)))

    same_list : (y : Entry O R) → In y trace → y.caller ≡ here.caller → In y (mine s here.caller)
    same_list y has same = subst (λ d. In y (mine s d)) same (from_trace y has)

    -- entries of one caller stand in the trace as in its list

    stands_behind : (y : Entry O R) → In y front → y.caller ≡ here.caller → CutBehind (mine s here.caller) y here
    stands_behind y has same =
        let before = ordered_front front here back y ordered has in
        let low = before_stamp y here before in
        let at_y = in_place y (mine s here.caller) (same_list y (in_trace y (in_left y front (here ∷ back) has)) same) in
        let at_here = in_place here (mine s here.caller) own_list in
        ⊎_elim (λ less. cut_behind (mine s here.caller) at_y.place at_here.place y here less at_y.at at_here.at)
        (λ high. ⊎_elim {C = CutBehind (mine s here.caller) y here}
        (λ (one : at_y.place ≡ at_here.place).
        let alike : y ≡ here = same_Some y here (sym at_y.at ∙ ap (slice_get (mine s here.caller)) one ∙ at_here.at) in
        absurd (before-irreflexive here (subst (λ (z : Entry O R). IsBefore z here) alike before)))
        (λ other.
        let more = lists-rise s.turns here.caller turns_sound at_here.place at_y.place here y (omega (arith, high, other)) at_here.at at_y.at in
        absurd (omega (arith, low, more)))
        (cases_eq at_y.place at_here.place))
        (cases_lt at_y.place at_here.place)

    stands_before : (y : Entry O R) → In y back → y.caller ≡ here.caller → CutBefore (mine s here.caller) y here
    stands_before y has same =
        let before = ordered_back front here back y ordered has in
        let low = before_stamp here y before in
        let at_y = in_place y (mine s here.caller) (same_list y (in_trace y (in_right y front (here ∷ back) (inr has))) same) in
        let at_here = in_place here (mine s here.caller) own_list in
        ⊎_elim (λ less. cut_before (mine s here.caller) at_y.place at_here.place y here less at_y.at at_here.at)
        (λ high. ⊎_elim {C = CutBefore (mine s here.caller) y here}
        (λ (one : at_here.place ≡ at_y.place).
        let alike : here ≡ y = same_Some here y (sym at_here.at ∙ ap (slice_get (mine s here.caller)) one ∙ at_y.at) in
        absurd (before-irreflexive here (subst (λ (z : Entry O R). IsBefore here z) (sym alike) before)))
        (λ other.
        let more = lists-rise s.turns here.caller turns_sound at_y.place at_here.place y here (omega (arith, high, other)) at_y.at at_here.at in
        absurd (omega (arith, low, more)))
        (cases_eq at_here.place at_y.place))
        (cases_lt at_here.place at_y.place)

    own : IsAnswered s here.caller
    own = answered here.caller (mine_there here.caller here own_list)

    -- what is asked of the caller's list holds of the trace
    module _ (number : ℕ) (timely : (before after : List (Entry O R)) → mine s here.caller ≡ before ++ here ∷ after → IsTimely before here after number) where
      not_past : (y : Entry O R) → In y front → IsOwn here y → IsNotPast number y
      not_past y has other =
          let stands = stands_behind y has other.caller in
          let cut_is = stands.cut in
          all_at (λ (z : Entry O R). IsOwn here z → IsNotPast number z) cut_is.before y
          (recursion_from_All (λ (z : Entry O R). IsOwn here z → IsNotPast number z) cut_is.before (timely cut_is.before cut_is.after cut_is.cut).earlier)
          stands.has other

      not_below : (y : Entry O R) → In y back → IsOwn here y → number ≤ y.incarnation + 1
      not_below y has other =
          let stands = stands_before y has other.caller in
          let cut_is = stands.cut in
          all_at (λ (z : Entry O R). IsOwn here z → number ≤ z.incarnation + 1) cut_is.after y
          (recursion_from_All (λ (z : Entry O R). IsOwn here z → number ≤ z.incarnation + 1) cut_is.after (timely cut_is.before cut_is.after cut_is.cut).later)
          stands.has other

      next_is : here.incarnation + 1 ≡ number
      next_is =
          let placed = in_place here (mine s here.caller) own_list in
          let cut_is = cut_at (mine s here.caller) placed.place here placed.at in
          (timely cut_is.before cut_is.after cut_is.cut).incarnation

      numbered_timely : (n stamp next : ℕ) → IsTimely (numbered_from n front) (stamped here stamp) (numbered_from next back) number
      numbered_timely n stamp next = record {
        incarnation = next_is;
        earlier = All-from_recursion (λ (z : Entry O R). IsOwn (stamped here stamp) z → IsNotPast number z) (numbered_from n front)
            (all_in (λ (z : Entry O R). IsOwn (stamped here stamp) z → IsNotPast number z) (numbered_from n front)
            (λ z has other.
            let was = numbered_was n front z has in
            let old = not_past was.entry was.has
            (record { caller = sym (ap (λ (g : Entry O R). g.caller) was.same) ∙ other.caller; object = sym (ap (λ (g : Entry O R). g.object) was.same) ∙ other.object }) in
            subst (λ (g : Entry O R). IsNotPast number g) (sym was.same) (record { incarnation = old.incarnation; carried_out = old.carried_out })));
        later = All-from_recursion (λ (z : Entry O R). IsOwn (stamped here stamp) z → number ≤ z.incarnation + 1) (numbered_from next back)
            (all_in (λ (z : Entry O R). IsOwn (stamped here stamp) z → number ≤ z.incarnation + 1) (numbered_from next back)
            (λ z has other.
            let was = numbered_was next back z has in
            let old = not_below was.entry was.has
            (record { caller = sym (ap (λ (g : Entry O R). g.caller) was.same) ∙ other.caller; object = sym (ap (λ (g : Entry O R). g.object) was.same) ∙ other.object }) in
            subst (λ (g : Entry O R). number ≤ g.incarnation + 1) (sym was.same) old));
      }

    -- where no swap is under way, the rival's swap is settled
    settled : IsAtRest s → (number : ℕ) → here.answer ≡ Busy number → IsSettled s here.caller here.object number
    settled none number busy =
        ⊎_elim (λ is. is)
        (λ (is : IsUnderWay s here.caller here.object number).
        let refused = none is.rival here.object is.there is.named in
        let granted = is.granted in
        absurd (cc))
        ((own.each here own_list).rival number busy)

    rival_stands : (number n stamp next : ℕ) → IsSettled s here.caller here.object number
        → Any (IsRival (stamped here stamp) number) (numbered_from n front ++ numbered_from next back)
    rival_stands number n stamp next settles =
        let other : settles.entry.caller ≢ here.caller = λ same. settles.other (sym (caller_is settles.rival settles.entry settles.drawn) ∙ same) in
        let has : In settles.entry (front ++ here ∷ back) = subst (λ es. In settles.entry es) cut (into_trace settles.rival settles.entry settles.drawn) in
        let at_stamp : (m : ℕ) → IsRival (stamped here stamp) number (stamped settles.entry m) = λ m. record {
          caller = other;
          object = settles.object;
          settles = settles.settles;
        } in
        ⊎_elim {C = Any (IsRival (stamped here stamp) number) (numbered_from n front ++ numbered_from next back)}
        (λ (early : In settles.entry front).
        let found = numbered_has n front settles.entry early in
        any_in (IsRival (stamped here stamp) number) (numbered_from n front ++ numbered_from next back) (stamped settles.entry found.0)
        (in_left (stamped settles.entry found.0) (numbered_from n front) (numbered_from next back) found.1) (at_stamp found.0))
        (λ (late : In settles.entry (here ∷ back)).
        ⊎_elim {C = Any (IsRival (stamped here stamp) number) (numbered_from n front ++ numbered_from next back)}
        (λ (same : settles.entry ≡ here). absurd (other (ap (λ (g : Entry O R). g.caller) same)))
        (λ (later : In settles.entry back).
        let found = numbered_has next back settles.entry later in
        any_in (IsRival (stamped here stamp) number) (numbered_from n front ++ numbered_from next back) (stamped settles.entry found.0)
        (in_right (stamped settles.entry found.0) (numbered_from n front) (numbered_from next back) found.1) (at_stamp found.0))
        late)
        (in-append settles.entry front (here ∷ back) has)

    held_up_here : IsAtRest s → (n stamp next : ℕ) → IsLegallyHeldUp (numbered_from n front) (stamped here stamp) (numbered_from next back)
    held_up_here none n stamp next = (
      (λ number busy. record {
        timely = numbered_timely number (λ before after split. (own.timely before here after split).0 number busy) n stamp next;
        rival = rival_stands number n stamp next (settled none number busy);
      }),
      (λ number abandoned. numbered_timely number (λ before after split. (own.timely before here after split).1 number abandoned) n stamp next),
    )

  -- each refusal and each abandoned swap of the numbered trace
  pub held_up_legal : IsAtRest s → AtEachPlace IsLegallyHeldUp (numbered_from 1 trace)
  held_up_legal none before e after split =
      let at = numbered_cut 1 trace before e after split in
      subst (λ es. IsLegallyHeldUp es e after) (sym at.before_is)
      (subst (λ (f : Entry O R). IsLegallyHeldUp (numbered_from 1 at.front) f after) (sym at.here_is)
      (subst (λ es. IsLegallyHeldUp (numbered_from 1 at.front) (stamped at.here at.stamp) es) (sym at.after_is)
      (held_up_here at.front at.here at.back at.cut none 1 at.stamp at.next)))
