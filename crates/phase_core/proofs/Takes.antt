-- A caller that takes the role with notes, and one that frees rows, keep every fact.
use Rattle.std.proofs.Common.{◌≡◌, ℕ, ◌<◌, ◌≤◌, ◌≢◌, ◌⊎◌, ◌∙◌, Bool, true, false, List, Option, Some, None, length, set, sym, refl, ap, inl, inr, ⊎_elim, arith}
use Rattle.std.specs.List.{slice_get}
use Rattle.std.specs.Bool.{MatchBool}
use Rattle.std.specs.Option.{is_some}
use Rattle.std.proofs.lemmas.Option.{same_Some, slice_get_within, slice_get-get_or, get_or_from_slice_get}
use Rattle.std.proofs.lemmas.Bool.{and_parts, false≢true, le-ltb, ltb-true, leb-true, eqb-true}
use Rattle.gen_core.specs.declared.event.GenEvent.TheVariants.{TakeRole}
use Rattle.gen_core.specs.declared.state.GraceAt.TheVariants as graces
use Rattle.gen_core.specs.Plain.{Caller, Generations}
use Rattle.gen_core.specs.State.{caller_at}
use Rattle.gen_core.specs.Events as turns
use Rattle.gen_core.specs.Sound.{Course, IsInCourse}
use Rattle.k42_places.proofs.Written.{slice_get-set_here, slice_get-set_else}
use Rattle.gen_core.proofs.Stages.{from_is_idle, from_is_none}
use Rattle.gen_core.proofs.Frames.{steered, holder_from_grace}
use Rattle.gen_core.proofs.Graces.{keeps_taken}
use Rattle.gen_core.proofs.Reached.{holds_from}
use Rattle.k42_shapes.specs.declared.shape.Shape.{Shape}
use Rattle.phase_core.specs.declared.object.LocalEntry.{LocalEntry}
use Rattle.phase_core.specs.declared.caller.SwapAt.{SwapAt}
use Rattle.phase_core.specs.declared.caller.SwapAt.TheVariants.{Idle, Interposed, Draining, Drained, Opening}
use Rattle.phase_core.specs.Callers.{IsOlder, IsSwap, IsVisitor}
use Rattle.phase_core.specs.Effects.{draining_from}
use Rattle.phase_core.specs.Notes.{fits_note, is_note}
use Rattle.phase_core.specs.Objects.{Bits, bits_of, IsNamed, BitsFollow, IsMediator, IsOpen, NoneBelow, StageNoted, IsObject}
use Rattle.phase_core.specs.Outlooks.{Outlook, Scene, behind, is_mediated}
use Rattle.phase_core.specs.Plain.{Object, Visitor, Phases}
use Rattle.phase_core.specs.Sound.{IsInScene, IsSound}
use Rattle.phase_core.specs.Stages.{named_by, may_take}
use Rattle.phase_core.specs.State.{fresh_visitor, fresh_object, object_at, visitor_at, note_at}
use Rattle.phase_core.proofs.Pairs.{put_look, by_object}
use Rattle.phase_core.proofs.Swappers.{next_look, IsSwap-other, IsSwap-own}
use Rattle.phase_core.proofs.Turns.{Follows, keeps_turn}
use Rattle.phase_core.proofs.Graces.{at_g, known}

-- a note of an object is above none of its entries

-- where COMPLETE is set a note is below the incarnation
note_below : (k : Object) (n : ℕ) (complete : Bool) → k.complete ≡ complete → fits_note k n ≡ true
    → (n ≤ k.incarnation) × (complete ≡ true → n < k.incarnation)
note_below k n true e fits =
    let less = ltb-true n k.incarnation (rw e at fits) in (omega (arith, less), λ f. less)
note_below k n false e fits = (leb-true n k.incarnation (rw e at fits), λ f. absurd (cc))

-- mediators are behind only where COMPLETE is set
behind_complete : (b : Bits) (shapes : List Shape) (layout incarnation : ℕ) (stage : SwapAt) → BitsFollow b shapes layout incarnation stage
    → (behind stage ≡ 0) ⊎ ((behind stage ≡ 1) × (b.complete ≡ true))
behind_complete b shapes layout incarnation (Opening o p) bits = inr (refl, bits.0.2)
behind_complete b shapes layout incarnation stage bits = inl refl

note_entries : (procs callers : ℕ) (look : Outlook) (o n : ℕ) (k : Object) → IsObject procs callers look o k
    → fits_note k n ≡ true → (n ≤ look.incarnation) × NoneBelow n k.entries
note_entries procs callers look o n k is fits =
    let below = note_below k n k.complete refl fits in
    let same = is.bits_follow.incarnation in
    let least = below.0 in (
      omega (arith, least, same),
      λ p e at_p. by_test p e (is_mediated look.stage p) (is.entries_follow p e at_p),
    )
  where
    by_test : (p : ℕ) (e : LocalEntry) (b : Bool) → MatchBool b (IsMediator look.incarnation (behind look.stage) e) (IsOpen look.incarnation k.shapes k.layout p e)
        → n ≤ e.incarnation
    by_test p e false m =
        let least = (note_below k n k.complete refl fits).0 in omega (arith, least, m.number, is.bits_follow.incarnation)
    by_test p e true m =
        ⊎_elim
        (λ none. let least = (note_below k n k.complete refl fits).0 in omega (arith, none, least, m.number, is.bits_follow.incarnation))
        (λ one. let less = (note_below k n k.complete refl fits).1 one.1 in let far = one.0 in omega (arith, far, less, m.number, is.bits_follow.incarnation))
        (behind_complete (bits_of k) k.shapes k.layout k.incarnation look.stage is.bits_follow.bits)

-- what is shared once the notes are those of a new holder
abbrev pub noting : (ℕ → Outlook) → List (Option ℕ) → ℕ → Outlook
noting looks notes q = record (looks q) { noted = note_at notes q }

module _ (scene : Scene) (s : Phases) (h : IsInScene scene s) (free : s.turns.role ≡ None) where
  none : scene.course.holder ≡ None
  none = sym h.in_course.role ∙ free

  -- the caller that swaps an object
  swapping : (q : ℕ) (k : Object) → slice_get s.objects q ≡ Some k → ((scene.looks q).stage ≢ Idle)
      → (d : ℕ) × (z : Caller) × (y : Visitor) × (slice_get s.turns.callers d ≡ Some z) × IsVisitor scene d z y
      × (named_by y.swap ≡ Some q) × (y.swap ≡ (scene.looks q).stage)
  swapping q k at_q under_way = by_swapper (scene.looks q).swapper refl (h.objects q k at_q).bits_follow.named where
    by_swapper : (swapper : Option ℕ) → (scene.looks q).swapper ≡ swapper → IsNamed swapper (scene.looks q).stage q
        → (d : ℕ) × (z : Caller) × (y : Visitor) × (slice_get s.turns.callers d ≡ Some z) × IsVisitor scene d z y
        × (named_by y.swap ≡ Some q) × (y.swap ≡ (scene.looks q).stage)
    by_swapper None e named = absurd (under_way named)
    by_swapper (Some d) e named =
        let lt : d < scene.course.callers = (h.objects q k at_q).bits_follow.swapper_there d e in
        let z : Caller = caller_at s.turns d in
        let y : Visitor = visitor_at s d in
        let at_z : slice_get s.turns.callers d ≡ Some z = slice_get-get_or s.turns.callers d _ (rw h.in_course.many_callers lt) in
        let at_y : slice_get s.callers d ≡ Some y = slice_get-get_or s.callers d fresh_visitor (rw h.many_callers lt) in
        let is : IsVisitor scene d z y = h.visitors d z y at_z at_y in
        let owner = is.swap_alone.owner q e in
        (d, z, y, at_z, is, owner, sym (is.swap_alone.owned q owner).1)

  -- where nobody holds the role, no swap drains, and each drained object is settled
  still_noted : (q : ℕ) (k : Object) (noted : Option ℕ) (stage : SwapAt) → slice_get s.objects q ≡ Some k
      → (scene.looks q).stage ≡ stage
      → StageNoted (scene.looks q).noted (scene.looks q).incarnation (scene.looks q).settled stage
      → StageNoted noted (scene.looks q).incarnation (scene.looks q).settled stage
  still_noted q k noted (Draining o) at_q stage fits =
      let by = swapping q k at_q (λ e. cc) in
      let at_swap : by.2.swap ≡ Draining o = by.6 ∙ stage in
      let grace = rw at_swap at by.4.swap_alone.grace in
      let holder : scene.course.holder ≡ Some by.0 =
      holds_from scene.course.holder by.0 (holder_from_grace scene.course s.turns h.in_course by.0 by.1 by.3 grace.0).0 in
      let nobody = none in absurd (cc)
  still_noted q k noted (Drained o) at_q stage fits = by_settled (scene.looks q).settled refl where
    by_settled : (b : Bool) → (scene.looks q).settled ≡ b → MatchBool b (Unit {0}) (noted ≡ Some (scene.looks q).incarnation)
    by_settled true e = tt
    by_settled false e =
        let by = swapping q k at_q (λ e. cc) in
        let at_swap : by.2.swap ≡ Drained o = by.6 ∙ stage in
        let same : q ≡ o = same_Some q o (sym by.5 ∙ ap named_by at_swap) in
        let over = by.4.swap_alone.settled q (at_swap ∙ ap (λ r. Drained r) (sym same)) in
        let busy : by.1.grace ≢ graces.Idle = λ idle. absurd (false≢true (sym e ∙ over ∙ ap turns.is_idle idle)) in
        let holder : scene.course.holder ≡ Some by.0 =
        holds_from scene.course.holder by.0 (holder_from_grace scene.course s.turns h.in_course by.0 by.1 by.3 busy).0 in
        let nobody = none in absurd (cc)
  still_noted q k noted stage' at_q stage fits = fits

  IsObject-noting : (notes : List (Option ℕ))
      → ((q n : ℕ) → q < length s.objects → note_at notes q ≡ Some n → fits_note (object_at s q) n ≡ true)
      → (q : ℕ) (k : Object) → slice_get s.objects q ≡ Some k → IsObject scene.course.procs scene.course.callers (scene.looks q) q k
      → IsObject scene.course.procs scene.course.callers (noting scene.looks notes q) q k
  IsObject-noting notes fit q k at_q old =
      let entries = λ (n : ℕ) (e : note_at notes q ≡ Some n).
      note_entries scene.course.procs scene.course.callers (scene.looks q) q n k old
      (let own : object_at s q ≡ k = get_or_from_slice_get s.objects q k fresh_object at_q in
      rw (← own) (fit q n (slice_get_within s.objects q k at_q) e)) in
      record {
        bits_follow = record {
          incarnation = old.bits_follow.incarnation;
          freed = old.bits_follow.freed;
          swap = old.bits_follow.swap;
          named = old.bits_follow.named;
          swapper_there = old.bits_follow.swapper_there;
          bits = old.bits_follow.bits;
          last = old.bits_follow.last;
          layout = old.bits_follow.layout;
          few = old.bits_follow.few;
        };
        within = old.within;
        many_entries = old.many_entries;
        entries_follow = old.entries_follow;
        freed_rows = record {
          freed = old.freed_rows.freed;
          freed_entries = old.freed_rows.freed_entries;
          noted = λ n e. (entries n e).0;
          noted_entries = λ n e. (entries n e).1;
          settled = old.freed_rows.settled;
          stage = still_noted q k (note_at notes q) (scene.looks q).stage at_q refl old.freed_rows.stage;
        };
      }

  module _ (c : ℕ) (x : Visitor) (there : c < length s.turns.callers) (at_x : slice_get s.callers c ≡ Some x)
      (notes : List (Option ℕ)) (many : length notes ≡ length s.objects)
      (fit : (q n : ℕ) → q < length s.objects → note_at notes q ≡ Some n → fits_note (object_at s q) n ≡ true)
      (possible : turns.is_possible s.turns (TakeRole c) ≡ true) where
    abbrev g : Caller
    g = caller_at s.turns c

    abbrev g' : Caller
    g' = turns.role_taken g

    abbrev course' : Course
    course' = steered scene.course scene.course.base (Some c) g'

    abbrev turns' : Generations
    turns' = turns.taken s.turns c None

    abbrev scene1 : Scene
    scene1 = record { course = course'; objects = scene.objects; looks = noting scene.looks notes }

    own : IsVisitor scene c g x
    own = known scene s h c x there at_x

    inactive : g.active ≡ None
    inactive = from_is_none g.active (and_parts (turns.is_idle g.grace) _ (and_parts _ _ possible).0).1

    idle : g.grace ≡ graces.Idle
    idle = from_is_idle g.grace (and_parts (turns.is_idle g.grace) _ (and_parts _ _ possible).0).0

    kept : IsInCourse course' turns'
    kept = keeps_taken scene.course s.turns h.in_course c g (at_g scene s h c x there at_x) free idle inactive (and_parts _ _ possible).1

    -- no processor is flipped yet
    young : (z : Caller) → IsOlder course' z
    young z flipped = let unflipped = le-ltb z.proc 0 (omega arith) in absurd (cc)

    Follows-noting : (z : Caller) (q : ℕ) → Follows scene.course course' (scene.looks q) (noting scene.looks notes q) z
    Follows-noting z q = record {
      incarnation = refl;
      uncounted = λ old. record { draining = λ drains. young z; not_closed = old.not_closed };
      tracked = λ old. old;
      row = λ i old. record { kept = old.kept; recent = old.recent; present = old.present; older = λ n noted below. young z };
    }

    IsSwap-noting : (d : ℕ) (z : Caller) (swap : SwapAt) → IsSwap scene d z swap → IsSwap scene1 d z swap
    IsSwap-noting d z swap old = record {
      there = old.there;
      owned = old.owned;
      owner = old.owner;
      inactive = old.inactive;
      grace = old.grace;
      settled = old.settled;
    }

    -- whatever becomes of the stages
    taken_as : (looks' : ℕ → Outlook) (swap' : SwapAt) → ((q : ℕ) → (looks' q).noted ≡ note_at notes q)
        → ((q : ℕ) (k : Object) → slice_get s.objects q ≡ Some k → IsObject scene.course.procs scene.course.callers (scene.looks q) q k
        → IsObject scene.course.procs scene.course.callers (looks' q) q k)
        → IsSwap (record { course = course'; objects = scene.objects; looks = looks' }) c g' swap'
        → ((z : Caller) (q : ℕ) → Follows scene.course course' (scene.looks q) (looks' q) z)
        → ((d : ℕ) (z : Caller) (y : Visitor) → d ≢ c → IsSwap scene d z y.swap
        → IsSwap (record { course = course'; objects = scene.objects; looks = looks' }) d z y.swap)
        → IsSound (record s { turns = turns'; callers = set s.callers c (record x { noted = notes; swap = swap' }) })
    taken_as looks' swap' noted each own_swap follows other_swap =
        let rest = own.at_rest inactive in
        record {
          scene = record { course = course'; objects = scene.objects; looks = looks' };
          in_scene = keeps_turn scene s h c g x (at_g scene s h c x there at_x) at_x course' looks' turns' g' (record x { noted = notes; swap = swap' })
              (slice_get-set_here s.turns.callers c g' there)
              (λ i other. slice_get-set_else s.turns.callers c i g' other)
              kept refl refl each rest.0 rest.0 rest.1 own_swap
              (record {
                many_noted = many ∙ h.many_objects;
                many_freeing = own.frees_alone.many_freeing;
                noted = λ holds q. sym (noted q);
                freeing = λ o some. let holder = (own.frees_alone.freeing o some).0 in let nobody = none in absurd (cc);
              })
              (λ d z other at_z generation active. follows z)
              other_swap
              (λ d y other old. record {
                many_noted = old.many_noted;
                many_freeing = old.many_freeing;
                noted = λ holds. absurd (other (same_Some d c (sym holds)));
                freeing = λ o some. let holder = (old.freeing o some).0 in let nobody = none in absurd (cc);
              });
        }

    taken_idle : x.swap ≡ Idle → IsSound (record s { turns = turns'; callers = set s.callers c (record x { noted = notes; swap = Idle }) })
    taken_idle at_swap =
        taken_as (noting scene.looks notes) Idle (λ q. refl) (IsObject-noting notes fit)
        (let old : IsSwap scene c g Idle = rw at_swap at own.swap_alone in
        record { there = old.there; owned = old.owned; owner = old.owner; inactive = λ o e. inactive; grace = tt; settled = λ o e. absurd (cc) })
        (λ z q. Follows-noting z q)
        (λ d z y other old. IsSwap-noting d z y.swap old)

    taken_interposed : (o : ℕ) → x.swap ≡ Interposed o → is_note (note_at notes o) (object_at s o).incarnation ≡ true
        → IsSound (record s { turns = turns'; callers = set s.callers c (record x { noted = notes; swap = Draining o }) })
    taken_interposed o at_swap own_note =
        let named : named_by x.swap ≡ Some o = rw at_swap refl in
        let owned = own.swap_alone.owned o named in
        let stage : (scene.looks o).stage ≡ Interposed o = owned.1 ∙ at_swap in
        let lt : o < scene.objects = own.swap_alone.there o named in
        let at_o = slice_get-get_or s.objects o fresh_object (rw h.many_objects lt) in
        let look : Outlook = next_look (noting scene.looks notes o) (Some c) (Draining o) (scene.looks o).incarnation (scene.looks o).settled in
        taken_as (put_look (noting scene.looks notes) o look) (Draining o)
        (by_object (λ q l. l.noted ≡ note_at notes q) (noting scene.looks notes) o look refl (λ q other. refl))
        (λ q k at_q. by_object (λ r l. slice_get s.objects r ≡ Some k → IsObject scene.course.procs scene.course.callers (scene.looks r) r k → IsObject scene.course.procs scene.course.callers l r k)
        (noting scene.looks notes) o look
        (λ at_o' was. let old = IsObject-noting notes fit o k at_o' was in
        let one : object_at s o ≡ k = same_Some (object_at s o) k (sym at_o ∙ at_o') in
        let own_noted : note_at notes o ≡ Some (object_at s o).incarnation = from_is_note (note_at notes o) (object_at s o).incarnation own_note in
        record {
          bits_follow = record {
            incarnation = old.bits_follow.incarnation;
            freed = old.bits_follow.freed;
            swap = old.bits_follow.swap ∙ ap is_some owned.0;
            named = refl;
            swapper_there = λ d e. rw (← (same_Some c d e), ← h.many_callers) (slice_get_within s.callers c x at_x);
            bits = rw stage at old.bits_follow.bits;
            last = old.bits_follow.last;
            layout = old.bits_follow.layout;
            few = old.bits_follow.few;
          };
          within = tt;
          many_entries = old.many_entries;
          entries_follow = rw stage at old.entries_follow;
          freed_rows = record {
            freed = old.freed_rows.freed;
            freed_entries = old.freed_rows.freed_entries;
            noted = old.freed_rows.noted;
            noted_entries = old.freed_rows.noted_entries;
            settled = old.freed_rows.settled;
            stage = own_noted ∙ ap (λ n. Some n) (ap (λ l. l.incarnation) one ∙ old.bits_follow.incarnation);
          };
        })
        (λ r other at_r was. IsObject-noting notes fit r k at_r was) q at_q)
        (IsSwap-own scene1 c o g' x.swap own.swap_alone.owner (λ q other e. other (same_Some q o (sym e ∙ named)))
        (scene.looks o).incarnation (scene.looks o).settled (Draining o) lt refl inactive ((λ e. cc), (λ e. cc)) (λ q e. absurd (cc)))
        (λ z. by_object (λ q l. Follows scene.course course' (scene.looks q) l z) (noting scene.looks notes) o look
        (record {
          incarnation = refl;
          uncounted = λ old. record { draining = λ drains. young z; not_closed = refl };
          tracked = λ old. refl;
          row = λ i old. record { kept = old.kept; recent = old.recent; present = λ closed. absurd (cc); older = λ n noted below. young z };
        })
        (λ q other. Follows-noting z q))
        (λ d z y other old. IsSwap-other scene1 o (Some c) (Draining o) (scene.looks o).incarnation (scene.looks o).settled d z y.swap
        (λ e. other (same_Some d c (sym e ∙ owned.0))) (λ e. other (same_Some d c (sym e))) (IsSwap-noting d z y.swap old))
      where
        from_is_note : (note : Option ℕ) (n : ℕ) → is_note note n ≡ true → note ≡ Some n
        from_is_note None n e = absurd (cc)
        from_is_note (Some m) n e = ap (λ l. Some l) (eqb-true m n e)

    pub taken_by : (swap : SwapAt) → x.swap ≡ swap → may_take swap ≡ true
        → ((o : ℕ) → swap ≡ Interposed o → is_note (note_at notes o) (object_at s o).incarnation ≡ true)
        → IsSound (record s { turns = turns'; callers = set s.callers c (record x { noted = notes; swap = draining_from swap }) })
    taken_by Idle at_swap may own_note = taken_idle at_swap
    taken_by (Interposed o) at_swap may own_note = taken_interposed o at_swap (own_note o refl)
    taken_by swap at_swap may own_note = absurd (cc)
