-- The steps of a swap at which nobody is held back: it begins, interposes, unblocks, opens and ends.
use Rattle.std.proofs.Common.{◌≡◌, ℕ, ◌+◌, ◌<◌, ◌≤◌, ◌≢◌, ◌∙◌, Bool, true, false, not, cond, ltb, eqb, List, Option, Some, None, length, set, length-set, sym, refl, ap, inl, inr, ⊎_elim, arith}
use Rattle.std.specs.List.{slice_get}
use Rattle.std.specs.Bool.{MatchBool}
use Rattle.std.specs.Option.{is_some}
use Rattle.std.proofs.lemmas.Option.{same_Some, slice_get_within}
use Rattle.std.proofs.lemmas.Bool.{le-ltb, lt-ltb, ltb-true, ltb-false, eqb-true, eqb-false, or_cases, or_parts}
use Rattle.std.proofs.lemmas.Bool.Decides.{nat_tests}
use Rattle.gen_core.specs.declared.state.GraceAt.TheVariants as graces
use Rattle.gen_core.specs.Plain.{Caller}
use Rattle.k42_places.specs.Places.{EachPlace}
use Rattle.k42_places.proofs.EachPlaces.{EachPlace-set, EachPlace-set_else, EachPlace-then}
use Rattle.k42_shapes.specs.declared.shape.Shape.{Shape}
use Rattle.phase_core.specs.declared.object.LocalEntry.{LocalEntry}
use Rattle.phase_core.specs.declared.caller.SwapAt.{SwapAt}
use Rattle.phase_core.specs.declared.caller.SwapAt.TheVariants.{Idle, Refused, Begun, Interposing, Interposed, Drained, Moved, Opening, Reopening, Opened}
use Rattle.k42_limits.specs.declared.TheConstants.{LAST_INCARNATION}
use Rattle.phase_core.specs.Callers.{GraceFits, IsVisitor}
use Rattle.phase_core.specs.Effects.{at_stage, is_over, begun_as, after_interpose, after_open, after_reopen, unblocked, cleared}
use Rattle.phase_core.specs.Objects.{bits_of, AreClear, IsLive, BitsFollow, IsMediator, IsOpen, IsEntry, NoneBelow, StageNoted, IsWithin, IsObject}
use Rattle.phase_core.specs.Outlooks.{Outlook, Scene, is_draining, is_closed, has_moved}
use Rattle.phase_core.specs.Plain.{Object, Visitor, Phases}
use Rattle.phase_core.specs.Sound.{IsInScene}
use Rattle.phase_core.specs.Stages.{named_by}
use Rattle.phase_core.specs.State.{empty_entry, mediator_entry, put_object, put_visitor, put_entry}
use Rattle.phase_core.proofs.Looks.{looking, keeps_look}
use Rattle.phase_core.proofs.Swappers.{next_look, Carries-open, IsFreeing-next, IsSwap-other, IsSwap-ended, keeps_stage, owns, at_rest, alone, elsewhere}

-- an object whose swap goes on, at a stage at which nobody is held back
pub IsObject-stage : (procs callers : ℕ) (look : Outlook) (c o : ℕ) (k l : Object) (stage : SwapAt)
    → c < callers → named_by stage ≡ Some o → l.swap ≡ true
    → l.incarnation ≡ k.incarnation → l.freed ≡ k.freed → l.shapes ≡ k.shapes → l.layout ≡ k.layout
    → BitsFollow (bits_of l) l.shapes l.layout l.incarnation stage
    → IsWithin procs stage → length l.entries ≡ procs → EachPlace (IsEntry stage look.incarnation l.shapes l.layout) l.entries
    → NoneBelow look.freed l.entries → ((n : ℕ) → look.noted ≡ Some n → NoneBelow n l.entries)
    → StageNoted look.noted look.incarnation look.settled stage
    → IsObject procs callers look o k
    → IsObject procs callers (next_look look (Some c) stage look.incarnation look.settled) o l
IsObject-stage procs callers look c o k l stage there named swap same freed shapes layout follow within many each none noted notes old = record {
  bits_follow = record {
    incarnation = same ∙ old.bits_follow.incarnation;
    freed = freed ∙ old.bits_follow.freed;
    swap = swap;
    named = named;
    swapper_there = λ d e. rw (← (same_Some c d e)) there;
    bits = follow;
    last = rw same old.bits_follow.last;
    layout = rw (shapes, layout) old.bits_follow.layout;
    few = rw shapes old.bits_follow.few;
  };
  within = within;
  many_entries = many;
  entries_follow = each;
  freed_rows = record {
    freed = old.freed_rows.freed;
    freed_entries = none;
    noted = old.freed_rows.noted;
    noted_entries = noted;
    settled = old.freed_rows.settled;
    stage = notes;
  };
}

-- the entries as one more becomes a mediator, or is opened

module _ (incarnation : ℕ) (shapes : List Shape) (layout p n : ℕ) (entries : List LocalEntry) (many : length entries ≡ n) where
  module _ (e' : LocalEntry) (is : IsMediator incarnation 0 e')
      (old : EachPlace (λ q e. MatchBool (ltb q p) (IsMediator incarnation 0 e) (IsOpen incarnation shapes layout q e)) entries) where
    pub interposed_more : EachPlace (λ q e. MatchBool (ltb q (p + 1)) (IsMediator incarnation 0 e) (IsOpen incarnation shapes layout q e)) (set entries p e')
    interposed_more =
        EachPlace-set_else (λ q e. MatchBool (ltb q p) (IsMediator incarnation 0 e) (IsOpen incarnation shapes layout q e))
        (λ q e. MatchBool (ltb q (p + 1)) (IsMediator incarnation 0 e) (IsOpen incarnation shapes layout q e)) entries p e' old
        (rw (lt-ltb p (p + 1) (omega arith)) is)
        (λ q e other at_q was. rw (next_test q other) was)
      where
        next_test : (q : ℕ) → q ≢ p → ltb q (p + 1) ≡ ltb q p
        next_test q other = grind (arith, nat_tests)

    pub interposed_all : ltb (p + 1) n ≡ false → EachPlace (λ q e. IsMediator incarnation 0 e) (set entries p e')
    interposed_all last =
        EachPlace-set_else (λ q e. MatchBool (ltb q p) (IsMediator incarnation 0 e) (IsOpen incarnation shapes layout q e))
        (λ q e. IsMediator incarnation 0 e) entries p e' old is
        (λ q e other at_q was.
        let lt : q < n = rw (← many) (slice_get_within entries q e at_q) in
        let end = ltb-false (p + 1) n last in
        rw (lt-ltb q p (omega arith)) at was)

  module _ (less : ℕ) (e' : LocalEntry) (is : IsOpen incarnation shapes layout p e')
      (old : EachPlace (λ q e. MatchBool (not (ltb q p)) (IsMediator incarnation less e) (IsOpen incarnation shapes layout q e)) entries) where
    pub opened_more : EachPlace (λ q e. MatchBool (not (ltb q (p + 1))) (IsMediator incarnation less e) (IsOpen incarnation shapes layout q e)) (set entries p e')
    opened_more =
        EachPlace-set_else (λ q e. MatchBool (not (ltb q p)) (IsMediator incarnation less e) (IsOpen incarnation shapes layout q e))
        (λ q e. MatchBool (not (ltb q (p + 1))) (IsMediator incarnation less e) (IsOpen incarnation shapes layout q e)) entries p e' old
        (rw (lt-ltb p (p + 1) (omega arith)) is)
        (λ q e other at_q was. rw (next_test q other) was)
      where
        next_test : (q : ℕ) → q ≢ p → ltb q (p + 1) ≡ ltb q p
        next_test q other = grind (arith, nat_tests)

    pub opened_all : ltb (p + 1) n ≡ false → EachPlace (IsOpen incarnation shapes layout) (set entries p e')
    opened_all last =
        EachPlace-set_else (λ q e. MatchBool (not (ltb q p)) (IsMediator incarnation less e) (IsOpen incarnation shapes layout q e))
        (IsOpen incarnation shapes layout) entries p e' old is
        (λ q e other at_q was.
        let lt : q < n = rw (← many) (slice_get_within entries q e at_q) in
        let end = ltb-false (p + 1) n last in
        rw (lt-ltb q p (omega arith)) at was)

module _ (scene : Scene) (s : Phases) (h : IsInScene scene s) (c : ℕ) (g : Caller) (x : Visitor)
    (at_g : slice_get s.turns.callers c ≡ Some g) (at_x : slice_get s.callers c ≡ Some x)
    (o : ℕ) (k : Object) (at_o : slice_get s.objects o ≡ Some k) where
  known : IsVisitor scene c g x
  known = h.visitors c g x at_g at_x

  object : IsObject scene.course.procs scene.course.callers (scene.looks o) o k
  object = h.objects o k at_o

  mine : c < scene.course.callers
  mine = rw (← h.many_callers) (slice_get_within s.callers c x at_x)

  -- no entry falls below what was freed or noted
  none_freed : (p : ℕ) (e : LocalEntry) → e.incarnation ≡ k.incarnation → NoneBelow (scene.looks o).freed (set k.entries p e)
  none_freed p e same =
      let most = object.freed_rows.freed in
      EachPlace-set (λ q f. (scene.looks o).freed ≤ f.incarnation) k.entries p e object.freed_rows.freed_entries
      (omega (arith, most, same, object.bits_follow.incarnation))

  none_noted : (p : ℕ) (e : LocalEntry) → e.incarnation ≡ k.incarnation
      → (n : ℕ) → (scene.looks o).noted ≡ Some n → NoneBelow n (set k.entries p e)
  none_noted p e same n note =
      let most = object.freed_rows.noted n note in
      EachPlace-set (λ q f. n ≤ f.incarnation) k.entries p e (object.freed_rows.noted_entries n note)
      (omega (arith, most, same, object.bits_follow.incarnation))

  -- a step of the swap at whose stages nobody is held back
  keeps_step : (swap stage : SwapAt) (l : Object) → x.swap ≡ swap → named_by swap ≡ Some o → named_by stage ≡ Some o
      → GraceFits stage g.grace → ((q : ℕ) → stage ≡ Drained q → ⊥)
      → is_draining stage ≡ false → is_closed stage ≡ false → has_moved stage ≡ false
      → (k.swap ≡ true → IsObject scene.course.procs scene.course.callers (next_look (scene.looks o) (Some c) stage (scene.looks o).incarnation (scene.looks o).settled) o l)
      → l.count ≡ k.count
      → IsInScene (looking scene o (next_look (scene.looks o) (Some c) stage (scene.looks o).incarnation (scene.looks o).settled))
      (put_object (put_visitor s c (at_stage x stage)) o l)
  keeps_step swap stage l at_swap named named' fits undrained' undrained unclosed unmoved is same =
      let owned = owns scene s h c g x at_g at_x o k at_o swap at_swap named in
      keeps_stage scene s h c g x at_g at_x o k at_o stage (scene.looks o).incarnation (scene.looks o).settled l
      (alone scene s h c g x at_g at_x o k at_o swap at_swap named)
      (elsewhere scene s h c g x at_g at_x o k at_o swap at_swap named)
      named' (at_rest scene s h c g x at_g at_x o k at_o swap at_swap named) fits undrained' (λ e. e)
      (is (object.bits_follow.swap ∙ ap is_some owned.0)) same
      (Carries-open scene.course s.turns.callers s.callers o (scene.looks o) (Some c) stage (scene.looks o).settled undrained unclosed unmoved)

  stage_of : (swap : SwapAt) → x.swap ≡ swap → named_by swap ≡ Some o → (scene.looks o).stage ≡ swap
  stage_of swap at_swap named = (owns scene s h c g x at_g at_x o k at_o swap at_swap named).1

  pub keeps_unblocked : x.swap ≡ Moved o
      → IsInScene (looking scene o (next_look (scene.looks o) (Some c) (Reopening o 0) (scene.looks o).incarnation (scene.looks o).settled))
      (put_object (put_visitor s c (at_stage x (Reopening o 0))) o (unblocked k))
  keeps_unblocked at_swap =
      let stage = stage_of (Moved o) at_swap refl in
      let bits = rw stage at object.bits_follow.bits in
      keeps_step (Moved o) (Reopening o 0) (unblocked k) at_swap refl refl (rw at_swap at known.swap_alone.grace) (λ q e. cc) refl refl refl
      (λ swaps. IsObject-stage scene.course.procs scene.course.callers (scene.looks o) c o k (unblocked k) (Reopening o 0) mine refl swaps refl refl refl refl
      (refl, refl, bits.0.2) h.in_course.limits.some_procs object.many_entries
      (EachPlace-then (IsEntry (Moved o) (scene.looks o).incarnation k.shapes k.layout) (IsEntry (Reopening o 0) (scene.looks o).incarnation k.shapes k.layout) k.entries
      (rw stage at object.entries_follow) (λ p e at_p old. rw (le-ltb p 0 (omega arith)) old))
      object.freed_rows.freed_entries object.freed_rows.noted_entries tt object)
      refl

  -- one more entry leads to the mediator
  interposed_by : (swap : SwapAt) (p : ℕ) → x.swap ≡ swap → named_by swap ≡ Some o → g.grace ≡ graces.Idle
      → AreClear (bits_of k) × IsLive k.shapes k.layout k.incarnation
      → EachPlace (λ q e. MatchBool (ltb q p) (IsMediator (scene.looks o).incarnation 0 e) (IsOpen (scene.looks o).incarnation k.shapes k.layout q e)) k.entries
      → (b : Bool) → ltb (p + 1) scene.course.procs ≡ b
      → IsInScene (looking scene o (next_look (scene.looks o) (Some c) (cond b (Interposing o (p + 1)) (Interposed o)) (scene.looks o).incarnation (scene.looks o).settled))
      (put_object (put_visitor s c (at_stage x (cond b (Interposing o (p + 1)) (Interposed o)))) o (put_entry k p (mediator_entry k.incarnation)))
  interposed_by swap p at_swap named idle bits each true more =
      let e : LocalEntry = mediator_entry k.incarnation in
      keeps_step swap (Interposing o (p + 1)) (put_entry k p e) at_swap named refl idle (λ q e. cc) refl refl refl
      (λ swaps. IsObject-stage scene.course.procs scene.course.callers (scene.looks o) c o k (put_entry k p e) (Interposing o (p + 1)) mine refl swaps refl refl refl refl
      bits (ltb-true (p + 1) scene.course.procs more) (length-set k.entries p e ∙ object.many_entries)
      (interposed_more (scene.looks o).incarnation k.shapes k.layout p scene.course.procs k.entries object.many_entries e
      (record { tag = refl; blank = (refl, refl); number = omega (arith, object.bits_follow.incarnation) }) each)
      (none_freed p e refl) (none_noted p e refl) tt object)
      refl
  interposed_by swap p at_swap named idle bits each false last =
      let e : LocalEntry = mediator_entry k.incarnation in
      keeps_step swap (Interposed o) (put_entry k p e) at_swap named refl idle (λ q e. cc) refl refl refl
      (λ swaps. IsObject-stage scene.course.procs scene.course.callers (scene.looks o) c o k (put_entry k p e) (Interposed o) mine refl swaps refl refl refl refl
      bits tt (length-set k.entries p e ∙ object.many_entries)
      (interposed_all (scene.looks o).incarnation k.shapes k.layout p scene.course.procs k.entries object.many_entries e
      (record { tag = refl; blank = (refl, refl); number = omega (arith, object.bits_follow.incarnation) }) each last)
      (none_freed p e refl) (none_noted p e refl) tt object)
      refl

  procs_there : scene.course.procs ≡ length s.turns.procs
  procs_there = sym h.in_course.many_procs

  pub keeps_interposed_first : x.swap ≡ Begun o
      → IsInScene (looking scene o (next_look (scene.looks o) (Some c) (after_interpose o 0 (length s.turns.procs)) (scene.looks o).incarnation (scene.looks o).settled))
      (put_object (put_visitor s c (at_stage x (after_interpose o 0 (length s.turns.procs)))) o (put_entry k 0 (mediator_entry k.incarnation)))
  keeps_interposed_first at_swap =
      let stage = stage_of (Begun o) at_swap refl in
      rw h.in_course.many_procs
      (interposed_by (Begun o) 0 at_swap refl (rw at_swap at known.swap_alone.grace) (rw stage at object.bits_follow.bits)
      (EachPlace-then (IsEntry (Begun o) (scene.looks o).incarnation k.shapes k.layout) (λ q e. MatchBool (ltb q 0) (IsMediator (scene.looks o).incarnation 0 e) (IsOpen (scene.looks o).incarnation k.shapes k.layout q e)) k.entries
      (rw stage at object.entries_follow) (λ q e at_q old. rw (le-ltb q 0 (omega arith)) old))
      (ltb (0 + 1) scene.course.procs) refl)

  pub keeps_interposed : (p : ℕ) → x.swap ≡ Interposing o p
      → IsInScene (looking scene o (next_look (scene.looks o) (Some c) (after_interpose o p (length s.turns.procs)) (scene.looks o).incarnation (scene.looks o).settled))
      (put_object (put_visitor s c (at_stage x (after_interpose o p (length s.turns.procs)))) o (put_entry k p (mediator_entry k.incarnation)))
  keeps_interposed p at_swap =
      let stage = stage_of (Interposing o p) at_swap refl in
      rw h.in_course.many_procs
      (interposed_by (Interposing o p) p at_swap refl (rw at_swap at known.swap_alone.grace) (rw stage at object.bits_follow.bits)
      (rw stage at object.entries_follow) (ltb (p + 1) scene.course.procs) refl)

  opened_entry : (p : ℕ) → IsOpen (scene.looks o).incarnation k.shapes k.layout p (empty_entry k.incarnation)
  opened_entry p = record { tagged = inl (refl, refl, refl); number = object.bits_follow.incarnation }

  opened_by : (p : ℕ) → x.swap ≡ Opening o p → (b : Bool) → ltb (p + 1) scene.course.procs ≡ b
      → IsInScene (looking scene o (next_look (scene.looks o) (Some c) (cond b (Opening o (p + 1)) (Opened o)) (scene.looks o).incarnation (scene.looks o).settled))
      (put_object (put_visitor s c (at_stage x (cond b (Opening o (p + 1)) (Opened o)))) o (put_entry k p (empty_entry k.incarnation)))
  opened_by p at_swap true more =
      let e : LocalEntry = empty_entry k.incarnation in
      let stage = stage_of (Opening o p) at_swap refl in
      keeps_step (Opening o p) (Opening o (p + 1)) (put_entry k p e) at_swap refl refl (rw at_swap at known.swap_alone.grace) (λ q e. cc) refl refl refl
      (λ swaps. IsObject-stage scene.course.procs scene.course.callers (scene.looks o) c o k (put_entry k p e) (Opening o (p + 1)) mine refl swaps refl refl refl refl
      (rw stage at object.bits_follow.bits) (ltb-true (p + 1) scene.course.procs more) (length-set k.entries p e ∙ object.many_entries)
      (opened_more (scene.looks o).incarnation k.shapes k.layout p scene.course.procs k.entries object.many_entries 1 e (opened_entry p) (rw stage at object.entries_follow))
      (none_freed p e refl) (none_noted p e refl) tt object)
      refl
  opened_by p at_swap false last =
      let e : LocalEntry = empty_entry k.incarnation in
      let stage = stage_of (Opening o p) at_swap refl in
      keeps_step (Opening o p) (Opened o) (put_entry k p e) at_swap refl refl (rw at_swap at known.swap_alone.grace) (λ q e. cc) refl refl refl
      (λ swaps. IsObject-stage scene.course.procs scene.course.callers (scene.looks o) c o k (put_entry k p e) (Opened o) mine refl swaps refl refl refl refl
      (inr (rw stage at object.bits_follow.bits)) tt (length-set k.entries p e ∙ object.many_entries)
      (opened_all (scene.looks o).incarnation k.shapes k.layout p scene.course.procs k.entries object.many_entries 1 e (opened_entry p) (rw stage at object.entries_follow) last)
      (none_freed p e refl) (none_noted p e refl) tt object)
      refl

  reopened_by : (p : ℕ) → x.swap ≡ Reopening o p → (b : Bool) → ltb (p + 1) scene.course.procs ≡ b
      → IsInScene (looking scene o (next_look (scene.looks o) (Some c) (cond b (Reopening o (p + 1)) (Opened o)) (scene.looks o).incarnation (scene.looks o).settled))
      (put_object (put_visitor s c (at_stage x (cond b (Reopening o (p + 1)) (Opened o)))) o (put_entry k p (empty_entry k.incarnation)))
  reopened_by p at_swap true more =
      let e : LocalEntry = empty_entry k.incarnation in
      let stage = stage_of (Reopening o p) at_swap refl in
      keeps_step (Reopening o p) (Reopening o (p + 1)) (put_entry k p e) at_swap refl refl (rw at_swap at known.swap_alone.grace) (λ q e. cc) refl refl refl
      (λ swaps. IsObject-stage scene.course.procs scene.course.callers (scene.looks o) c o k (put_entry k p e) (Reopening o (p + 1)) mine refl swaps refl refl refl refl
      (rw stage at object.bits_follow.bits) (ltb-true (p + 1) scene.course.procs more) (length-set k.entries p e ∙ object.many_entries)
      (opened_more (scene.looks o).incarnation k.shapes k.layout p scene.course.procs k.entries object.many_entries 0 e (opened_entry p) (rw stage at object.entries_follow))
      (none_freed p e refl) (none_noted p e refl) tt object)
      refl
  reopened_by p at_swap false last =
      let e : LocalEntry = empty_entry k.incarnation in
      let stage = stage_of (Reopening o p) at_swap refl in
      keeps_step (Reopening o p) (Opened o) (put_entry k p e) at_swap refl refl (rw at_swap at known.swap_alone.grace) (λ q e. cc) refl refl refl
      (λ swaps. IsObject-stage scene.course.procs scene.course.callers (scene.looks o) c o k (put_entry k p e) (Opened o) mine refl swaps refl refl refl refl
      (inl (rw stage at object.bits_follow.bits)) tt (length-set k.entries p e ∙ object.many_entries)
      (opened_all (scene.looks o).incarnation k.shapes k.layout p scene.course.procs k.entries object.many_entries 0 e (opened_entry p) (rw stage at object.entries_follow) last)
      (none_freed p e refl) (none_noted p e refl) tt object)
      refl

  pub keeps_opened : (p : ℕ) → x.swap ≡ Opening o p
      → IsInScene (looking scene o (next_look (scene.looks o) (Some c) (after_open o p (length s.turns.procs)) (scene.looks o).incarnation (scene.looks o).settled))
      (put_object (put_visitor s c (at_stage x (after_open o p (length s.turns.procs)))) o (put_entry k p (empty_entry k.incarnation)))
  keeps_opened p at_swap = rw h.in_course.many_procs (opened_by p at_swap (ltb (p + 1) scene.course.procs) refl)

  pub keeps_reopened : (p : ℕ) → x.swap ≡ Reopening o p
      → IsInScene (looking scene o (next_look (scene.looks o) (Some c) (after_reopen o p (length s.turns.procs)) (scene.looks o).incarnation (scene.looks o).settled))
      (put_object (put_visitor s c (at_stage x (after_reopen o p (length s.turns.procs)))) o (put_entry k p (empty_entry k.incarnation)))
  keeps_reopened p at_swap = rw h.in_course.many_procs (reopened_by p at_swap (ltb (p + 1) scene.course.procs) refl)

  -- the swap begins
  pub keeps_begun : x.swap ≡ Idle → g.active ≡ None → g.grace ≡ graces.Idle → k.swap ≡ false
      → IsInScene (looking scene o (next_look (scene.looks o) (Some c) (begun_as o (is_over k)) (scene.looks o).incarnation (scene.looks o).settled))
      (put_object (put_visitor s c (at_stage x (begun_as o (is_over k)))) o (record k { swap = true }))
  keeps_begun at_swap inactive idle unswapped = by_over (is_over k) refl where
    nobody : (scene.looks o).swapper ≡ None
    nobody = by_swapper (scene.looks o).swapper (sym object.bits_follow.swap ∙ unswapped) where
      by_swapper : (swapper : Option ℕ) → is_some swapper ≡ false → swapper ≡ None
      by_swapper None e = refl
      by_swapper (Some d) e = absurd (cc)

    at_stage_idle : (scene.looks o).stage ≡ Idle
    at_stage_idle = rw nobody at object.bits_follow.named

    others : (d : ℕ) → d ≢ c → (scene.looks o).swapper ≡ Some d → ⊥
    others d other e = let none = nobody in absurd (cc)

    nowhere : (q : ℕ) → q ≢ o → named_by x.swap ≡ Some q → ⊥
    nowhere q other e = let none : named_by Idle ≡ Some q = rw at_swap at e in absurd (cc)

    by_over : (b : Bool) → is_over k ≡ b
        → IsInScene (looking scene o (next_look (scene.looks o) (Some c) (begun_as o b) (scene.looks o).incarnation (scene.looks o).settled))
        (put_object (put_visitor s c (at_stage x (begun_as o b))) o (record k { swap = true }))
    by_over true over =
        let bits = rw at_stage_idle at object.bits_follow.bits in
        keeps_stage scene s h c g x at_g at_x o k at_o (Refused o) (scene.looks o).incarnation (scene.looks o).settled (record k { swap = true })
        others nowhere refl inactive idle (λ q e. cc) (λ e. e)
        (IsObject-stage scene.course.procs scene.course.callers (scene.looks o) c o k (record k { swap = true }) (Refused o) mine refl refl refl refl refl refl
        (bits, ⊎_elim (λ dead. inl (eqb-true k.layout (length k.shapes) dead)) (λ last. inr (eqb-true k.incarnation LAST_INCARNATION last)) (or_cases (eqb k.layout (length k.shapes)) (eqb k.incarnation LAST_INCARNATION) over))
        tt object.many_entries (rw at_stage_idle at object.entries_follow) object.freed_rows.freed_entries object.freed_rows.noted_entries tt object)
        refl
        (Carries-open scene.course s.turns.callers s.callers o (scene.looks o) (Some c) (Refused o) (scene.looks o).settled refl refl refl)
    by_over false live =
        let bits = rw at_stage_idle at object.bits_follow.bits in
        let parts = or_parts (eqb k.layout (length k.shapes)) (eqb k.incarnation LAST_INCARNATION) live in
        let undead : k.layout ≢ length k.shapes = eqb-false k.layout (length k.shapes) parts.0 in
        let unspent : k.incarnation ≢ LAST_INCARNATION = eqb-false k.incarnation LAST_INCARNATION parts.1 in
        let most = object.bits_follow.layout in
        let last = object.bits_follow.last in
        keeps_stage scene s h c g x at_g at_x o k at_o (Begun o) (scene.looks o).incarnation (scene.looks o).settled (record k { swap = true })
        others nowhere refl inactive idle (λ q e. cc) (λ e. e)
        (IsObject-stage scene.course.procs scene.course.callers (scene.looks o) c o k (record k { swap = true }) (Begun o) mine refl refl refl refl refl refl
        (bits, (omega arith, omega arith))
        tt object.many_entries (rw at_stage_idle at object.entries_follow) object.freed_rows.freed_entries object.freed_rows.noted_entries tt object)
        refl
        (Carries-open scene.course s.turns.callers s.callers o (scene.looks o) (Some c) (Begun o) (scene.looks o).settled refl refl refl)

  -- the swap ends
  cleared_at : (swap : SwapAt) → x.swap ≡ swap → named_by swap ≡ Some o
      → (k.block ≡ false) × (k.moving ≡ false)
      → EachPlace (IsEntry Idle (scene.looks o).incarnation k.shapes k.layout) k.entries
      → IsInScene (looking scene o (next_look (scene.looks o) None Idle (scene.looks o).incarnation (scene.looks o).settled))
      (put_object (put_visitor s c (at_stage x Idle)) o (cleared k))
  cleared_at swap at_swap named bits each =
      keeps_look scene s h c g x at_g at_x o k at_o (next_look (scene.looks o) None Idle (scene.looks o).incarnation (scene.looks o).settled)
      x.noted x.freeing Idle (cleared k)
      (record {
        bits_follow = record {
          incarnation = object.bits_follow.incarnation;
          freed = object.bits_follow.freed;
          swap = refl;
          named = refl;
          swapper_there = λ d e. absurd (cc);
          bits = (bits.0, bits.1, refl);
          last = object.bits_follow.last;
          layout = object.bits_follow.layout;
          few = object.bits_follow.few;
        };
        within = tt;
        many_entries = object.many_entries;
        entries_follow = each;
        freed_rows = record {
          freed = object.freed_rows.freed;
          freed_entries = object.freed_rows.freed_entries;
          noted = object.freed_rows.noted;
          noted_entries = object.freed_rows.noted_entries;
          settled = object.freed_rows.settled;
          stage = tt;
        };
      })
      refl
      (Carries-open scene.course s.turns.callers s.callers o (scene.looks o) None Idle (scene.looks o).settled refl refl refl)
      (IsSwap-ended scene c o g x.swap known.swap_alone.owner (elsewhere scene s h c g x at_g at_x o k at_o swap at_swap named)
      (scene.looks o).incarnation (scene.looks o).settled)
      (let own = IsFreeing-next scene o None Idle (scene.looks o).incarnation (scene.looks o).settled (λ e. e) c x known.frees_alone in
      record { many_noted = own.many_noted; many_freeing = own.many_freeing; noted = own.noted; freeing = own.freeing })
      (λ d g' y other old. IsSwap-other scene o None Idle (scene.looks o).incarnation (scene.looks o).settled d g' y.swap
      (alone scene s h c g x at_g at_x o k at_o swap at_swap named d other) (λ e. cc) old)
      (λ d y other old. IsFreeing-next scene o None Idle (scene.looks o).incarnation (scene.looks o).settled (λ e. e) d y old)

  pub keeps_refused : x.swap ≡ Refused o
      → IsInScene (looking scene o (next_look (scene.looks o) None Idle (scene.looks o).incarnation (scene.looks o).settled))
      (put_object (put_visitor s c (at_stage x Idle)) o (cleared k))
  keeps_refused at_swap =
      let stage = stage_of (Refused o) at_swap refl in
      let bits = rw stage at object.bits_follow.bits in
      cleared_at (Refused o) at_swap refl (bits.0.0, bits.0.1) (rw stage at object.entries_follow)

  pub keeps_ended : x.swap ≡ Opened o
      → IsInScene (looking scene o (next_look (scene.looks o) None Idle (scene.looks o).incarnation (scene.looks o).settled))
      (put_object (put_visitor s c (at_stage x Idle)) o (cleared k))
  keeps_ended at_swap =
      let stage = stage_of (Opened o) at_swap refl in
      cleared_at (Opened o) at_swap refl
      (⊎_elim (λ clear. (clear.0, clear.1)) (λ complete. (complete.0.0, complete.0.1)) (rw stage at object.bits_follow.bits))
      (rw stage at object.entries_follow)
