-- The caller that swaps an object keeps every fact.
use Rattle.std.proofs.Common.{◌≡◌, ℕ, ◌+◌, ◌<◌, ◌≤◌, ◌≢◌, ◌∙◌, Bool, true, false, List, Option, Some, None, sym, refl, ap, inr, arith, length}
use Rattle.std.specs.List.{slice_get}
use Rattle.std.specs.Option.{is_some}
use Rattle.std.proofs.lemmas.Option.{same_Some, slice_get_within}
use Rattle.std.proofs.lemmas.Bool.{le-ltb, eq-eqb}
use Rattle.gen_core.specs.declared.state.GraceAt.TheVariants as graces
use Rattle.gen_core.specs.Plain.{Caller}
use Rattle.gen_core.specs.Events as turns
use Rattle.gen_core.specs.Sound.{Course}
use Rattle.k42_places.proofs.EachPlaces.{EachPlace-then}
use Rattle.k42_places.proofs.Counts.{count_by_some}
use Rattle.phase_core.specs.declared.caller.Place.TheVariants.{Tracked}
use Rattle.phase_core.specs.declared.caller.SwapAt.{SwapAt}
use Rattle.phase_core.specs.declared.caller.SwapAt.TheVariants.{Idle, Drained, Blocking, Moved, Opening}
use Rattle.phase_core.specs.Callers.{GraceFits, IsSwap, IsFreeing, IsVisitor}
use Rattle.phase_core.specs.Effects.{at_stage, turned_over}
use Rattle.phase_core.specs.Objects.{IsEntry, IsObject, counts_at}
use Rattle.phase_core.specs.Outlooks.{Outlook, Scene, is_draining, is_closed, has_moved}
use Rattle.phase_core.specs.Plain.{Object, Visitor, Phases}
use Rattle.phase_core.specs.Sound.{IsInScene}
use Rattle.phase_core.specs.Stages.{named_by}
use Rattle.phase_core.specs.State.{note_at, span_at, put_object, put_visitor}
use Rattle.phase_core.proofs.Pairs.{by_object}
use Rattle.phase_core.proofs.Looks.{looking, Carries, keeps_look}

-- what is shared of an object once its swap went on
abbrev pub next_look : Outlook → Option ℕ → SwapAt → ℕ → Bool → Outlook
next_look look swapper stage incarnation settled =
    record look { swapper = swapper; stage = stage; incarnation = incarnation; settled = settled }

-- nobody is held back by a stage that is neither draining nor drained
pub Carries-open : (course : Course) (gens : List Caller) (callers : List Visitor) (o : ℕ) (look : Outlook) (swapper : Option ℕ) (stage : SwapAt) (settled : Bool)
    → is_draining stage ≡ false → is_closed stage ≡ false → has_moved stage ≡ false
    → Carries course gens callers o look (next_look look swapper stage look.incarnation settled)
Carries-open course gens callers o look swapper stage settled undrained unclosed unmoved = record {
  uncounted = λ g old. (refl, record { draining = λ drains. absurd (cc); not_closed = unclosed });
  tracked = λ d i y at_y tracked old. (refl, unmoved);
  row = λ d g i at_g old. record { kept = old.kept; recent = old.recent; present = λ closed. absurd (cc); older = old.older };
}

-- the swaps of others, and what all callers free

module _ (scene : Scene) (o : ℕ) (swapper : Option ℕ) (stage : SwapAt) (incarnation : ℕ) (settled : Bool) where
  abbrev look' : Outlook
  look' = next_look (scene.looks o) swapper stage incarnation settled

  pub IsFreeing-next : ((scene.looks o).settled ≡ false → settled ≡ false) → (d : ℕ) (y : Visitor) → IsFreeing scene d y
      → IsFreeing (looking scene o (next_look (scene.looks o) swapper stage incarnation settled)) d y
  IsFreeing-next unsettles d y old = record {
    many_noted = old.many_noted;
    many_freeing = old.many_freeing;
    noted = λ holds. by_object (λ q l. note_at y.noted q ≡ l.noted) scene.looks o look' (old.noted holds o) (λ q other. old.noted holds q);
    freeing = by_object (λ q l. (span_at y.freeing q).0 < (span_at y.freeing q).1
        → (scene.course.holder ≡ Some d) × ((span_at y.freeing q).1 ≤ l.freed) × (l.noted ≡ Some (span_at y.freeing q).1) × (l.settled ≡ false))
        scene.looks o look'
        (λ some. let was = old.freeing o some in (was.0, was.1, was.2, unsettles was.3))
        (λ q other. old.freeing q);
  }

  pub IsSwap-other : (d : ℕ) (g : Caller) (swap : SwapAt) → ((scene.looks o).swapper ≡ Some d → ⊥) → (swapper ≡ Some d → ⊥)
      → IsSwap scene d g swap → IsSwap (looking scene o (next_look (scene.looks o) swapper stage incarnation settled)) d g swap
  IsSwap-other d g swap before after old = record {
    there = old.there;
    owned = by_object (λ q l. named_by swap ≡ Some q → (l.swapper ≡ Some d) × (l.stage ≡ swap)) scene.looks o look'
        (λ named. absurd (before (old.owned o named).0)) (λ q other. old.owned q);
    owner = by_object (λ q l. l.swapper ≡ Some d → named_by swap ≡ Some q) scene.looks o look'
        (λ owns. absurd (after owns)) (λ q other. old.owner q);
    inactive = old.inactive;
    grace = old.grace;
    settled = by_object (λ q l. swap ≡ Drained q → l.settled ≡ turns.is_idle g.grace) scene.looks o look'
        (λ drained. absurd (before (old.owned o (rw drained refl)).0)) (λ q other. old.settled q);
  }

-- the swap of the caller itself, which has named no other object

module _ (scene : Scene) (c o : ℕ) (g : Caller) (swap : SwapAt)
    (owner : (q : ℕ) → (scene.looks q).swapper ≡ Some c → named_by swap ≡ Some q)
    (elsewhere : (q : ℕ) → q ≢ o → named_by swap ≡ Some q → ⊥) (incarnation : ℕ) (settled : Bool) where
  pub IsSwap-own : (stage : SwapAt) → o < scene.objects → named_by stage ≡ Some o → g.active ≡ None
      → GraceFits stage g.grace → ((q : ℕ) → stage ≡ Drained q → settled ≡ turns.is_idle g.grace)
      → IsSwap (looking scene o (next_look (scene.looks o) (Some c) stage incarnation settled)) c g stage
  IsSwap-own stage there named inactive fits over =
      let look : Outlook = next_look (scene.looks o) (Some c) stage incarnation settled in
      record {
        there = λ q e. let same : o ≡ q = same_Some o q (sym named ∙ e) in rw (← same) there;
        owned = by_object (λ q l. named_by stage ≡ Some q → (l.swapper ≡ Some c) × (l.stage ≡ stage)) scene.looks o look
            (λ e. (refl, refl)) (λ q other e. absurd (other (same_Some q o (sym e ∙ named))));
        owner = by_object (λ q l. l.swapper ≡ Some c → named_by stage ≡ Some q) scene.looks o look
            (λ e. named) (λ q other e. absurd (elsewhere q other (owner q e)));
        inactive = λ q e. inactive;
        grace = fits;
        settled = by_object (λ q l. stage ≡ Drained q → l.settled ≡ turns.is_idle g.grace) scene.looks o look
            (over o) (λ q other drained. let q_named : named_by stage ≡ Some q = rw drained refl in absurd (other (same_Some q o (sym q_named ∙ named))));
      }

  pub IsSwap-ended : IsSwap (looking scene o (next_look (scene.looks o) None Idle incarnation settled)) c g Idle
  IsSwap-ended =
      let look : Outlook = next_look (scene.looks o) None Idle incarnation settled in
      record {
        there = λ q e. absurd (cc);
        owned = λ q e. absurd (cc);
        owner = by_object (λ q l. l.swapper ≡ Some c → named_by Idle ≡ Some q) scene.looks o look
            (λ e. absurd (cc)) (λ q other e. absurd (elsewhere q other (owner q e)));
        inactive = λ q e. absurd (cc);
        grace = tt;
        settled = λ q drained. absurd (cc);
      }

module _ (scene : Scene) (s : Phases) (h : IsInScene scene s) (c : ℕ) (g : Caller) (x : Visitor)
    (at_g : slice_get s.turns.callers c ≡ Some g) (at_x : slice_get s.callers c ≡ Some x)
    (o : ℕ) (k : Object) (at_o : slice_get s.objects o ≡ Some k) where
  known : IsVisitor scene c g x
  known = h.visitors c g x at_g at_x

  object : IsObject scene.course.procs scene.course.callers (scene.looks o) o k
  object = h.objects o k at_o

  there : o < scene.objects
  there = rw (← h.many_objects) (slice_get_within s.objects o k at_o)

  -- the caller is there
  mine : (d : ℕ) → Some c ≡ Some d → d < scene.course.callers
  mine d e = rw (← (same_Some c d e), ← h.many_callers) (slice_get_within s.callers c x at_x)

  -- the caller goes on with its swap of o, or begins it
  pub keeps_stage : (stage : SwapAt) (incarnation : ℕ) (settled : Bool) (l : Object)
      → let look : Outlook = next_look (scene.looks o) (Some c) stage incarnation settled in
      ((d : ℕ) → d ≢ c → (scene.looks o).swapper ≡ Some d → ⊥)
      → ((q : ℕ) → q ≢ o → named_by x.swap ≡ Some q → ⊥)
      → named_by stage ≡ Some o → g.active ≡ None → GraceFits stage g.grace → ((q : ℕ) → stage ≡ Drained q → ⊥)
      → ((scene.looks o).settled ≡ false → settled ≡ false)
      → IsObject scene.course.procs scene.course.callers look o l → l.count ≡ k.count
      → Carries scene.course s.turns.callers s.callers o (scene.looks o) look
      → IsInScene (looking scene o look) (put_object (put_visitor s c (at_stage x stage)) o l)
  keeps_stage stage incarnation settled l alone elsewhere named inactive fits undrained unsettles is same carries =
      keeps_look scene s h c g x at_g at_x o k at_o (next_look (scene.looks o) (Some c) stage incarnation settled)
      x.noted x.freeing stage l is same carries
      (IsSwap-own scene c o g x.swap known.swap_alone.owner elsewhere incarnation settled stage there named inactive fits (λ q drained. absurd (undrained q drained)))
      (let own = IsFreeing-next scene o (Some c) stage incarnation settled unsettles c x known.frees_alone in
      record { many_noted = own.many_noted; many_freeing = own.many_freeing; noted = own.noted; freeing = own.freeing })
      (λ d g' y other old. IsSwap-other scene o (Some c) stage incarnation settled d g' y.swap (alone d other) (λ e. other (same_Some d c (sym e))) old)
      (λ d y other old. IsFreeing-next scene o (Some c) stage incarnation settled unsettles d y old)

  -- the caller's swap, at a stage that names o
  module _ (swap : SwapAt) (at_swap : x.swap ≡ swap) (named : named_by swap ≡ Some o) where
    pub owns : ((scene.looks o).swapper ≡ Some c) × ((scene.looks o).stage ≡ swap)
    owns =
        let was = known.swap_alone.owned o (rw at_swap named) in (was.0, was.1 ∙ at_swap)

    pub at_rest : g.active ≡ None
    at_rest = known.swap_alone.inactive o (rw at_swap named)

    pub alone : (d : ℕ) → d ≢ c → (scene.looks o).swapper ≡ Some d → ⊥
    alone d other e = other (same_Some d c (sym e ∙ owns.0))

    pub elsewhere : (q : ℕ) → q ≢ o → named_by x.swap ≡ Some q → ⊥
    elsewhere q other e = other (same_Some q o (sym e ∙ rw at_swap named))

  pub keeps_blocked : x.swap ≡ Drained o → g.grace ≡ graces.Idle
      → IsInScene (looking scene o (next_look (scene.looks o) (Some c) (Blocking o) (scene.looks o).incarnation (scene.looks o).settled))
      (put_object (put_visitor s c (at_stage x (Blocking o))) o (record k { block = true }))
  keeps_blocked at_swap idle =
      let stage = (owns (Drained o) at_swap refl).1 in
      let bits = rw stage at object.bits_follow.bits in
      keeps_stage (Blocking o) (scene.looks o).incarnation (scene.looks o).settled (record k { block = true })
      (alone (Drained o) at_swap refl) (elsewhere (Drained o) at_swap refl) refl (at_rest (Drained o) at_swap refl) idle (λ q e. cc) (λ e. e)
      (record {
        bits_follow = record {
          incarnation = object.bits_follow.incarnation;
          freed = object.bits_follow.freed;
          swap = object.bits_follow.swap ∙ ap is_some (owns (Drained o) at_swap refl).0;
          named = refl;
          swapper_there = mine;
          bits = ((refl, bits.0.1, bits.0.2), bits.1);
          last = object.bits_follow.last;
          layout = object.bits_follow.layout;
          few = object.bits_follow.few;
        };
        within = tt;
        many_entries = object.many_entries;
        entries_follow = rw stage at object.entries_follow;
        freed_rows = record {
          freed = object.freed_rows.freed;
          freed_entries = object.freed_rows.freed_entries;
          noted = object.freed_rows.noted;
          noted_entries = object.freed_rows.noted_entries;
          settled = object.freed_rows.settled;
          stage = rw idle at (known.swap_alone.settled o at_swap);
        };
      })
      refl
      (record {
        uncounted = λ g' old. let never : is_closed (scene.looks o).stage ≡ true = rw stage refl in let was = old.not_closed in absurd (cc);
        tracked = λ d i y at_y tracked old. (refl, refl);
        row = λ d g' i at_g' old. record { kept = old.kept; recent = old.recent; present = λ closed. old.present (rw stage refl); older = old.older };
      })

  pub keeps_moved : x.swap ≡ Blocking o → k.count ≡ 0
      → IsInScene (looking scene o (next_look (scene.looks o) (Some c) (Moved o) (scene.looks o).incarnation (scene.looks o).settled))
      (put_object (put_visitor s c (at_stage x (Moved o))) o (record k { moving = true }))
  keeps_moved at_swap none =
      let stage = (owns (Blocking o) at_swap refl).1 in
      let bits = rw stage at object.bits_follow.bits in
      keeps_stage (Moved o) (scene.looks o).incarnation (scene.looks o).settled (record k { moving = true })
      (alone (Blocking o) at_swap refl) (elsewhere (Blocking o) at_swap refl) refl (at_rest (Blocking o) at_swap refl)
      (rw at_swap at known.swap_alone.grace) (λ q e. cc) (λ e. e)
      (record {
        bits_follow = record {
          incarnation = object.bits_follow.incarnation;
          freed = object.bits_follow.freed;
          swap = object.bits_follow.swap ∙ ap is_some (owns (Blocking o) at_swap refl).0;
          named = refl;
          swapper_there = mine;
          bits = ((bits.0.0, refl, bits.0.2), bits.1);
          last = object.bits_follow.last;
          layout = object.bits_follow.layout;
          few = object.bits_follow.few;
        };
        within = tt;
        many_entries = object.many_entries;
        entries_follow = rw stage at object.entries_follow;
        freed_rows = record {
          freed = object.freed_rows.freed;
          freed_entries = object.freed_rows.freed_entries;
          noted = object.freed_rows.noted;
          noted_entries = object.freed_rows.noted_entries;
          settled = object.freed_rows.settled;
          stage = rw stage at object.freed_rows.stage;
        };
      })
      refl
      (record {
        uncounted = λ g' old. let never : is_closed (scene.looks o).stage ≡ true = rw stage refl in let was = old.not_closed in absurd (cc);
        tracked = λ d i y at_y tracked old. absurd (nobody d i y at_y tracked);
        row = λ d g' i at_g' old. record { kept = old.kept; recent = old.recent; present = λ closed. old.present (rw stage refl); older = old.older };
      })
    where
      nobody : (d i : ℕ) (y : Visitor) → slice_get s.callers d ≡ Some y → y.place ≡ Tracked o i → ⊥
      nobody d i y at_y tracked =
          let some = count_by_some (λ z. counts_at z.place o) s.callers d y at_y (rw tracked (eq-eqb o o refl)) in
          let counted = h.counted o k at_o in
          omega (arith, some, counted, none)

  pub keeps_turned_over : (layout : ℕ) → x.swap ≡ Moved o → layout ≤ length k.shapes
      → IsInScene (looking scene o (next_look (scene.looks o) (Some c) (Opening o 0) ((scene.looks o).incarnation + 1) false))
      (put_object (put_visitor s c (at_stage x (Opening o 0))) o (turned_over k layout))
  keeps_turned_over layout at_swap fits =
      let stage = (owns (Moved o) at_swap refl).1 in
      let bits = rw stage at object.bits_follow.bits in
      keeps_stage (Opening o 0) ((scene.looks o).incarnation + 1) false (turned_over k layout)
      (alone (Moved o) at_swap refl) (elsewhere (Moved o) at_swap refl) refl (at_rest (Moved o) at_swap refl)
      (rw at_swap at known.swap_alone.grace) (λ q e. cc) (λ e. refl)
      (record {
        bits_follow = record {
          incarnation = ap (λ n. n + 1) object.bits_follow.incarnation;
          freed = object.bits_follow.freed;
          swap = object.bits_follow.swap ∙ ap is_some (owns (Moved o) at_swap refl).0;
          named = refl;
          swapper_there = mine;
          bits = ((refl, refl, refl), omega arith);
          last = let live = bits.1.1 in omega (arith, live);
          layout = fits;
          few = object.bits_follow.few;
        };
        within = h.in_course.limits.some_procs;
        many_entries = object.many_entries;
        entries_follow = EachPlace-then (IsEntry (Moved o) (scene.looks o).incarnation k.shapes k.layout)
            (IsEntry (Opening o 0) ((scene.looks o).incarnation + 1) k.shapes layout) k.entries (rw stage at object.entries_follow)
            (λ p e at_p old. rw (le-ltb p 0 (omega arith)) (record { tag = old.tag; blank = old.blank; number = let n = old.number in omega (arith, n) }));
        freed_rows = record {
          freed = let least = object.freed_rows.freed in omega (arith, least);
          freed_entries = object.freed_rows.freed_entries;
          noted = λ n e. let least = object.freed_rows.noted n e in omega (arith, least);
          noted_entries = object.freed_rows.noted_entries;
          settled = λ e. absurd (cc);
          stage = tt;
        };
      })
      refl
      (record {
        uncounted = λ g' old. let never : is_closed (scene.looks o).stage ≡ true = rw stage refl in let was = old.not_closed in absurd (cc);
        tracked = λ d i y at_y tracked old. let never : has_moved (scene.looks o).stage ≡ true = rw stage refl in absurd (cc);
        row = λ d g' i at_g' old. record {
          kept = old.kept;
          recent = inr (ap (λ n. n + 1) (old.present (rw stage refl)));
          present = λ closed. absurd (cc);
          older = old.older;
        };
      })
