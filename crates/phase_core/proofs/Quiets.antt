-- A caller whose grace becomes quiet, and one that gives the role back, keep every fact.
use Rattle.std.proofs.Common.{◌≡◌, ℕ, zero, suc, ◌+◌, ◌<◌, ◌≤◌, ◌≢◌, ◌⊎◌, ◌∙◌, Bool, true, false, Some, None, length, set, replicate, sym, refl, ap, inl, inr, ⊎_elim, arith}
use Rattle.std.specs.List.{slice_get}
use Rattle.std.specs.Option.{is_some}
use Rattle.std.specs.Bool.{MatchBool}
use Rattle.std.proofs.lemmas.List.{length-replicate}
use Rattle.std.proofs.lemmas.Option.{same_Some, slice_get_within, slice_get-get_or}
use Rattle.std.proofs.lemmas.Bool.{leb-true}
use Rattle.gen_core.specs.declared.event.GenEvent.TheVariants.{GiveRole}
use Rattle.gen_core.specs.declared.state.GraceAt.TheVariants as graces
use Rattle.gen_core.specs.Plain.{Caller, Generations}
use Rattle.gen_core.specs.State.{caller_at}
use Rattle.gen_core.specs.Events as turns
use Rattle.gen_core.specs.Sound.{Course, IsInCourse}
use Rattle.k42_places.proofs.Written.{slice_get-set_here}
use Rattle.gen_core.proofs.Stages.{from_is_quiet}
use Rattle.gen_core.proofs.Courses.{course_after, keeps_effect}
use Rattle.gen_core.proofs.Alone.{only_caller}
use Rattle.phase_core.specs.declared.caller.SwapAt.{SwapAt}
use Rattle.phase_core.specs.declared.caller.SwapAt.TheVariants.{Idle, Draining, Drained}
use Rattle.phase_core.specs.Callers.{IsOlder, GraceFits, IsSwap, IsVisitor}
use Rattle.phase_core.specs.Effects.{drained_at}
use Rattle.phase_core.specs.Events.{may_give}
use Rattle.phase_core.specs.Objects.{IsObject}
use Rattle.phase_core.specs.Outlooks.{Outlook, Scene, is_closed}
use Rattle.phase_core.specs.Plain.{Object, Visitor, Phases}
use Rattle.phase_core.specs.Sound.{IsInScene, IsSound}
use Rattle.phase_core.specs.Stages.{named_by}
use Rattle.phase_core.specs.State.{fresh_object, object_at, span_at}
use Rattle.phase_core.proofs.Pairs.{put_look, by_object}
use Rattle.phase_core.proofs.Looks.{looking}
use Rattle.phase_core.proofs.Swappers.{next_look, IsFreeing-next, IsSwap-other, IsSwap-own}
use Rattle.phase_core.proofs.Turns.{Follows, Follows-older, keeps_turn}
use Rattle.phase_core.proofs.Graces.{not_idle, IsSwap-turned, IsFreeing-turned, at_g, known, held, keeps_course}

-- the object of a swap that drains is drained, settled or not
pub IsObject-drained : (procs callers : ℕ) (look : Outlook) (c o : ℕ) (k : Object) (settled : Bool)
    → look.swapper ≡ Some c → c < callers → look.stage ≡ Draining o ⊎ look.stage ≡ Drained o
    → (settled ≡ true → look.freed ≡ look.incarnation)
    → (settled ≡ false → look.noted ≡ Some look.incarnation)
    → IsObject procs callers look o k
    → IsObject procs callers (next_look look (Some c) (Drained o) look.incarnation settled) o k
IsObject-drained procs callers look c o k settled swapper there stage freed noted old =
    record {
      bits_follow = record {
        incarnation = old.bits_follow.incarnation;
        freed = old.bits_follow.freed;
        swap = old.bits_follow.swap ∙ ap is_some swapper;
        named = refl;
        swapper_there = λ d e. rw (← (same_Some c d e)) there;
        bits = ⊎_elim (λ draining. rw draining at old.bits_follow.bits) (λ drained. rw drained at old.bits_follow.bits) stage;
        last = old.bits_follow.last;
        layout = old.bits_follow.layout;
        few = old.bits_follow.few;
      };
      within = tt;
      many_entries = old.many_entries;
      entries_follow = ⊎_elim (λ draining. rw draining at old.entries_follow) (λ drained. rw drained at old.entries_follow) stage;
      freed_rows = record {
        freed = old.freed_rows.freed;
        freed_entries = old.freed_rows.freed_entries;
        noted = old.freed_rows.noted;
        noted_entries = old.freed_rows.noted_entries;
        settled = freed;
        stage = by_settled settled noted;
      };
    }
  where
    by_settled : (b : Bool) → (b ≡ false → look.noted ≡ Some look.incarnation)
        → MatchBool b (Unit {0}) (look.noted ≡ Some look.incarnation)
    by_settled true noted = tt
    by_settled false noted = noted refl

module _ (scene : Scene) (s : Phases) (h : IsInScene scene s) (c : ℕ) (x : Visitor)
    (there : c < length s.turns.callers) (at_x : slice_get s.callers c ≡ Some x) where
  mine : c < scene.course.callers
  mine = rw (← h.many_callers) (slice_get_within s.callers c x at_x)

  -- the grace becomes quiet
  module _ (course' : Course) (turns' : Generations) (g' : Caller)
      (now : slice_get turns'.callers c ≡ Some g')
      (else : (i : ℕ) → i ≢ c → slice_get turns'.callers i ≡ slice_get s.turns.callers i)
      (kept : IsInCourse course' turns') (procs : course'.procs ≡ scene.course.procs) (callers : course'.callers ≡ scene.course.callers)
      (holder : course'.holder ≡ scene.course.holder) (base : course'.base ≡ scene.course.base)
      (p : ℕ) (looking_at : (caller_at s.turns c).grace ≡ graces.Looking p)
      (quiet : course'.stage ≡ graces.Quiet) (quiet' : g'.grace ≡ graces.Quiet) (active' : g'.active ≡ (caller_at s.turns c).active) where
    busy : (caller_at s.turns c).grace ≢ graces.Idle
    busy idle = absurd (cc)

    holds : scene.course.holder ≡ Some c
    holds = (held scene s h c x there at_x busy).0

    at_stage : scene.course.stage ≡ graces.Looking p
    at_stage = sym (held scene s h c x there at_x busy).1.grace ∙ looking_at

    inactive : (caller_at s.turns c).active ≡ None
    inactive = (held scene s h c x there at_x busy).1.inactive

    own : IsVisitor scene c (caller_at s.turns c) x
    own = known scene s h c x there at_x

    -- nobody is older any more
    none_older : (d : ℕ) (z : Caller) → d ≢ c → slice_get s.turns.callers d ≡ Some z → IsOlder scene.course z → ⊥
    none_older d z other at_z older =
        let active : z.active ≡ Some scene.course.base = older (rw at_stage refl) in
        let at_z' : slice_get turns'.callers d ≡ Some z = else d other ∙ at_z in
        let step : scene.course.base ≡ course'.base + 1 = rw quiet at (kept.activities_in_step d z at_z' scene.course.base active) in
        omega (arith, step, base)

    -- a swap that does not drain
    quiet_else : (swap : SwapAt) → x.swap ≡ swap → GraceFits swap graces.Quiet → drained_at graces.Quiet swap ≡ swap
        → IsSound (record s { turns = turns'; callers = set s.callers c (record x { swap = drained_at graces.Quiet swap }) })
    quiet_else swap at_swap fits same =
        record {
          scene = record { course = course'; objects = scene.objects; looks = scene.looks };
          in_scene = keeps_course scene s h c x there at_x course' turns' g' (record x { swap = drained_at graces.Quiet swap }) now else kept procs callers holder
              (own.at_rest inactive).0 (own.at_rest inactive).0 (own.at_rest inactive).1
              (same ∙ sym at_swap) refl refl
              (λ o named. active' ∙ inactive)
              (rw (at_swap, quiet') fits)
              (λ some. rw quiet' (sym (not_idle (caller_at s.turns c).grace busy)))
              (λ d z other at_z generation active older. absurd (none_older d z other at_z older));
        }

    quiet_draining : (o : ℕ) → x.swap ≡ Draining o
        → IsSound (record s { turns = turns'; callers = set s.callers c (record x { swap = Drained o }) })
    quiet_draining o at_swap =
        let named : named_by x.swap ≡ Some o = rw at_swap refl in
        let owned = own.swap_alone.owned o named in
        let stage : (scene.looks o).stage ≡ Draining o = owned.1 ∙ at_swap in
        let look : Outlook = next_look (scene.looks o) (Some c) (Drained o) (scene.looks o).incarnation false in
        let at_o = slice_get-get_or s.objects o fresh_object (rw h.many_objects (own.swap_alone.there o named)) in
        let noted : (scene.looks o).noted ≡ Some (scene.looks o).incarnation = rw stage at (h.objects o (object_at s o) at_o).freed_rows.stage in
        record {
          scene = record { course = course'; objects = scene.objects; looks = put_look scene.looks o look };
          in_scene = keeps_turn scene s h c (caller_at s.turns c) x (at_g scene s h c x there at_x) at_x
              course' (put_look scene.looks o look) turns' g' (record x { swap = Drained o }) now else kept procs callers
              (λ q k at_q. by_object (λ r l. IsObject scene.course.procs scene.course.callers (scene.looks r) r k → IsObject scene.course.procs scene.course.callers l r k)
              scene.looks o look
              (λ old. IsObject-drained scene.course.procs scene.course.callers (scene.looks o) c o k false owned.0 mine (inl stage) (λ e. absurd (cc))
              (λ e. rw stage at old.freed_rows.stage) old)
              (λ r other old. old) q)
              (own.at_rest inactive).0 (own.at_rest inactive).0 (own.at_rest inactive).1
              (IsSwap-turned (looking scene o look) course' c (caller_at s.turns c) g' (Drained o) (λ q drained. rw quiet' (sym (not_idle (caller_at s.turns c).grace busy))) (λ q e. active' ∙ inactive) tt
              (IsSwap-own scene c o (caller_at s.turns c) x.swap own.swap_alone.owner
              (λ q other e. other (same_Some q o (sym e ∙ named)))
              (scene.looks o).incarnation false (Drained o) (own.swap_alone.there o named) refl inactive tt (λ q e. sym (not_idle (caller_at s.turns c).grace busy))))
              (let frees = IsFreeing-turned (looking scene o look) course' holder c x
              (IsFreeing-next scene o (Some c) (Drained o) (scene.looks o).incarnation false (λ e. refl) c x own.frees_alone) in
              record { many_noted = frees.many_noted; many_freeing = frees.many_freeing; noted = frees.noted; freeing = frees.freeing })
              (λ d z other at_z generation active. by_object (λ r l. Follows scene.course course' (scene.looks r) l z) scene.looks o look
              (record {
                incarnation = refl;
                uncounted = λ old. absurd (none_older d z other at_z (old.draining (rw stage refl)));
                tracked = λ old. refl;
                row = λ i old. record {
                  kept = old.kept;
                  recent = old.recent;
                  present = λ closed. ⊎_elim (λ here. here)
                      (λ less. absurd (none_older d z other at_z (old.older (scene.looks o).incarnation noted (omega arith)))) old.recent;
                  older = λ n noted below. absurd (none_older d z other at_z (old.older n noted below));
                };
              })
              (λ r else. Follows-older scene.course course' (scene.looks r) z (λ older. absurd (none_older d z other at_z older))))
              (λ d z y other old. IsSwap-turned (looking scene o look) course' d z z y.swap (λ q drained. refl) old.inactive old.grace
              (IsSwap-other scene o (Some c) (Drained o) (scene.looks o).incarnation false d z y.swap
              (λ e. other (same_Some d c (sym e ∙ owned.0))) (λ e. other (same_Some d c (sym e))) old))
              (λ d y other old. IsFreeing-turned (looking scene o look) course' holder d y
              (IsFreeing-next scene o (Some c) (Drained o) (scene.looks o).incarnation false (λ e. refl) d y old));
        }

    pub quiet_by : (swap : SwapAt) → x.swap ≡ swap → GraceFits swap (caller_at s.turns c).grace
        → IsSound (record s { turns = turns'; callers = set s.callers c (record x { swap = drained_at graces.Quiet swap }) })
    quiet_by Idle at_swap fits = quiet_else Idle at_swap tt refl
    quiet_by (Draining o) at_swap fits = quiet_draining o at_swap
    quiet_by (Drained o) at_swap fits = quiet_else (Drained o) at_swap tt refl
    quiet_by swap at_swap fits = absurd (busy fits)

  -- the role is given back

  span_of_none : (n o : ℕ) → span_at (replicate n (0, 0)) o ≡ (0, 0)
  span_of_none zero o = refl
  span_of_none (suc n) zero = refl
  span_of_none (suc n) (suc o) = span_of_none n o

  module _ (possible : turns.is_possible s.turns (GiveRole c) ≡ true) where
    quiet_now : (caller_at s.turns c).grace ≡ graces.Quiet
    quiet_now = from_is_quiet (caller_at s.turns c).grace possible

    mine_now : scene.course.holder ≡ Some c
    mine_now = (held scene s h c x there at_x (λ idle. let g = quiet_now in absurd (cc))).0

    inactive_now : (caller_at s.turns c).active ≡ None
    inactive_now = (held scene s h c x there at_x (λ idle. let g = quiet_now in absurd (cc))).1.inactive

    known_now : IsVisitor scene c (caller_at s.turns c) x
    known_now = known scene s h c x there at_x

    -- whatever becomes of what is shared of the objects
    given_with : (looks' : ℕ → Outlook)
        → let course' : Course = course_after scene.course s.turns (GiveRole c) in
        ((q : ℕ) (k : Object) → slice_get s.objects q ≡ Some k → IsObject scene.course.procs scene.course.callers (scene.looks q) q k
        → IsObject scene.course.procs scene.course.callers (looks' q) q k)
        → IsSwap (record { course = course'; objects = scene.objects; looks = looks' }) c (turns.role_given (caller_at s.turns c)) x.swap
        → ((d : ℕ) (z : Caller) → d ≢ c → (q : ℕ) → Follows scene.course course' (scene.looks q) (looks' q) z)
        → ((d : ℕ) (z : Caller) (y : Visitor) → d ≢ c → IsSwap scene d z y.swap
        → IsSwap (record { course = course'; objects = scene.objects; looks = looks' }) d z y.swap)
        → IsSound (record s { turns = turns.effect s.turns (GiveRole c); callers = set s.callers c (record x { freeing = replicate (length x.freeing) (0, 0) }) })
    given_with looks' each own_swap follows other_swap =
        let course' : Course = course_after scene.course s.turns (GiveRole c) in
        let rest = known_now.at_rest inactive_now in
        record {
          scene = record { course = course'; objects = scene.objects; looks = looks' };
          in_scene = keeps_turn scene s h c (caller_at s.turns c) x (at_g scene s h c x there at_x) at_x course' looks' (turns.effect s.turns (GiveRole c))
              (turns.role_given (caller_at s.turns c)) (record x { freeing = replicate (length x.freeing) (0, 0) })
              (slice_get-set_here s.turns.callers c (turns.role_given (caller_at s.turns c)) there)
              (only_caller s.turns (GiveRole c) there).other_callers
              (keeps_effect scene.course s.turns (GiveRole c) h.in_course there possible) refl refl
              each rest.0 rest.0 rest.1 own_swap
              (record {
                many_noted = known_now.frees_alone.many_noted;
                many_freeing = length-replicate (length x.freeing) (0, 0) ∙ known_now.frees_alone.many_freeing;
                noted = λ holds. absurd (cc);
                freeing = λ o some. let none : 0 < 0 = rw (span_of_none (length x.freeing) o) at some in absurd (omega arith);
              })
              (λ d z other at_z generation active. follows d z other)
              other_swap
              (λ d y other old. record {
                many_noted = old.many_noted;
                many_freeing = old.many_freeing;
                noted = λ holds. absurd (cc);
                freeing = λ o some. absurd (other (same_Some d c (sym (old.freeing o some).0 ∙ mine_now)));
              });
        }

    given_idle : x.swap ≡ Idle
        → IsSound (record s { turns = turns.effect s.turns (GiveRole c); callers = set s.callers c (record x { freeing = replicate (length x.freeing) (0, 0) }) })
    given_idle at_swap =
        let course' : Course = course_after scene.course s.turns (GiveRole c) in
        given_with scene.looks (λ q k at_q old. old)
        (IsSwap-turned scene course' c (caller_at s.turns c) (turns.role_given (caller_at s.turns c)) x.swap
        (λ q drained. absurd (cc)) (λ q named. inactive_now) (rw at_swap tt) known_now.swap_alone)
        (λ d z other q. Follows-older scene.course course' (scene.looks q) z (λ older flipped. absurd (cc)))
        (λ d z y other old. IsSwap-turned scene course' d z z y.swap
        (λ q drained. refl) old.inactive old.grace old)

    given_drained : (o : ℕ) → x.swap ≡ Drained o → (object_at s o).incarnation ≤ (object_at s o).freed
        → IsSound (record s { turns = turns.effect s.turns (GiveRole c); callers = set s.callers c (record x { freeing = replicate (length x.freeing) (0, 0) }) })
    given_drained o at_swap all =
        let course' : Course = course_after scene.course s.turns (GiveRole c) in
        let named : named_by x.swap ≡ Some o = rw at_swap refl in
        let owned = known_now.swap_alone.owned o named in
        let stage : (scene.looks o).stage ≡ Drained o = owned.1 ∙ at_swap in
        let look : Outlook = next_look (scene.looks o) (Some c) (Drained o) (scene.looks o).incarnation true in
        let at_o = slice_get-get_or s.objects o fresh_object (rw h.many_objects (known_now.swap_alone.there o named)) in
        let is = h.objects o (object_at s o) at_o in
        let freed : (scene.looks o).freed ≡ (scene.looks o).incarnation = let most = is.freed_rows.freed in omega (arith, all, most, is.bits_follow.freed, is.bits_follow.incarnation) in
        given_with (put_look scene.looks o look)
        (λ q k at_q. by_object (λ r l. IsObject scene.course.procs scene.course.callers (scene.looks r) r k → IsObject scene.course.procs scene.course.callers l r k)
        scene.looks o look
        (λ old. IsObject-drained scene.course.procs scene.course.callers (scene.looks o) c o k true owned.0 mine (inr stage) (λ e. freed) (λ e. absurd (cc)) old)
        (λ r other old. old) q)
        (rw at_swap (IsSwap-own (record { course = course'; objects = scene.objects; looks = scene.looks }) c o (turns.role_given (caller_at s.turns c))
        x.swap known_now.swap_alone.owner (λ q other e. other (same_Some q o (sym e ∙ named)))
        (scene.looks o).incarnation true (Drained o) (known_now.swap_alone.there o named) refl inactive_now tt (λ q e. refl)))
        (λ d z other. by_object (λ r l. Follows scene.course course' (scene.looks r) l z) scene.looks o look
        (record {
          incarnation = refl;
          uncounted = λ old. let was = old.not_closed in let closed : is_closed (scene.looks o).stage ≡ true = rw stage refl in absurd (cc);
          tracked = λ old. refl;
          row = λ i old. record { kept = old.kept; recent = old.recent; present = λ closed. old.present (rw stage refl); older = λ n noted below flipped. absurd (cc) };
        })
        (λ r else. Follows-older scene.course course' (scene.looks r) z (λ older flipped. absurd (cc))))
        (λ d z y other old. IsSwap-turned (looking scene o look) course' d z z y.swap
        (λ q drained. refl) old.inactive old.grace
        (IsSwap-other scene o (Some c) (Drained o) (scene.looks o).incarnation true d z y.swap
        (λ e. other (same_Some d c (sym e ∙ owned.0))) (λ e. other (same_Some d c (sym e))) old))

    pub given_by : (swap : SwapAt) → x.swap ≡ swap → GraceFits swap (caller_at s.turns c).grace → may_give s swap ≡ true
        → IsSound (record s { turns = turns.effect s.turns (GiveRole c); callers = set s.callers c (record x { freeing = replicate (length x.freeing) (0, 0) }) })
    given_by Idle at_swap fits may = given_idle at_swap
    given_by (Draining o) at_swap fits may = absurd (fits.1 quiet_now)
    given_by (Drained o) at_swap fits may = given_drained o at_swap (leb-true (object_at s o).incarnation (object_at s o).freed may)
    given_by swap at_swap fits may = let g = quiet_now in absurd (cc)
