-- Each event of generations keeps every fact.
use Rattle.std.proofs.Common.{◌≡◌, ℕ, ◌+◌, ◌<◌, ◌≢◌, ◌∙◌, Bool, true, false, cond, ltb, [], Some, None, length, set, sym, refl, ap, ⊎_elim, arith}
use Rattle.std.specs.List.{slice_get}
use Rattle.std.proofs.lemmas.Bool.{cases_eq, le-ltb, and_parts}
use Rattle.gen_core.specs.declared.event.GenEvent.TheVariants.{Enter, Leave, LookAhead, Flip}
use Rattle.gen_core.specs.declared.state.GraceAt.{GraceAt}
use Rattle.gen_core.specs.declared.state.GraceAt.TheVariants as graces
use Rattle.gen_core.specs.Plain.{Caller, Generations}
use Rattle.gen_core.specs.State.{caller_at}
use Rattle.gen_core.specs.Events as turns
use Rattle.gen_core.specs.Sound.{Course, is_flipped, IsHolder, IsActiveInStep, IsInCourse}
use Rattle.k42_places.proofs.Written.{slice_get-set_here}
use Rattle.gen_core.proofs.Stages.{from_is_flipping, from_is_none, flipped-after_flip_else}
use Rattle.gen_core.proofs.Frames.{holder_from_grace}
use Rattle.gen_core.proofs.Courses.{course_after, at_caller, keeps_effect}
use Rattle.gen_core.proofs.Alone.{only_caller}
use Rattle.gen_core.proofs.Reached.{holds_from}
use Rattle.phase_core.specs.declared.caller.Place.TheVariants.{Out}
use Rattle.phase_core.specs.declared.caller.SwapAt.{SwapAt}
use Rattle.phase_core.specs.declared.caller.SwapAt.TheVariants.{Idle, Draining, Drained}
use Rattle.phase_core.specs.Callers.{IsOlder, GraceFits, IsSwap, IsFreeing, IsVisitor}
use Rattle.phase_core.specs.Outlooks.{Scene}
use Rattle.phase_core.specs.Plain.{Visitor, Phases}
use Rattle.phase_core.specs.Sound.{IsInScene}
use Rattle.phase_core.specs.Stages.{named_by}
use Rattle.phase_core.proofs.Turns.{Follows-older, keeps_turn}

-- a grace that goes on, and is not quiet
pub not_idle : (grace : GraceAt) → grace ≢ graces.Idle → turns.is_idle grace ≡ false
not_idle graces.Idle busy = absurd (busy refl)
not_idle (graces.Flipping p) busy = refl
not_idle (graces.Looking p) busy = refl
not_idle graces.Quiet busy = refl

GraceFits-on : (swap : SwapAt) (grace grace' : GraceAt) → grace ≢ graces.Idle → grace' ≢ graces.Idle → grace' ≢ graces.Quiet
    → GraceFits swap grace → GraceFits swap grace'
GraceFits-on Idle grace grace' busy busy' loud fits = tt
GraceFits-on (Draining o) grace grace' busy busy' loud fits = (busy', loud)
GraceFits-on (Drained o) grace grace' busy busy' loud fits = tt
GraceFits-on swap grace grace' busy busy' loud fits = absurd (busy fits)

-- two graces under way are not over
same_busy : (grace grace' : GraceAt) → grace ≢ graces.Idle → grace' ≢ graces.Idle → turns.is_idle grace' ≡ turns.is_idle grace
same_busy grace grace' busy busy' = not_idle grace' busy' ∙ sym (not_idle grace busy)

after_flip_busy : (p n : ℕ) → (turns.after_flip p n ≢ graces.Idle) × (turns.after_flip p n ≢ graces.Quiet)
after_flip_busy p n = by_test (ltb (p + 1) n) where
  by_test : (b : Bool) → (cond b (graces.Flipping (p + 1)) (graces.Looking 0) ≢ graces.Idle) × (cond b (graces.Flipping (p + 1)) (graces.Looking 0) ≢ graces.Quiet)
  by_test true = ((λ e. cc), (λ e. cc))
  by_test false = ((λ e. cc), (λ e. cc))

module _ (scene : Scene) (course' : Course) where
  abbrev pub next : Scene
  next = record { course = course'; objects = scene.objects; looks = scene.looks }

  pub IsSwap-turned : (d : ℕ) (g g' : Caller) (swap : SwapAt)
      → ((o : ℕ) → swap ≡ Drained o → turns.is_idle g'.grace ≡ turns.is_idle g.grace)
      → ((o : ℕ) → named_by swap ≡ Some o → g'.active ≡ None) → GraceFits swap g'.grace
      → IsSwap scene d g swap → IsSwap next d g' swap
  IsSwap-turned d g g' swap over inactive fits old = record {
    there = old.there;
    owned = old.owned;
    owner = old.owner;
    inactive = inactive;
    grace = fits;
    settled = λ o drained. old.settled o drained ∙ sym (over o drained);
  }

  pub IsFreeing-turned : course'.holder ≡ scene.course.holder → (d : ℕ) (y : Visitor) → IsFreeing scene d y → IsFreeing next d y
  IsFreeing-turned same d y old = record {
    many_noted = old.many_noted;
    many_freeing = old.many_freeing;
    noted = λ holds. old.noted (sym same ∙ holds);
    freeing = λ o some. let was = old.freeing o some in (same ∙ was.0, was.1, was.2, was.3);
  }

module _ (scene : Scene) (s : Phases) (h : IsInScene scene s) (c : ℕ) (x : Visitor)
    (there : c < length s.turns.callers) (at_x : slice_get s.callers c ≡ Some x) where
  abbrev pub g : Caller
  g = caller_at s.turns c

  pub at_g : slice_get s.turns.callers c ≡ Some g
  at_g = at_caller scene.course s.turns h.in_course c there

  pub known : IsVisitor scene c g x
  known = h.visitors c g x at_g at_x

  -- the course changes and its holder stays, and nothing that the objects share
  pub keeps_course : (course' : Course) (turns' : Generations) (g' : Caller) (x' : Visitor)
      → slice_get turns'.callers c ≡ Some g'
      → ((i : ℕ) → i ≢ c → slice_get turns'.callers i ≡ slice_get s.turns.callers i)
      → IsInCourse course' turns' → course'.procs ≡ scene.course.procs → course'.callers ≡ scene.course.callers
      → course'.holder ≡ scene.course.holder
      → x.place ≡ Out → x'.place ≡ Out → x'.read ≡ []
      → x'.swap ≡ x.swap → x'.noted ≡ x.noted → x'.freeing ≡ x.freeing
      → ((o : ℕ) → named_by x.swap ≡ Some o → g'.active ≡ None) → GraceFits x.swap g'.grace
      → (named_by x.swap ≢ None → turns.is_idle g'.grace ≡ turns.is_idle g.grace)
      → ((d : ℕ) (z : Caller) → d ≢ c → slice_get s.turns.callers d ≡ Some z → (generation : ℕ) → z.active ≡ Some generation
      → IsOlder scene.course z → IsOlder course' z)
      → IsInScene (record { course = course'; objects = scene.objects; looks = scene.looks }) (record s { turns = turns'; callers = set s.callers c x' })
  keeps_course course' turns' g' x' now else kept procs callers same out out' read' swap' noted' freeing' inactive fits over older =
      keeps_turn scene s h c g x at_g at_x course' scene.looks turns' g' x' now else kept procs callers
      (λ q k at_q old. old) out out' read'
      (rw swap' (IsSwap-turned scene course' c g g' x.swap (λ o drained. over (rw drained (λ e. cc))) inactive fits known.swap_alone))
      (let own = IsFreeing-turned scene course' same c x known.frees_alone in
      record { many_noted = rw noted' own.many_noted; many_freeing = rw freeing' own.many_freeing; noted = rw noted' own.noted; freeing = rw freeing' own.freeing })
      (λ d z other at_z generation active q. Follows-older scene.course course' (scene.looks q) z (older d z other at_z generation active))
      (λ d z y other old. IsSwap-turned scene course' d z z y.swap (λ o drained. refl) old.inactive old.grace old)
      (λ d y other old. IsFreeing-turned scene course' same d y old)

  pub keeps_enter : turns.is_possible s.turns (Enter c) ≡ true → x.swap ≡ Idle
      → IsInScene scene (record s { turns = turns.effect s.turns (Enter c); callers = set s.callers c x })
  keeps_enter possible idle =
      let alone = and_parts (turns.is_idle g.grace) _ possible in
      let rest = known.at_rest (from_is_none g.active alone.1) in
      let g' : Caller = turns.caller_entered g (turns.home_of s.turns c) in
      keeps_course scene.course (turns.effect s.turns (Enter c)) g' x
      (slice_get-set_here s.turns.callers c g' there)
      (only_caller s.turns (Enter c) there).other_callers
      (keeps_effect scene.course s.turns (Enter c) h.in_course there possible)
      refl refl refl rest.0 rest.0 rest.1 refl refl refl
      (λ o named. let none : named_by Idle ≡ Some o = rw idle at named in absurd (cc))
      (rw idle tt)
      (λ some. absurd (some (rw idle refl)))
      (λ d z other at_z generation active old. old)

  pub keeps_leave : turns.is_possible s.turns (Leave c) ≡ true → x.place ≡ Out
      → IsInScene scene (record s { turns = turns.effect s.turns (Leave c); callers = set s.callers c (record x { read = [] }) })
  keeps_leave possible out =
      let g' : Caller = turns.caller_left g in
      keeps_course scene.course (turns.effect s.turns (Leave c)) g' (record x { read = [] })
      (slice_get-set_here s.turns.callers c g' there)
      (only_caller s.turns (Leave c) there).other_callers
      (keeps_effect scene.course s.turns (Leave c) h.in_course there possible)
      refl refl refl out out refl refl refl refl
      (λ o named. refl)
      known.swap_alone.grace
      (λ some. refl)
      (λ d z other at_z generation active old. old)

  pub held : (g.grace ≢ graces.Idle) → (scene.course.holder ≡ Some c) × IsHolder scene.course g
  held busy = let t = holder_from_grace scene.course s.turns h.in_course c g at_g busy in (holds_from scene.course.holder c t.0, t.1)

  pub keeps_looked_ahead : turns.is_possible s.turns (LookAhead c) ≡ true
      → IsInScene (record { course = course_after scene.course s.turns (LookAhead c); objects = scene.objects; looks = scene.looks })
      (record s { turns = turns.effect s.turns (LookAhead c); callers = set s.callers c x })
  keeps_looked_ahead possible =
      let grace = from_is_flipping g.grace (and_parts _ _ possible).0 in
      let holder = (held (λ idle. absurd (cc))).1 in
      let rest = known.at_rest holder.inactive in
      let g' : Caller = turns.looked_ahead g (turns.turn_of s.turns c) in
      keeps_course (course_after scene.course s.turns (LookAhead c)) (turns.effect s.turns (LookAhead c)) g' x
      (slice_get-set_here s.turns.callers c g' there)
      (only_caller s.turns (LookAhead c) there).other_callers
      (keeps_effect scene.course s.turns (LookAhead c) h.in_course there possible)
      refl refl refl rest.0 rest.0 rest.1 refl refl refl
      (λ o named. holder.inactive)
      known.swap_alone.grace
      (λ some. refl)
      (λ d z other at_z generation active. rw holder.grace (λ old. old))

  -- whoever is active on a processor that was flipped just now, or before, is older
  older_flipped : (p n : ℕ) → p < n → scene.course.stage ≡ graces.Flipping p → (d : ℕ) (z : Caller) → z.proc < n
      → IsActiveInStep scene.course d z → (generation : ℕ) → z.active ≡ Some generation
      → IsOlder scene.course z → is_flipped (turns.after_flip p n) z.proc ≡ true → z.active ≡ Some scene.course.base
  older_flipped p n lt at_stage d z within in_step generation active older flipped =
      ⊎_elim
      (λ (here : z.proc ≡ p).
      let unflipped : is_flipped scene.course.stage z.proc ≡ false = rw (at_stage, here) (le-ltb p p (omega arith)) in
      let own : generation ≡ scene.course.base = rw unflipped at (in_step generation active) in
      active ∙ ap (λ n. Some n) own)
      (λ (other : z.proc ≢ p). older (rw at_stage (sym (flipped-after_flip_else p n lt z.proc within other) ∙ flipped)))
      (cases_eq z.proc p)

  pub keeps_flip : turns.is_possible s.turns (Flip c) ≡ true
      → IsInScene (record { course = course_after scene.course s.turns (Flip c); objects = scene.objects; looks = scene.looks })
      (record s { turns = turns.effect s.turns (Flip c); callers = set s.callers c x })
  keeps_flip possible =
      let p : ℕ = turns.place_of g.grace in
      let n : ℕ = length s.turns.procs in
      let grace : g.grace ≡ graces.Flipping p = from_is_flipping g.grace (and_parts _ _ possible).0 in
      let busy : g.grace ≢ graces.Idle = λ idle. absurd (cc) in
      let holder = (held busy).1 in
      let at_stage : scene.course.stage ≡ graces.Flipping p = sym holder.grace ∙ grace in
      let rest = known.at_rest holder.inactive in
      let g' : Caller = turns.caller_flipped g (turns.turn_of s.turns c) n in
      let next = after_flip_busy p n in
      let lt : p < n = rw h.in_course.many_procs (rw at_stage at h.in_course.stage).1 in
      keeps_course (course_after scene.course s.turns (Flip c)) (turns.effect s.turns (Flip c)) g' x
      (slice_get-set_here s.turns.callers c g' there)
      (only_caller s.turns (Flip c) there).other_callers
      (keeps_effect scene.course s.turns (Flip c) h.in_course there possible)
      refl refl refl rest.0 rest.0 rest.1 refl refl refl
      (λ o named. holder.inactive)
      (GraceFits-on x.swap g.grace (turns.after_flip p n) busy next.0 next.1 known.swap_alone.grace)
      (λ some. same_busy g.grace (turns.after_flip p n) busy next.0)
      (λ d z other at_z generation active older.
      older_flipped p n lt at_stage d z (rw h.in_course.many_procs (h.in_course.placed d z at_z).proc) (h.in_course.activities_in_step d z at_z) generation active older)

  -- a look that leaves the grace where it is, or goes on to the next processor
  pub looked_on : (turns' : Generations) (course' : Course) (g' : Caller)
      → slice_get turns'.callers c ≡ Some g'
      → ((i : ℕ) → i ≢ c → slice_get turns'.callers i ≡ slice_get s.turns.callers i)
      → IsInCourse course' turns' → course'.procs ≡ scene.course.procs → course'.callers ≡ scene.course.callers
      → course'.holder ≡ scene.course.holder → course'.base ≡ scene.course.base
      → g.grace ≡ graces.Looking (turns.place_of g.grace)
      → (p : ℕ) → g'.grace ≡ graces.Looking p → g'.active ≡ g.active
      → IsInScene (record { course = course'; objects = scene.objects; looks = scene.looks }) (record s { turns = turns'; callers = set s.callers c x })
  looked_on turns' course' g' now else kept procs callers same base looking p grace' active' =
      let busy : g.grace ≢ graces.Idle = λ idle. absurd (cc) in
      let holder = (held busy).1 in
      let at_stage = sym holder.grace ∙ looking in
      let rest = known.at_rest holder.inactive in
      keeps_course course' turns' g' x now else kept procs callers same rest.0 rest.0 rest.1 refl refl refl
      (λ o named. active' ∙ holder.inactive)
      (GraceFits-on x.swap g.grace g'.grace busy (λ idle. cc) (λ quiet. cc) known.swap_alone.grace)
      (λ some. same_busy g.grace g'.grace busy (λ idle. cc))
      (λ d z other at_z generation active older flipped. rw base (older (rw at_stage refl)))
