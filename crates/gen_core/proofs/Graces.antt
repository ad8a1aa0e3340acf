-- The holder of the role keeps every fact: it takes the role, looks ahead, flips, passes and gives the role back.
use Rattle.std.proofs.Common.{◌≡◌, ℕ, ◌+◌, ◌-◌, ◌^◌, ◌<◌, ◌≢◌, ◌⊎◌, ◌∙◌, Bool, true, false, not, cond, ltb, eqb, List, Option, Some, None, length, get_or, set, length-set, sym, refl, ap, inl, inr, ⊎_elim, arith}
use Rattle.std.specs.Option.{IsSomeAnd, unwrap_or}
use Rattle.std.specs.List.{slice_get, slice_index, list_all}
use Rattle.std.proofs.lemmas.Option.{same_Some, slice_get_within, slice_get-get_or}
use Rattle.std.proofs.lemmas.List.{get_or-set_same, get_or-set_other}
use Rattle.std.proofs.lemmas.Bool.{cases_Bool, cases_eq, ltb-true, le-ltb, eqb-true, eq-eqb, false≢true}
use Rattle.std.proofs.lemmas.Bool.Decides.{nat_tests}
use Rattle.gen_core.specs.declared.state.GenProc.{GenProc}
use Rattle.gen_core.specs.declared.state.GraceAt.{GraceAt}
use Rattle.gen_core.specs.declared.state.GraceAt.TheVariants.{Idle, Flipping, Looking, Quiet}
use Rattle.gen_core.specs.Plain.{Caller, Generations}
use Rattle.k42_places.specs.Places.{EachPlace}
use Rattle.gen_core.specs.State.{fresh_proc, put_proc, put_caller}
use Rattle.gen_core.specs.Events.{is_even, exits_of, other_exits, role_taken, looked_ahead, after_flip, proc_flipped, after_look, role_given}
use Rattle.gen_core.specs.Sound.{Course, is_flipped, is_passed, holds_role, is_in, is_active_in, active_in, StageFits, IsHolderOrIdle, IsInStep, IsOfStep, IsActiveInStep, IsCounted, FitsField, IsInCourse}
use Rattle.k42_places.proofs.EachPlaces.{EachPlace-set, EachPlace-set_else, EachPlace-list_all}
use Rattle.k42_places.proofs.Counts.{count_by_none, count_by_zero}
use Rattle.gen_core.proofs.Stages.{is_even-next, passed-after_flip, flipped-after_flip_here, flipped-after_flip_else, flipped-after_look, passed-after_look_here, passed-after_look_else}
use Rattle.gen_core.proofs.Frames.{with_grace, steered, holder_from_grace, keeps_grace}

-- no other caller holds the role
holds_alone : (holder : Option ℕ) (c i : ℕ) → holds_role holder c ≡ true → i ≢ c → holds_role holder i ≡ false
holds_alone None c i holds other = refl
holds_alone (Some holder) c i holds other = grind (arith, nat_tests)

pub idle_stage : (course : Course) (stage : GraceAt) → StageFits course stage → course.holder ≡ None → stage ≡ Idle
idle_stage course Idle fits none = refl
idle_stage course (Flipping p) fits none = absurd (rw none at fits.0)
idle_stage course (Looking p) fits none = absurd (rw none at fits.0)
idle_stage course Quiet fits none = absurd (rw none at fits.0)

none_below : (p : ℕ) → ltb p 0 ≡ false
none_below p = le-ltb p 0 (omega arith)

-- a list of processors that is not empty has a first one
first_proc : (procs : List GenProc) → 0 < length procs → slice_get procs 0 ≡ Some (get_or procs 0 fresh_proc)
first_proc procs some = slice_get-get_or procs 0 fresh_proc some

module _ (course : Course) (s : Generations) (h : IsInCourse course s) (c : ℕ) (x : Caller) (at_c : slice_get s.callers c ≡ Some x) where
  pub keeps_taken : s.role ≡ None → x.grace ≡ Idle → x.active ≡ None
      → list_all (λ k. ltb k.generation (2 ^ 32 - 1)) s.procs ≡ true
      → IsInCourse (steered course course.base (Some c) (role_taken x)) (record (put_caller s c (role_taken x)) { role = Some c })
  keeps_taken free idle inactive room =
      let none : course.holder ≡ None = sym h.role ∙ free in
      let at_stage : course.stage ≡ Idle = idle_stage course course.stage h.stage none in
      let no_holder : IsHolderOrIdle course c x = h.one_role_holder c x at_c in
      let unknown = (rw none at no_holder).coming in
      let there : c < length s.callers = slice_get_within s.callers c x at_c in
      let some : 0 < length s.procs = rw h.many_procs h.limits.some_procs in
      let first = first_proc s.procs some in
      let room_first = ltb-true (get_or s.procs 0 fresh_proc).generation (2 ^ 32 - 1) (EachPlace-list_all (λ k. ltb k.generation (2 ^ 32 - 1)) s.procs room 0 (get_or s.procs 0 fresh_proc) first) in
      let base_first = rw at_stage at (h.generations_in_step 0 (get_or s.procs 0 fresh_proc) first) in
      keeps_grace course s h c x at_c course.base (Some c) (Some c) (Flipping 0) x.coming x.waits s.procs
      refl h.many_procs (h.placed c x at_c).waits
      (rw (← h.many_callers) there, h.limits.some_procs, omega (arith, room_first, base_first))
      inactive
      (grind (arith, nat_tests))
      (λ i other. (rw none refl, grind (arith, nat_tests)))
      (λ p k at_p next exits known. absurd (cc))
      (λ p k at_p. rw (none_below p) (rw at_stage at (h.generations_in_step p k at_p)))
      (λ i z at_i old generation active. rw (none_below z.proc) (rw at_stage at (old generation active)))
      (λ p k at_p. let old = h.counted_generations p k at_p in
      record {
        present = old.present;
        former = λ flipped passed. let unflipped = none_below p in absurd (cc);
      })
      h.no_generation_passes_its_field

  pub keeps_looked_ahead : (p : ℕ) (k : GenProc) → slice_get s.procs p ≡ Some k → x.grace ≡ Flipping p
      → IsInCourse (steered course course.base course.holder (looked_ahead x k)) (put_caller s c (looked_ahead x k))
  keeps_looked_ahead p k at_p grace =
      let held = holder_from_grace course s h c x at_c (λ idle. let g = grace in absurd (cc)) in
      let holder = held.1 in
      let at_stage : course.stage ≡ Flipping p = sym holder.grace ∙ grace in
      let fits = rw at_stage at h.stage in
      keeps_grace course s h c x at_c course.base course.holder s.role x.grace (Some (other_exits k)) x.waits s.procs
      h.role h.many_procs (h.placed c x at_c).waits
      (rw grace (fits.0, fits.1, fits.2))
      holder.inactive
      (rw held.0 (record { grace = refl; waits = refl; coming = refl; inactive = holder.inactive }))
      (λ i other. let f = holds_alone course.holder c i held.0 other in (f, f))
      (λ q l at_q next exits known.
      let same : p ≡ q = eqb-true p q (rw grace at next) in
      let found : slice_get s.procs q ≡ Some k = rw (← same) at_p in
      let proc : k ≡ l = same_Some k l (sym found ∙ at_q) in
      rw (← proc) (sym (same_Some (other_exits k) exits known)))
      (rw holder.grace h.generations_in_step)
      (rw holder.grace (λ i z at_i old. old))
      (λ q l at_q. let old = h.counted_generations q l at_q in
      rw (holder.grace, holder.waits) (record { present = old.present; former = old.former }))
      h.no_generation_passes_its_field

  pub keeps_given : x.grace ≡ Quiet → IsInCourse (steered course (course.base + 1) None (role_given x)) (record (put_caller s c (role_given x)) { role = None })
  keeps_given grace =
      let held = holder_from_grace course s h c x at_c (λ idle. let g = grace in absurd (cc)) in
      let holder = held.1 in
      let at_stage : course.stage ≡ Quiet = sym holder.grace ∙ grace in
      let fits = rw at_stage at h.stage in
      keeps_grace course s h c x at_c (course.base + 1) None None Idle x.coming x.waits s.procs
      refl h.many_procs (h.placed c x at_c).waits
      (refl, holder.coming ∙ fits.1)
      holder.inactive
      (record { grace = refl; coming = holder.coming ∙ fits.1 })
      (λ i other. (holds_alone course.holder c i held.0 other, refl))
      (λ p k at_p next exits known. absurd (cc))
      (λ p k at_p. rw at_stage at (h.generations_in_step p k at_p))
      (λ i z at_i old generation active. rw at_stage at (old generation active))
      (λ p k at_p. let old = h.counted_generations p k at_p in
      record { present = old.present; former = λ flipped passed. absurd (cc) })
      h.no_generation_passes_its_field

-- a grace that has flipped or passed one more processor fits

StageFits-after_flip : (course : Course) (p : ℕ) (b : Bool) → ltb (p + 1) course.procs ≡ b
    → IsSomeAnd course.holder (λ i. i < course.callers) → p < course.procs
    → course.base + 1 < 2 ^ 32 → course.coming ≡ None → StageFits course (cond b (Flipping (p + 1)) (Looking 0))
StageFits-after_flip course p true more holder there room unknown = (holder, ltb-true (p + 1) course.procs more, room)
StageFits-after_flip course p false last holder there room unknown = (holder, omega arith, unknown)

StageFits-after_look : (course : Course) (p : ℕ) (b : Bool) → ltb (p + 1) course.procs ≡ b
    → IsSomeAnd course.holder (λ i. i < course.callers)
    → course.coming ≡ None → StageFits course (cond b (Looking (p + 1)) Quiet)
StageFits-after_look course p true more holder unknown = (holder, ltb-true (p + 1) course.procs more, unknown)
StageFits-after_look course p false last holder unknown = (holder, unknown)

-- where p is not flipped, nobody is active there in a later generation

is_in_later : (active : Option ℕ) (base : ℕ) → ((g : ℕ) → active ≡ Some g → g ≡ base)
    → is_in active (base + 1) ≡ false
is_in_later None base own = refl
is_in_later (Some g) base own = let e = own g refl in grind (arith, nat_tests)

nobody_later : (course : Course) (callers : List Caller) (p : ℕ) → EachPlace (IsActiveInStep course) callers
    → is_flipped course.stage p ≡ false
    → active_in callers p (course.base + 1) ≡ 0
nobody_later course callers p in_step unflipped = count_by_none (is_active_in p (course.base + 1)) callers (λ i z at_i. at_proc z (in_step i z at_i) (cases_Bool (eqb z.proc p))) where
  at_proc : (z : Caller)
      → ((g : ℕ) → z.active ≡ Some g → IsOfStep course.base (is_flipped course.stage z.proc) (is_passed course.stage z.proc) g)
      → (eqb z.proc p ≡ true) ⊎ (eqb z.proc p ≡ false) → is_active_in p (course.base + 1) z ≡ false
  at_proc z step (inl here) =
      let same : z.proc ≡ p = eqb-true z.proc p here in
      rw (here, is_in_later z.active course.base (λ g active. rw (same, unflipped) at (step g active))) refl
  at_proc z step (inr else) = rw else refl

-- the exits of the other parity, one generation on, are those of the former one
pub other_exits_former : (k : GenProc) (base : ℕ) → k.generation ≡ base + 1 → other_exits k ≡ exits_of k (is_even base)
other_exits_former k base ahead = rw (ahead, is_even-next base) (twice (is_even base)) where
  twice : (b : Bool) → exits_of k (not (not b)) ≡ exits_of k b
  twice true = refl
  twice false = refl

module _ (course : Course) (s : Generations) (h : IsInCourse course s) (c : ℕ) (x : Caller) (at_c : slice_get s.callers c ≡ Some x)
    (p : ℕ) (k : GenProc) (at_p : slice_get s.procs p ≡ Some k) where
  pub keeps_flipped : x.grace ≡ Flipping p → (exits : ℕ) → x.coming ≡ Some exits
      → IsInCourse (steered course course.base course.holder (with_grace x (after_flip p (length s.procs)) None (set x.waits p k.entered)))
      (put_proc (put_caller s c (with_grace x (after_flip p (length s.procs)) None (set x.waits p k.entered))) p (proc_flipped k x.coming))
  keeps_flipped grace exits known =
      let held = holder_from_grace course s h c x at_c (λ idle. absurd (cc)) in
      let holder = held.1 in
      let at_stage : course.stage ≡ Flipping p = sym holder.grace ∙ grace in
      let fits = rw at_stage at h.stage in
      let n : ℕ = length s.procs in
      let there : p < n = slice_get_within s.procs p k at_p in
      let y : Caller = with_grace x (after_flip p n) None (set x.waits p k.entered) in
      let next : Course = steered course course.base course.holder y in
      let unflipped : is_flipped course.stage p ≡ false = rw at_stage (le-ltb p p (omega arith)) in
      let at_base : k.generation ≡ course.base = rw unflipped at (h.generations_in_step p k at_p) in
      let old = h.counted_generations p k at_p in
      let coming : exits ≡ other_exits k = h.known_ahead p k at_p (rw at_stage (eq-eqb p p refl)) exits (sym holder.coming ∙ known) in
      let entered : unwrap_or x.coming 0 ≡ exits = rw known refl in
      let none_later = nobody_later course s.callers p h.activities_in_step unflipped in
      let noted : p < length x.waits = rw ((h.placed c x at_c).waits, ← h.many_procs) there in
      keeps_grace course s h c x at_c course.base course.holder s.role (after_flip p n) None (set x.waits p k.entered) (set s.procs p (proc_flipped k x.coming))
      h.role (length-set s.procs p (proc_flipped k x.coming) ∙ h.many_procs) (length-set x.waits p k.entered ∙ (h.placed c x at_c).waits)
      (rw h.many_procs (StageFits-after_flip next p (ltb (p + 1) course.procs) refl fits.0 fits.1 fits.2 refl))
      holder.inactive
      (rw held.0 (record { grace = refl; waits = refl; coming = refl; inactive = holder.inactive }))
      (λ i other. let f = holds_alone course.holder c i held.0 other in (f, f))
      (λ q l at_q is_next_is exits' known'. absurd (cc))
      (EachPlace-set_else (IsInStep course) (IsInStep next) s.procs p (proc_flipped k x.coming) h.generations_in_step
      (rw (flipped-after_flip_here p n there, at_base) refl)
      (λ q l other at_q in_step. rw (flipped-after_flip_else p n there q (slice_get_within s.procs q l at_q) other) (rw at_stage at in_step)))
      (λ i z at_i step generation active.
      let within : z.proc < n = rw h.many_procs (h.placed i z at_i).proc in
      ⊎_elim
      (λ (here : z.proc ≡ p).
      let former : generation ≡ course.base = rw (here, unflipped) at (step generation active) in
      rw (here, flipped-after_flip_here p n there, passed-after_flip p n there p there) (inl former))
      (λ (other : z.proc ≢ p). rw (flipped-after_flip_else p n there z.proc within other, passed-after_flip p n there z.proc within) (rw at_stage at (step generation active)))
      (cases_eq z.proc p))
      (EachPlace-set_else (IsCounted course s.callers) (IsCounted next s.callers) s.procs p (proc_flipped k x.coming) h.counted_generations
      (record {
        present =
            let later : active_in s.callers p (k.generation + 1) ≡ 0 = rw at_base none_later in
            rw (entered, is_even-next k.generation, later) (omega (arith, coming));
        former = λ flipped passed. get_or-set_same x.waits p k.entered 0 noted ∙ rw at_base at old.present;
      })
      (λ q l other at_q was.
      let within : q < n = slice_get_within s.procs q l at_q in
      let was_flipped : is_flipped (after_flip p n) q ≡ true → is_flipped course.stage q ≡ true =
      λ flipped. rw at_stage (sym (flipped-after_flip_else p n there q within other) ∙ flipped) in
      let was_waits : slice_index (set x.waits p k.entered) q ≡ slice_index course.waits q =
      get_or-set_other x.waits p q k.entered 0 other ∙ ap (λ w. slice_index w q) holder.waits in
      record {
        present = was.present;
        former = λ flipped passed. was_waits ∙ was.former (was_flipped flipped) (rw at_stage refl);
      }))
      (EachPlace-set FitsField s.procs p (proc_flipped k x.coming) h.no_generation_passes_its_field (rw at_base fits.2))

  pub keeps_passed : x.grace ≡ Looking p → other_exits k ≡ slice_index x.waits p
      → IsInCourse (steered course course.base course.holder (with_grace x (after_look p (length s.procs)) x.coming x.waits))
      (put_caller s c (with_grace x (after_look p (length s.procs)) x.coming x.waits))
  keeps_passed grace drained =
      let held = holder_from_grace course s h c x at_c (λ idle. absurd (cc)) in
      let holder = held.1 in
      let at_stage : course.stage ≡ Looking p = sym holder.grace ∙ grace in
      let fits = rw at_stage at h.stage in
      let n : ℕ = length s.procs in
      let there : p < n = slice_get_within s.procs p k at_p in
      let y : Caller = with_grace x (after_look p n) x.coming x.waits in
      let next : Course = steered course course.base course.holder y in
      let old = h.counted_generations p k at_p in
      let was_passed : is_passed course.stage p ≡ false = rw at_stage (le-ltb p p (omega arith)) in
      let ahead : k.generation ≡ course.base + 1 = rw at_stage at (h.generations_in_step p k at_p) in
      let former = old.former (rw at_stage refl) was_passed in
      let all_left : active_in s.callers p course.base ≡ 0 =
      let waits : slice_index x.waits p ≡ slice_index course.waits p = ap (λ w. slice_index w p) holder.waits in
      omega (arith, former, waits, drained, other_exits_former k course.base ahead) in
      let nobody = count_by_zero (is_active_in p course.base) s.callers all_left in
      keeps_grace course s h c x at_c course.base course.holder s.role (after_look p n) x.coming x.waits s.procs
      h.role h.many_procs (h.placed c x at_c).waits
      (rw h.many_procs (StageFits-after_look next p (ltb (p + 1) course.procs) refl fits.0 (holder.coming ∙ fits.2)))
      holder.inactive
      (rw held.0 (record { grace = refl; waits = refl; coming = refl; inactive = holder.inactive }))
      (λ i other. let f = holds_alone course.holder c i held.0 other in (f, f))
      (λ q l at_q is_next_is exits known. let unknown : x.coming ≡ None = holder.coming ∙ fits.2 in absurd (cc))
      (λ q l at_q. rw (flipped-after_look p n there q (slice_get_within s.procs q l at_q)) (rw at_stage at (h.generations_in_step q l at_q)))
      (λ i z at_i step generation active.
      let within : z.proc < n = rw h.many_procs (h.placed i z at_i).proc in
      ⊎_elim
      (λ (here : z.proc ≡ p).
      let now : generation ≡ course.base + 1 = ⊎_elim
      (λ was. absurd (left_behind z generation active here was (nobody i z at_i)))
      (λ e. e)
      (rw (here, at_stage, le-ltb p p (omega arith)) at (step generation active)) in
      rw (here, flipped-after_look p n there p there, passed-after_look_here p n there) now)
      (λ (other : z.proc ≢ p). rw (flipped-after_look p n there z.proc within, passed-after_look_else p n there z.proc within other) (rw at_stage at (step generation active)))
      (cases_eq z.proc p))
      (λ q l at_q.
      let was = h.counted_generations q l at_q in
      let within : q < n = slice_get_within s.procs q l at_q in
      let not_passed : is_passed (after_look p n) q ≡ false → is_passed course.stage q ≡ false =
      λ passed. ⊎_elim
      (λ (here : q ≡ p). let p_passed = passed-after_look_here p n there in absurd (false≢true (sym passed ∙ rw here p_passed)))
      (λ (other : q ≢ p). rw at_stage (sym (passed-after_look_else p n there q within other) ∙ passed))
      (cases_eq q p) in
      rw holder.waits (record {
        present = was.present;
        former = λ flipped passed. was.former (rw at_stage refl) (not_passed passed);
      }))
      h.no_generation_passes_its_field
    where
      left_behind : (z : Caller) (generation : ℕ) → z.active ≡ Some generation → z.proc ≡ p
          → generation ≡ course.base → is_active_in p course.base z ≡ false → ⊥
      left_behind z generation active here was fails =
          let passes : is_active_in p course.base z ≡ true = rw (active, here, was) (grind (arith, nat_tests)) in cc
