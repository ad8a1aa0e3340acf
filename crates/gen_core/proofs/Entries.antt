-- The entries of a processor so far, exits and activities under way, rise at an Enter there and else stay.
use Rattle.std.proofs.Common.{◌≡◌, ℕ, ◌+◌, ◌<◌, ◌≢◌, ◌⊎◌, Bool, true, false, cond, eqb, List, Option, Some, None, length, set, sym, refl, ⊎_elim, arith}
use Rattle.std.specs.List.{slice_get, count_by}
use Rattle.std.specs.Option.{is_some}
use Rattle.std.proofs.Math.Nat.{add-zero}
use Rattle.std.proofs.lemmas.Bool.{and_parts, cases_eq, eq-eqb, ne_eqb}
use Rattle.std.proofs.lemmas.Bool.Decides.{nat_tests}
use Rattle.std.proofs.lemmas.List.{get_or-set_same, get_or-set_other}
use Rattle.k42_places.proofs.Written.{get_or-set_related}
use Rattle.k42_places.proofs.Counts.{count_by-set_same, count_by-set_more, count_by-set_less}
use Rattle.gen_core.specs.declared.event.GenEvent.{GenEvent}
use Rattle.gen_core.specs.declared.event.GenEvent.TheVariants.{Enter, Leave, TakeRole, LookAhead, Flip, Look, GiveRole}
use Rattle.gen_core.specs.declared.state.GenProc.{GenProc}
use Rattle.gen_core.specs.Plain.{Caller, Generations}
use Rattle.gen_core.specs.State.{fresh_proc, proc_at, caller_at, put_proc, put_caller}
use Rattle.gen_core.specs.Events.{is_even, is_idle, place_of, exit_counted, caller_entered, proc_entered, caller_left, proc_left, role_taken, looked_ahead, caller_flipped, proc_flipped, caller_passed, role_given, is_drained, home_of, turn_of, taken, is_possible, effect, happens, caller_of}
use Rattle.gen_core.specs.Sound.{IsSound}
use Rattle.gen_core.specs.Consequences.{is_active_on, exits_so_far, entries_so_far, entries_by}
use Rattle.gen_core.proofs.Stages.{from_is_none}
use Rattle.gen_core.proofs.Courses.{at_caller, proc_there}

abbrev active_on : List Caller → ℕ → ℕ
active_on callers p = count_by (is_active_on p) callers

abbrev SameExits : GenProc → GenProc → Type 0
SameExits k l = exits_so_far l ≡ exits_so_far k

exit_more : (k : GenProc) (even : Bool) → exits_so_far (exit_counted k even) ≡ exits_so_far k + 1
exit_more k true = omega arith
exit_more k false = omega arith

module _ (s : Generations) (sound : IsSound s) (c : ℕ) (there : c < length s.callers) (p : ℕ) where
  at_c : slice_get s.callers c ≡ Some (caller_at s c)
  at_c = at_caller sound.course s sound.in_course c there

  abbrev home : ℕ
  home = (caller_at s c).proc

  -- one caller changes but for its activity, and a processor but for its exits
  same_entries : (role : Option ℕ) (q : ℕ) (x : Caller) (k : GenProc) → x.proc ≡ (caller_at s c).proc → x.active ≡ (caller_at s c).active
      → SameExits (proc_at s q) k
      → entries_so_far (record { procs = set s.procs q k; callers = set s.callers c x; role = role }) p ≡ entries_so_far s p
  same_entries role q x k proc active exits =
      omega (
        arith,
        get_or-set_related SameExits (λ l. refl) s.procs q p k fresh_proc exits,
        count_by-set_same (is_active_on p) s.callers c (caller_at s c) x at_c (rw (proc, active) refl),
      )

  same_but_role : (role : Option ℕ) (x : Caller) → x.proc ≡ (caller_at s c).proc → x.active ≡ (caller_at s c).active
      → entries_so_far (record { procs = s.procs; callers = set s.callers c x; role = role }) p ≡ entries_so_far s p
  same_but_role role x proc active =
      omega (arith, count_by-set_same (is_active_on p) s.callers c (caller_at s c) x at_c (rw (proc, active) refl))

  -- the caller's home is p, or not
  at_home_or_else : (home ≡ p) ⊎ (home ≢ p)
  at_home_or_else = cases_eq home p

  entered_rises : (caller_at s c).active ≡ None
      → entries_so_far (put_proc (put_caller s c (caller_entered (caller_at s c) (home_of s c))) home (proc_entered (home_of s c))) p
      ≡ entries_so_far s p + cond (eqb home p) 1 0
  entered_rises inactive =
      let exits = get_or-set_related SameExits (λ l. refl) s.procs home p (proc_entered (home_of s c)) fresh_proc refl in
      ⊎_elim
      (λ (here : home ≡ p).
      let more = count_by-set_more (is_active_on p) s.callers c (caller_at s c) (caller_entered (caller_at s c) (home_of s c)) at_c
      (rw inactive (grind (arith, nat_tests))) (rw (eq-eqb home p here) refl) in
      rw (eq-eqb home p here) (omega (arith, exits, more)))
      (λ (else : home ≢ p).
      let same = count_by-set_same (is_active_on p) s.callers c (caller_at s c) (caller_entered (caller_at s c) (home_of s c)) at_c
      (rw (ne_eqb home p else) refl) in
      rw (ne_eqb home p else) (omega (arith, exits, same)))
      at_home_or_else

  left_stays : (active : Option ℕ) → (caller_at s c).active ≡ active → is_some active ≡ true
      → entries_so_far (put_proc (put_caller s c (caller_left (caller_at s c))) home (proc_left (home_of s c) active)) p ≡ entries_so_far s p
  left_stays None e possible = absurd (cc)
  left_stays (Some generation) e possible =
      let k : GenProc = exit_counted (home_of s c) (is_even generation) in
      ⊎_elim
      (λ (here : home ≡ p).
      let less = count_by-set_less (is_active_on p) s.callers c (caller_at s c) (caller_left (caller_at s c)) at_c
      (rw (eq-eqb home p here, e) refl) (rw (eq-eqb home p here) refl) in
      let own : proc_at (put_proc s home k) p ≡ k =
      rw (← here) (get_or-set_same s.procs home k fresh_proc (proc_there sound.course s sound.in_course c there)) in
      let more : exits_so_far k ≡ exits_so_far (proc_at s p) + 1 = rw (← here) (exit_more (home_of s c) (is_even generation)) in
      rw own (omega (arith, less, more)))
      (λ (else : home ≢ p).
      let same = count_by-set_same (is_active_on p) s.callers c (caller_at s c) (caller_left (caller_at s c)) at_c
      (rw (ne_eqb home p else) refl) in
      let other = get_or-set_other s.procs home p k fresh_proc (λ e. else (sym e)) in
      rw other (omega (arith, same)))
      at_home_or_else

module _ (s : Generations) (sound : IsSound s) (p : ℕ) where
  effect_entries : (event : GenEvent) → caller_of event < length s.callers → is_possible s event ≡ true
      → entries_so_far (effect s event) p ≡ entries_so_far s p + entries_by s event p
  effect_entries (Enter c) there possible =
      let alone = and_parts (is_idle (caller_at s c).grace) _ possible in
      rw possible (entered_rises s sound c there p (from_is_none (caller_at s c).active alone.1))
  effect_entries (Leave c) there possible = rw add-zero (left_stays s sound c there p (caller_at s c).active refl possible)
  effect_entries (TakeRole c) there possible = rw add-zero (by_role s.role) where
    by_role : (role : Option ℕ) → entries_so_far (taken s c role) p ≡ entries_so_far s p
    by_role None = same_but_role s sound c there p (Some c) (role_taken (caller_at s c)) refl refl
    by_role (Some holder) = refl
  effect_entries (LookAhead c) there possible =
      rw add-zero (same_but_role s sound c there p s.role (looked_ahead (caller_at s c) (turn_of s c)) refl refl)
  effect_entries (Flip c) there possible =
      rw add-zero (same_entries s sound c there p s.role (place_of (caller_at s c).grace) (caller_flipped (caller_at s c) (turn_of s c) (length s.procs))
      (proc_flipped (turn_of s c) (caller_at s c).coming) refl refl refl)
  effect_entries (Look c) there possible = rw add-zero (by_test (is_drained (caller_at s c) (turn_of s c))) where
    by_test : (drained : Bool)
        → entries_so_far (cond drained (put_caller s c (caller_passed (caller_at s c) (length s.procs))) s) p ≡ entries_so_far s p
    by_test true = same_but_role s sound c there p s.role (caller_passed (caller_at s c) (length s.procs)) refl refl
    by_test false = refl
  effect_entries (GiveRole c) there possible = rw add-zero (same_but_role s sound c there p None (role_given (caller_at s c)) refl refl)

-- what is not possible is no entry
none_by : (s : Generations) (event : GenEvent) (p : ℕ) → is_possible s event ≡ false → entries_by s event p ≡ 0
none_by s (Enter c) p possible = rw possible refl
none_by s (Leave c) p possible = refl
none_by s (TakeRole c) p possible = refl
none_by s (LookAhead c) p possible = refl
none_by s (Flip c) p possible = refl
none_by s (Look c) p possible = refl
none_by s (GiveRole c) p possible = refl

pub entries_rise : (s : Generations) (event : GenEvent) (p : ℕ) → IsSound s → caller_of event < length s.callers
    → entries_so_far (happens s event) p ≡ entries_so_far s p + entries_by s event p
entries_rise s event p sound there = by_test (is_possible s event) refl where
  by_test : (b : Bool) → is_possible s event ≡ b
      → entries_so_far (cond b (effect s event) s) p ≡ entries_so_far s p + entries_by s event p
  by_test true possible = effect_entries s sound p event there possible
  by_test false possible = omega (arith, none_by s event p possible)
