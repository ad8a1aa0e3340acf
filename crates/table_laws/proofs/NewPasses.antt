-- What a state has of callers whose passes are new: no generation, nobody inside, no role and no drawn entry.
use Rattle.std.proofs.Common.{◌≡◌, ℕ, ◌+◌, ◌<◌, ◌≤◌, ◌∙◌, ◌&&◌, Bool, true, false, eqb, List, Option, Some, None, length, map, replicate, get_or, refl, sym, ap, subst, ⊎_elim, arith, ext_get_or}
use Rattle.std.specs.List.{slice_get, slice_index}
use Rattle.std.specs.Prelude.{sum}
use Rattle.std.proofs.lemmas.Bool.{cases_lt}
use Rattle.std.proofs.lemmas.List.{get_or-map, get_or_default, get_or_past, length-map, length-replicate}
use Rattle.std.proofs.lemmas.List.Sums.{sum_by-le}
use Rattle.std.proofs.Math.ListN.{get_or-replicate}
use Rattle.std.proofs.lemmas.Option.{same_Some, slice_get-get_or, slice_get_within}
use Rattle.atomic_table.specs.Table.{State}
use Rattle.k42_places.proofs.Counts.{count_by_none}
use Rattle.gen_core.specs.Events.{is_even, exits_of}
use Rattle.gen_core.specs.Plain.{Caller, Generations}
use Rattle.gen_core.specs.Sound.{active_in, is_active_in, is_in}
use Rattle.gen_core.specs.State as gens
use Rattle.gen_core.specs.declared.state.GenProc.{GenProc}
use Rattle.gen_core.proofs.Reached.{counts_agree, one_holder, role_there}
use Rattle.phase_core.specs.State.{visitor_at, fresh_visitor, new_visitor}
use Rattle.phase_core.proofs.Ranges.{turns_sound}
use Rattle.phase_core.proofs.Reached.{same_callers}
use Rattle.turn_core.specs.Plain.{Turns}
use Rattle.turn_core.specs.State as turns
use Rattle.k42_stamp.specs.Layouts.{Layouts}
use Rattle.k42_joined.specs.Plain.{Joined}
use Rattle.k42_joined.specs.State.{nothing_kept}
use Rattle.k42_board.specs.Cells.{Slot}
use Rattle.k42_board.specs.Generations.{AreFew, in_words}
use Rattle.k42_board.specs.Rule.{Ruled, KnowsPass}
use Rattle.k42_board.specs.Views.{new_pass}
use Rattle.k42_board.specs.declared.view.View.{View}
use Rattle.table_laws.specs.Opening.{HasSeat, AreNewPasses, IsVacant}

none_begun : (callers : ℕ) (begun : List ℕ) → AreFew callers begun → ((c : ℕ) → c < callers → slice_index begun c ≡ 0) → sum begun ≤ 0
none_begun callers begun are none =
    let most = sum_by-le (λ (n : ℕ). n) 0 begun (λ i d lt.
    let is = get_or_default begun i d 0 lt in let zero_is = none i (rw are.many at lt) in omega (arith, is, zero_is)) in
    omega (arith, most)

inactive : (p generation : ℕ) (x : Caller) → x.active ≡ None → is_active_in p generation x ≡ false
inactive p generation x none = ap (λ active. eqb x.proc p && is_in active generation) none ∙ and_false (eqb x.proc p) where
  and_false : (b : Bool) → (b && false) ≡ false
  and_false true = refl
  and_false false = refl

module _ {S L P O R : Type 0} (F : Layouts S L P O R) (declared : List L) (callers : List ℕ) (table : State (Slot P O R) (View P O R))
    (r : Ruled F declared (length callers) table) (new : AreNewPasses F.procs (map F.shapes_of declared) callers table.views) where
  abbrev pub s : Joined L O R
  s = r.rule.state

  abbrev pub g : Generations
  g = r.rule.state.phases.turns

  abbrev pub t : Turns O R
  t = r.rule.state.turns

  abbrev home_of : ℕ → ℕ
  home_of c = get_or callers c 0

  seat_of : (c : ℕ) → c < length callers → HasSeat table.views (new_pass F.procs (map F.shapes_of declared) c (home_of c))
  seat_of c there = new c (home_of c) (slice_get-get_or callers c 0 there)

  known : (c : ℕ) (there : c < length callers)
      → KnowsPass F.tag_of s r.rule.beside (seat_of c there).id (new_pass F.procs (map F.shapes_of declared) c (home_of c))
  known c there =
      let seat = seat_of c there in
      (r.rule.seats seat.id _ seat.there).1 seat.place _ seat.has

  pub many_turning : length g.callers ≡ length callers
  many_turning = sym (same_callers s.phases r.rule.sound.phases) ∙ r.many

  pub many_drawing : length t.callers ≡ length callers
  many_drawing = r.rule.sound.cells.locks.many.callers ∙ r.many

  -- each caller is as it began, as far as words tell
  pub turning_is : map in_words g.callers ≡ map (gens.fresh_caller F.procs) callers
  turning_is =
      ext_get_or (gens.fresh_caller F.procs 0) (map in_words g.callers) (map (gens.fresh_caller F.procs) callers)
      (length-map g.callers in_words ∙ many_turning ∙ sym (length-map callers (gens.fresh_caller F.procs)))
      (λ c lt. let within : c < length g.callers = rw (length-map g.callers in_words) at lt in let there : c < length callers = rw many_turning at within in
      get_or-map in_words g.callers c _ _ within ∙ (known c there).generations.turn
      ∙ sym (get_or-map (gens.fresh_caller F.procs) callers c 0 _ there))

  pub visitors_are : s.phases.callers ≡ replicate (length callers) (new_visitor (length (map F.shapes_of declared)))
  visitors_are =
      ext_get_or fresh_visitor s.phases.callers (replicate (length callers) (new_visitor (length (map F.shapes_of declared))))
      (r.many ∙ sym (length-replicate (length callers) (new_visitor (length (map F.shapes_of declared)))))
      (λ c lt. let there : c < length callers = rw r.many at lt in
      (known c there).phases.visitor ∙ sym (get_or-replicate (length callers) c (new_visitor (length (map F.shapes_of declared))) fresh_visitor there))

  pub drawing_are : t.callers ≡ replicate (length callers) turns.fresh_caller
  drawing_are =
      ext_get_or turns.fresh_caller t.callers (replicate (length callers) turns.fresh_caller)
      (many_drawing ∙ sym (length-replicate (length callers) turns.fresh_caller))
      (λ c lt. let there : c < length callers = rw many_drawing at lt in
      (known c there).cells.taker ∙ sym (get_or-replicate (length callers) c turns.fresh_caller turns.fresh_caller there))

  pub kept_are : s.kept ≡ replicate (length callers) nothing_kept
  kept_are =
      ext_get_or nothing_kept s.kept (replicate (length callers) nothing_kept)
      (many ∙ sym (length-replicate (length callers) nothing_kept))
      (λ c lt. let there : c < length callers = rw many at lt in
      (known c there).trace.kept ∙ sym (get_or-replicate (length callers) c nothing_kept nothing_kept there)) where
        many : length s.kept ≡ length callers
        many = r.rule.sound.cells.locks.many.kept ∙ r.many

  pub visitor_is : (c : ℕ) → c < length s.phases.callers → visitor_at s.phases c ≡ new_visitor (length (map F.shapes_of declared))
  visitor_is c there = (known c (rw r.many at there)).phases.visitor

  -- of no caller an entry was drawn, and none holds a cell
  pub drawer_is : (c : ℕ) → turns.caller_at t c ≡ turns.fresh_caller
  drawer_is c = ⊎_elim
      (λ there. (known c (rw many_drawing at there)).cells.taker)
      (λ past. get_or_past t.callers c turns.fresh_caller past)
      (cases_lt c (length t.callers))

  -- nobody has the role
  pub role_is : g.role ≡ None
  role_is = by_role g.role refl where
    by_role : (role : Option ℕ) → g.role ≡ role → g.role ≡ None
    by_role None e = e
    by_role (Some c) e =
        let is = turns_sound s.phases r.rule.sound.phases in
        let there = (role_there is.course is.course.stage c is.in_course.stage (sym is.in_course.role ∙ e)).0 in
        let within : c < length callers = rw (← many_turning, is.in_course.many_callers) there in
        absurd ((one_holder g is).under_way c e (ap (λ x. x.grace) (known c within).generations.turn))

  -- no grace has flipped a processor, and nobody is on it
  none_active : (p generation : ℕ) → active_in g.callers p generation ≡ 0
  none_active p generation =
      count_by_none (is_active_in p generation) g.callers
      (λ c x at.
      let within = slice_get_within g.callers c x at in
      let same : gens.caller_at g c ≡ x = same_Some (gens.caller_at g c) x (sym (slice_get-get_or g.callers c _ within) ∙ at) in
      let none = ap (λ (y : Caller). y.active) (known c (rw many_turning at within)).generations.turn in
      inactive p generation x (sym (ap (λ (y : Caller). y.active) same) ∙ none))

  proc_new : (p : ℕ) → p < length g.procs → IsVacant (gens.proc_at g p)
  proc_new p there =
      let flipped = (r.rule.shows.generations.begun p (gens.proc_at g p) (slice_get-get_or g.procs p gens.fresh_proc there)).flipped in
      let graces = none_begun (length g.callers) r.rule.beside.counts.graces r.rule.shows.generations.graces
      (λ c lt. (known c (rw many_turning at lt)).generations.graces) in
      let first : (gens.proc_at g p).generation ≡ 0 = omega (arith, flipped, graces) in
      let present = (counts_agree g (turns_sound s.phases r.rule.sound.phases)).present p there in
      let now : (gens.proc_at g p).entered ≡ (gens.proc_at g p).exits_even + active_in g.callers p 0 =
      subst (λ n. (gens.proc_at g p).entered ≡ exits_of (gens.proc_at g p) (is_even n) + active_in g.callers p n) first present in
      record { generation = first; left = let none = none_active p 0 in omega (arith, now, none) }

  pub many_procs_are : length g.procs ≡ length (replicate F.procs gens.fresh_proc)
  many_procs_are = sym r.rule.sound.cells.rows.told.procs ∙ sym (length-replicate F.procs gens.fresh_proc)

  pub procs_vacant : (p : ℕ) (k : GenProc) → slice_get g.procs p ≡ Some k → IsVacant k
  procs_vacant p k at =
      let there = slice_get_within g.procs p k at in
      subst IsVacant (same_Some (gens.proc_at g p) k (sym (slice_get-get_or g.procs p gens.fresh_proc there) ∙ at)) (proc_new p there)
