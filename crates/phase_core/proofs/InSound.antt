-- What a sound state tells of its objects and its callers.
use Rattle.std.proofs.Common.{◌≡◌, ℕ, ◌<◌, ◌∙◌, true, Option, Some, None, length, sym, refl, ap}
use Rattle.std.specs.Option.{is_some}
use Rattle.std.proofs.lemmas.Option.{same_Some, slice_get-get_or}
use Rattle.gen_core.specs.State.{caller_at}
use Rattle.phase_core.specs.declared.caller.Place.{Place}
use Rattle.phase_core.specs.declared.caller.Place.TheVariants.{Out, Missed, Direct, AtMediator, Tracked, Blocked}
use Rattle.phase_core.specs.declared.caller.SwapAt.TheVariants.{Moved}
use Rattle.phase_core.specs.Callers.{IsAtPlace, IsVisitor}
use Rattle.phase_core.specs.Consequences.{HasOneSwap, IsReadyToMove}
use Rattle.phase_core.specs.Objects.{IsObject, many_counted}
use Rattle.phase_core.specs.Plain.{Phases}
use Rattle.phase_core.specs.Runs.{HasRead}
use Rattle.phase_core.specs.Sound.{IsSound}
use Rattle.phase_core.specs.Stages.{IsInside, named_by}
use Rattle.phase_core.specs.State.{fresh_object, fresh_visitor, object_at, visitor_at, has_row}
use Rattle.phase_core.proofs.Reached.{same_callers}

module _ (s : Phases) (sound : IsSound s) where
  -- the facts of an object and of a caller that are there
  pub object_known : (o : ℕ) → o < length s.objects
      → IsObject sound.scene.course.procs sound.scene.course.callers (sound.scene.looks o) o (object_at s o)
  object_known o named = sound.in_scene.objects o (object_at s o) (slice_get-get_or s.objects o fresh_object named)

  pub visitor_known : (c : ℕ) → c < length s.callers → IsVisitor sound.scene c (caller_at s.turns c) (visitor_at s c)
  visitor_known c there =
      sound.in_scene.visitors c (caller_at s.turns c) (visitor_at s c)
      (slice_get-get_or s.turns.callers c _ (rw (← (same_callers s sound)) there))
      (slice_get-get_or s.callers c fresh_visitor there)

  pub one_swap : (o : ℕ) → o < length s.objects → HasOneSwap s o
  one_swap o named = record {
    one = λ c d there there' first second.
        same_Some c d (sym ((visitor_known c there).swap_alone.owned o first).0 ∙ ((visitor_known d there').swap_alone.owned o second).0);
    set = λ c there names. (object_known o named).bits_follow.swap ∙ ap is_some ((visitor_known c there).swap_alone.owned o names).0;
    swapper = λ set_is. by_swapper (sound.scene.looks o).swapper refl (sym (object_known o named).bits_follow.swap ∙ set_is);
  } where
    by_swapper : (swapper : Option ℕ) → (sound.scene.looks o).swapper ≡ swapper → is_some swapper ≡ true
        → (c : ℕ) × (c < length s.callers) × (named_by (visitor_at s c).swap ≡ Some o)
    by_swapper None e some = absurd (cc)
    by_swapper (Some c) e some =
        let within : c < length s.callers = rw sound.in_scene.many_callers ((object_known o named).bits_follow.swapper_there c e) in
        (c, within, (visitor_known c within).swap_alone.owner o e)

  pub count_is : (o : ℕ) → o < length s.objects → (object_at s o).count ≡ many_counted s.callers o
  count_is o named = sound.in_scene.counted o (object_at s o) (slice_get-get_or s.objects o fresh_object named)

  pub inside_is_present : (c o i : ℕ) → c < length s.callers → IsInside (visitor_at s c).place o i
      → HasRead s c o i × (i ≡ (object_at s o).incarnation)
  inside_is_present c o i there inside = by_place (visitor_at s c).place (visitor_known c there).at_place inside where
    found : (q j : ℕ) → q < sound.scene.objects → has_row (visitor_at s c).read q j ≡ true → j ≡ (sound.scene.looks q).incarnation
        → (q ≡ o) × (j ≡ i) → HasRead s c o i × (i ≡ (object_at s o).incarnation)
    found q j within read present same =
        let here : o < length s.objects = rw (sound.in_scene.many_objects, ← same.0) within in (
          rw (← same.0, ← same.1) read,
          let now : i ≡ (sound.scene.looks o).incarnation = rw (← same.0, ← same.1) present in
              now ∙ sym (object_known o here).bits_follow.incarnation,
        )

    by_place : (place : Place) → IsAtPlace sound.scene (caller_at s.turns c) (visitor_at s c).read place → IsInside place o i
        → HasRead s c o i × (i ≡ (object_at s o).incarnation)
    by_place Out at inside = absurd inside
    by_place (Missed q j) at inside = found q j at.0 at.1.read at.1.present inside
    by_place (Direct q j) at inside = found q j at.0 at.1.read at.1.present inside
    by_place (AtMediator q) at inside = absurd inside
    by_place (Tracked q j) at inside = found q j at.0 at.1.read at.1.present inside
    by_place (Blocked q) at inside = absurd inside

  pub moved_is_ready : (c o : ℕ) → c < length s.callers → (visitor_at s c).swap ≡ Moved o → IsReadyToMove (object_at s o)
  moved_is_ready c o there moved =
      let own = (visitor_known c there).swap_alone in
      let names : named_by (visitor_at s c).swap ≡ Some o = rw moved refl in
      let within : o < length s.objects = rw sound.in_scene.many_objects (own.there o names) in
      let stage : (sound.scene.looks o).stage ≡ Moved o = (own.owned o names).1 ∙ moved in
      let is = object_known o within in
      let bits = rw stage at is.bits_follow.bits in
      let settled = rw stage at is.freed_rows.stage in
      record {
        alive = bits.1.0;
        next = bits.1.1;
        freed = is.bits_follow.freed ∙ is.freed_rows.settled settled ∙ sym is.bits_follow.incarnation;
      }
