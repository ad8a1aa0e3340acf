-- What is so in every state once the role was given back.
use Rattle.std.proofs.Common.{◌≡◌, ℕ, ◌<◌, Bool, true, false, ltb, List, Option, Some, None, length, refl, ap, ◌∙◌, arith}
use Rattle.std.specs.Prelude.{is_some}
use Rattle.std.proofs.lemmas.Bool.{ltb-true, ltb-false}
use Rattle.std.proofs.lemmas.List.{get_or_past}
use Rattle.k42_places.specs.Places.{EachPlace}
use Rattle.gen_core.specs.Events.{is_idle}
use Rattle.gen_core.specs.Plain.{Caller}
use Rattle.gen_core.specs.declared.state.GraceAt.TheVariants.{Idle}
use Rattle.phase_core.specs.Plain.{Visitor}
use Rattle.phase_core.specs.Stages.{named_by}
use Rattle.phase_core.specs.State.{note_at, visitor_at}
use Rattle.phase_core.specs.declared.caller.SwapAt.TheVariants.{Drained}
use Rattle.phase_core.proofs.InSound.{object_known, visitor_known}
use Rattle.k42_stamp.specs.Layouts.{Layouts}
use Rattle.k42_board.specs.Log.{has_swept}
use Rattle.k42_board.specs.Phases.{IsGranted}
use Rattle.k42_board.specs.Steps.{Always}
use Rattle.k42_board.specs.declared.view.PassView.{PassView}
use Rattle.k42_board.specs.declared.view.Row.{Row}
use Rattle.k42_board.proofs.OnePass.{known}
use Rattle.k42_quiesce.specs.Reclaiming.{AreFreed, AreRowsFreed, IsSwapFreed}

-- what was noted is of an object that is there
pub noted_there : (noted : List (Option ℕ)) (o n : ℕ) → note_at noted o ≡ Some n → o < length noted
noted_there noted o n e = by_test (ltb o (length noted)) refl where
  by_test : (b : Bool) → ltb o (length noted) ≡ b → o < length noted
  by_test true is = ltb-true o (length noted) is
  by_test false is =
      let none : note_at noted o ≡ None = get_or_past noted o None (ltb-false o (length noted) is) in absurd (cc)

module _ {S L P O R : Type 0} (F : Layouts S L P O R) (declared : List L) (id : ℕ) (w : PassView P O R) where
  module _ (noted : List (Option ℕ)) (same : w.visitor.noted ≡ noted)
      (swept : (o : ℕ) → o < length noted → is_some (note_at noted o) ≡ true → has_swept w.log o ≡ true) where
    pub marks_always : Always F declared id w (AreFreed noted)
    marks_always table r at o number noted_so =
        (known F declared table r id w at).phases.rows.swept o number (swept o (noted_there noted o number noted_so) (ap is_some noted_so))
        (ap (λ notes. note_at notes o) same ∙ noted_so)

    pub rows_always : (rows : List Row) → EachPlace (λ place row. IsGranted noted row) rows → Always F declared id w (AreRowsFreed rows)
    rows_always rows granted table r at i row e =
        let is = granted i row e in
        let above = is.above in
        let mark = marks_always table r at row.object is.number is.known in
        omega (arith, above, mark)

  pub swap_always : w.turn.grace ≡ Idle → Always F declared id w (IsSwapFreed w)
  swap_always idle table r at o drained =
      let s = r.state.phases in
      let sound = r.sound.phases in
      let knows = known F declared table r id w at in
      let own = (visitor_known s sound w.number knows.there).swap_alone in
      let swap : (visitor_at s w.number).swap ≡ Drained o = ap (λ (x : Visitor). x.swap) knows.phases.visitor ∙ drained in
      let within : o < length s.objects = let there = own.there o (ap named_by swap) in let many = sound.in_scene.many_objects in omega (arith, there, many) in
      let settled = own.settled o swap ∙ ap (λ (x : Caller). is_idle x.grace) knows.generations.turn ∙ ap is_idle idle in
      let object = object_known s sound o within in
      let freed = object.bits_follow.freed in let incarnation = object.bits_follow.incarnation in let all = object.freed_rows.settled settled in
      omega (arith, freed, incarnation, all)
