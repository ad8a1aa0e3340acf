-- What is so while a pass has a grace under way.
use Rattle.std.proofs.Common.{◌≡◌, ◌≢◌, ℕ, ◌<◌, ◌≤◌, Bool, true, false, List, [], ◌∷◌, Some, length, sym, refl, ap, subst, ◌∙◌, arith, le_refl}
use Rattle.std.proofs.lemmas.Bool.{ltb-true, ltb-false, le-ltb}
use Rattle.std.proofs.lemmas.List.{get_or_past, length-map}
use Rattle.std.proofs.lemmas.Option.{slice_get-get_or, same_Some}
use mathlib.Core.Option.{some}
use lib.ListN.{get_elem?}
use Rattle.std.proofs.Common.{ltb}
use Rattle.atomic_table.specs.Table.{State}
use Rattle.k42_places.specs.Places.{EachPlace}
use Rattle.gen_core.specs.Events.{is_idle}
use Rattle.gen_core.specs.Plain.{Generations, Caller}
use Rattle.gen_core.specs.Sound as gen
use Rattle.gen_core.specs.Sound.{IsHolder, is_flipped, generation_of}
use Rattle.gen_core.specs.State.{caller_at, proc_at, fresh_proc}
use Rattle.gen_core.specs.declared.state.GraceAt.{GraceAt}
use Rattle.gen_core.specs.declared.state.GraceAt.TheVariants as graces
use Rattle.gen_core.proofs.Courses.{at_caller}
use Rattle.gen_core.proofs.Frames.{holder_from_grace}
use Rattle.gen_core.proofs.Ranges.{few_procs, length-waits}
use Rattle.gen_core.proofs.Reached.{one_holder}
use Rattle.phase_core.proofs.Ranges.{turns_sound, some_procs}
use Rattle.phase_core.proofs.Reached.{turn_there}
use Rattle.k42_stamp.specs.Layouts.{Layouts}
use Rattle.k42_board.specs.Cells.{Slot}
use Rattle.k42_board.specs.Generations.{in_words}
use Rattle.k42_board.specs.Rule.{KnowsPass, Rule}
use Rattle.k42_board.specs.declared.view.PassView.{PassView}
use Rattle.k42_board.specs.declared.view.View.{View}
use Rattle.k42_board.specs.declared.view.View.TheVariants.{Crew}
use Rattle.k42_board.proofs.OnePass.{known}

-- one generation or the next is told by its base
base_told : (a b : ℕ) (next : Bool) → generation_of a next ≡ generation_of b next → a ≡ b
base_told a b true e = omega (arith, e)
base_told a b false e = e

pub busy_test : (grace : GraceAt) → grace ≢ graces.Idle → is_idle grace ≡ false
busy_test graces.Idle busy = absurd (busy refl)
busy_test grace busy = refl

pub ltb_same : (p : ℕ) → ltb p p ≡ false
ltb_same p = le-ltb p p (le_refl p)

module _ {S L P O R : Type 0} (F : Layouts S L P O R) (declared : List L)
    (table : State (Slot P O R) (View P O R)) (r : Rule F declared table) (id : ℕ) (v : PassView P O R)
    (at : get_elem? table.views id ≡ some (Crew (v ∷ []))) where
  abbrev pub s : Generations
  s = r.state.phases.turns

  abbrev pub knows : KnowsPass F.tag_of r.state r.beside id v
  knows = known F declared table r id v at

  pub sound : gen.IsSound s
  sound = turns_sound r.state.phases r.sound.phases

  pub there : v.number < length s.callers
  there = turn_there r.state.phases r.sound.phases v.number knows.there

  pub turn : in_words (caller_at s v.number) ≡ v.turn
  turn = knows.generations.turn

  pub procs_few : length s.procs ≤ 8
  procs_few = few_procs s v.number sound there

  pub procs_some : 0 < length s.procs
  procs_some = some_procs r.state.phases r.sound.phases

  pub waits_many : length v.turn.waits ≡ length s.procs
  waits_many = ap (λ (z : Caller). length z.waits) (sym turn) ∙ length-map (caller_at s v.number).waits _ ∙ length-waits s v.number sound there

  module _ (busy : v.turn.grace ≢ graces.Idle) where
    busy' : (caller_at s v.number).grace ≢ graces.Idle
    busy' idle = busy (ap (λ (z : Caller). z.grace) (sym turn) ∙ idle)

    pub holder : IsHolder sound.course (caller_at s v.number)
    holder =
        (holder_from_grace sound.course s sound.in_course v.number (caller_at s v.number) (at_caller sound.course s sound.in_course v.number there) busy').1

    pub stage : sound.course.stage ≡ v.turn.grace
    stage = sym holder.grace ∙ ap (λ (z : Caller). z.grace) turn

    pub role : s.role ≡ Some v.number
    role = (one_holder s sound).holder v.number there busy'

    -- no other caller has a grace under way
    pub alone : (d : ℕ) → d ≢ v.number → is_idle (caller_at s d).grace ≡ true
    alone d not = by_test (ltb d (length s.callers)) refl (caller_at s d).grace refl where
      by_test : (b : Bool) → ltb d (length s.callers) ≡ b → (grace : GraceAt) → (caller_at s d).grace ≡ grace → is_idle (caller_at s d).grace ≡ true
      by_test b e graces.Idle is = rw is refl
      by_test true e grace is =
          let held = (one_holder s sound).holder d (ltb-true d (length s.callers) e) (λ idle. absurd (cc)) in
          absurd (not (same_Some d v.number (sym held ∙ role)))
      by_test false e grace is = rw (get_or_past s.callers d _ (ltb-false d (length s.callers) e)) refl

    -- the generations of the processors, by how far the grace is
    pub in_step : EachPlace (λ p k. k.generation ≡ generation_of sound.course.base (is_flipped v.turn.grace p)) s.procs
    in_step p k e =
        subst (λ (grace : GraceAt). k.generation ≡ generation_of sound.course.base (is_flipped grace p)) stage (sound.in_course.generations_in_step p k e)

    -- and what it has asked is where they began
    pub base_is : (b : ℕ) → v.base ≡ Some b → is_idle v.turn.grace ≡ false → b ≡ sound.course.base
    base_is b e not_idle =
        let at_first = slice_get-get_or s.procs 0 fresh_proc procs_some in
        base_told b sound.course.base (is_flipped v.turn.grace 0)
        (sym (knows.generations.base b e not_idle 0 (proc_at s 0) at_first) ∙ in_step 0 (proc_at s 0) at_first)
