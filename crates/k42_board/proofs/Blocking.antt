-- Blocking the object that is swapped.
use Rattle.std.proofs.Common.{◌≡◌, ℕ, true, false, List, [], ◌∷◌, Some, get_or, set, sym, refl, ap, ◌∙◌, length-set}
use Rattle.std.specs.Int.RustNames.{bit_or}
use Rattle.std.proofs.lemmas.Option.{slice_get-get_or}
use mathlib.Core.Option.{some}
use lib.ListN.{get_elem?}
use Rattle.k42_shapes.specs.declared.shape.Shape.{Shape}
use Rattle.atomic_table.specs.Table.{State, Step, Allows}
use Rattle.gen_core.specs.Events.{is_idle}
use Rattle.gen_core.specs.Plain.{Caller}
use Rattle.phase_core.specs.Effects.{at_stage}
use Rattle.phase_core.specs.Event.{Block}
use Rattle.phase_core.specs.Objects.{Bits, BitsFollow, AreClear}
use Rattle.phase_core.specs.Plain.{Object, Phases}
use Rattle.phase_core.specs.Stages.{named_by, object_named, is_drained, is_moved}
use Rattle.phase_core.specs.State.{object_at, fresh_object}
use Rattle.phase_core.specs.declared.caller.SwapAt.{SwapAt}
use Rattle.phase_core.specs.declared.caller.SwapAt.TheVariants.{Drained, Blocking}
use Rattle.k42_stamp.specs.Laws.{AreLaws}
use Rattle.k42_stamp.specs.Layouts.{Layouts}
use Rattle.k42_joined.specs.Answers.{is_turned}
use Rattle.k42_joined.specs.Effects.{effect}
use Rattle.k42_joined.specs.Event.{AtPhases}
use Rattle.k42_joined.specs.Plain.{Joined}
use Rattle.k42_joined.specs.Possible.{IsPossible}
use Rattle.k42_board.specs.Cells.{Slot}
use Rattle.k42_board.specs.Rule.{KnowsPass, Rule, Ruled}
use Rattle.k42_board.specs.Seen.{IsSeatOf}
use Rattle.k42_board.specs.Steps.{Seated, Tells}
use Rattle.k42_board.specs.Swapping.{object_swapped, MayBlock, blocked_view}
use Rattle.k42_board.specs.Log.{took}
use Rattle.k42_board.specs.Views.{pass_in}
use Rattle.k42_board.specs.Words.{object_word}
use Rattle.k42_board.specs.declared.view.PassView.{PassView}
use Rattle.k42_board.specs.declared.view.StepName.TheVariants as steps
use Rattle.k42_board.specs.declared.view.View.{View}
use Rattle.k42_board.specs.declared.view.View.TheVariants.{Crew}
use Rattle.k42_board.proofs.AtTables.{visited, Steps, visits, of_object, object_written, few_entries, written_shows}
use Rattle.k42_board.proofs.Fields.{object_fits, block_set}
use Rattle.k42_board.proofs.Looking.{object_shown}
use Rattle.k42_board.proofs.Logged.{logged_moves}
use Rattle.k42_board.proofs.Moves.{Moves}
use Rattle.k42_board.proofs.OnePass.{with_pass, known}
use Rattle.k42_board.proofs.Retold.{retold, retold_allowed}
use Rattle.k42_board.proofs.Staging.{IsStaged, stays_staged, stage_is, there, few, bits, staged_effect, staged_visit, swap_staged, rows_staged, rows_old, own_staged}

-- what a drained stage tells
record IsDrained (swap : SwapAt) : Type 0 where
  pub named : named_by swap ≡ Some (object_named swap)
  pub unmoved : is_moved swap ≡ false
  pub unturned : (k : Object) → is_turned swap k ≡ false
  pub clear : (b : Bits) (shapes : List Shape) (layout incarnation : ℕ) → BitsFollow b shapes layout incarnation swap → AreClear b

drained_is : (swap : SwapAt) → is_drained swap ≡ true → IsDrained swap
drained_is (Drained o) e = record { named = refl; unmoved = refl; unturned = λ k. refl; clear = λ b shapes layout incarnation is. is.0 }
drained_is swap e = absurd (cc)

module _ {S L P O R : Type 0} (F : Layouts S L P O R) (laws : AreLaws F) (declared : List L)
    (table : State (Slot P O R) (View P O R)) (r : Rule F declared table) (id : ℕ) (v : PassView P O R)
    (at : get_elem? table.views id ≡ some (Crew (v ∷ []))) (may : MayBlock v) where
  abbrev s : Phases
  s = r.state.phases

  abbrev c : ℕ
  c = v.number

  abbrev o : ℕ
  o = object_swapped v

  abbrev k : Object
  k = object_at s o

  abbrev found : ℕ
  found = get_or table.words (object_word o) 0

  abbrev k' : Object
  k' = record k { block = true }

  knows : KnowsPass F.tag_of r.state r.beside id v
  knows = known F declared table r id v at

  stage : IsDrained v.visitor.swap
  stage = drained_is v.visitor.swap may.drained

  possible : IsPossible F declared r.state (AtPhases (Block c))
  possible = record {
    caller = knows.there;
    may = record {
      objects = tt;
      core =
          rw (
            ap (λ (z : Caller). is_idle z.grace) knows.generations.turn ∙ may.idle,
            ap is_drained (stage_is F laws declared table r id v at) ∙ may.drained,
          )
          refl;
      beside = refl;
    };
  }

  staged : IsStaged r.state o k'
  staged = stays_staged r.state o k' (record { shapes = refl; layout = refl; incarnation = refl; freed = refl; complete = λ done. done })

  abbrev after : Joined L O R
  after = visited r.state (set s.objects o k') (set s.callers c (at_stage v.visitor (Blocking o))) r.state.kept

  effect_is : after ≡ effect r.state (AtPhases (Block c))
  effect_is = staged_effect F laws declared table r id v at stage.named (λ q. Blocking q) (λ (l : Object). record l { block = true }) r.state.kept

  pass_after : KnowsPass F.tag_of after r.beside id (blocked_view v)
  pass_after =
      own_staged F laws declared table r id v at stage.named (Block c) k' r.state.kept (Blocking o) staged v.abandoned v.turned v.handed v.rows
      r.beside.row_seat knows.names
      (swap_staged F laws declared table r id v at stage.named (Block c) k' r.state.kept (Blocking o) staged v.abandoned v.turned v.handed v.rows
      (record {
        names = refl;
        turned_is = knows.phases.swap.turned ∙ stage.unturned k;
        layout = knows.phases.swap.layout_begun o stage.named;
        begun = knows.phases.swap.begun o stage.named;
        next = knows.phases.swap.next o stage.named;
      }))
      (rows_staged F laws declared table r id v at stage.named (Block c) k' r.state.kept (Blocking o) staged v.abandoned v.turned v.handed v.rows refl
      (rows_old F laws declared table r id v at stage.named (Block c) k' r.state.kept (Blocking o) staged v.abandoned v.turned v.handed v.rows))
      knows.trace.kept
      (λ tag e. absurd (let old = (knows.trace.handed tag e).0 in let not = stage.unmoved in cc))
      (λ moved. absurd (cc))

  pub blocks : Steps F declared r.state (AtPhases (Block c)) (with_pass table (set table.words (object_word o) (bit_or found 33554432)) table.homes id (blocked_view v))
  blocks =
      let lt = there F laws declared table r id v at stage.named in let small = few F laws declared table r id v at stage.named in
      visits F laws declared table r id v at (Block c) (set s.objects o k') r.state.kept (at_stage v.visitor (Blocking o))
      (staged_visit F laws declared table r id v at stage.named (Block c) k' r.state.kept (Blocking o) staged possible effect_is (λ d not. refl))
      (set table.words (object_word o) (bit_or found 33554432)) (blocked_view v)
      (written_shows F laws declared table r id v at (set s.objects o k') (at_stage v.visitor (Blocking o)) r.state.kept (object_word o) (bit_or found 33554432) (blocked_view v)
      (of_object o small) (length-set s.objects o k')
      (object_written table.words s.objects o k k' (bit_or found 33554432) r.shows.many_words r.shows.few_objects
      (few_entries F laws declared table r id v at) small (slice_get-get_or s.objects o fresh_object lt) refl refl
      (block_set k found (object_fits s r.sound.phases o lt)
      (stage.clear _ _ _ _ (bits F laws declared table r id v at stage.named)).0
      (object_shown F laws declared table r id v at o lt))
      r.shows.objects))
      pass_after

block_goes : {S L P O R : Type 0} (F : Layouts S L P O R) → AreLaws F → (declared : List L) (id : ℕ) (v : PassView P O R) → MayBlock v
    → Moves F declared (AtPhases (Block v.number)) (object_word (object_swapped v)) (λ word. bit_or word 33554432) (λ found. blocked_view) id v
block_goes F laws declared id v may = record { from = λ table r at. blocks F laws declared table r id v at may }

pub block_moves : {S L P O R : Type 0} (F : Layouts S L P O R) → AreLaws F → (declared : List L) (id : ℕ) (v : PassView P O R) → MayBlock v
    → Moves F declared (AtPhases (Block v.number)) (object_word (object_swapped v)) (λ word. bit_or word 33554432) (λ found x. took steps.Block (object_word (object_swapped x)) found (blocked_view x))
    id v
block_moves F laws declared id v may = record { from = (logged_moves steps.Block (λ n. n) (λ found q before is. is) (block_goes F laws declared id v may)).from }

-- as the play tells it, at the word that the step names
module _ {S L P O R : Type 0} (F : Layouts S L P O R) (laws : AreLaws F) (declared : List L) (id : ℕ)
    (me : Seated P O R) (is : IsSeatOf me (pass_in me.0)) (may : MayBlock (pass_in me.0))
    (word o : ℕ) (at : word ≡ object_word o) (same : object_swapped (pass_in me.0) ≡ o) where
  block_there : word ≡ object_word (object_swapped (pass_in me.0))
  block_there = at ∙ ap object_word (sym same)

  abbrev block_row : ℕ → PassView P O R → PassView P O R
  block_row found x = took steps.Block (object_word (object_swapped x)) found (blocked_view x)

  abbrev block_play : ℕ → PassView P O R → PassView P O R
  block_play found x = took steps.Block word found (blocked_view x)

  block_same : (found : ℕ) → block_row found (pass_in me.0) ≡ block_play found (pass_in me.0)
  block_same found = ap (λ i. took steps.Block i found (blocked_view (pass_in me.0))) (sym block_there)

  pub block_allowed : {callers : ℕ} (slots : ℕ) (step : Step (Slot P O R)) → Allows (Ruled F declared callers) slots id me word (λ n. bit_or n 33554432) (Tells block_play step me)
  block_allowed slots step = retold_allowed block_row block_play block_same (block_moves F laws declared id (pass_in me.0) may) me is word block_there slots step

  pub block_told : (step : Step (Slot P O R)) (found : ℕ) (after : Seated P O R) → Tells block_play step me found after → Tells block_row step me found after
  block_told step found after told = retold block_row block_play block_same me after is step found told
