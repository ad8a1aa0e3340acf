-- Changing the next entry of the object that is swapped: to a mediator, or to an empty one.
use Rattle.std.proofs.Common.{◌≡◌, ℕ, ◌+◌, ◌<◌, Bool, true, false, cond, ltb, List, [], ◌∷◌, Some, length, set, sym, refl, ap, ◌∙◌, subst, arith, length-set}
use Rattle.std.proofs.lemmas.List.{length-map}
use Rattle.std.proofs.lemmas.Option.{slice_get-get_or, same_Some}
use mathlib.Core.Option.{some}
use lib.ListN.{get_elem?}
use Rattle.atomic_table.specs.Table.{State, Step, Allows}
use Rattle.gen_core.specs.State.{caller_at}
use Rattle.gen_core.proofs.Ranges.{length-waits}
use Rattle.phase_core.specs.Effects.{at_stage}
use Rattle.phase_core.specs.Events as phase_events
use Rattle.phase_core.specs.Objects.{BitsFollow, bits_of}
use Rattle.phase_core.specs.Plain.{Object, Visitor, Phases}
use Rattle.phase_core.specs.Stages.{named_by, object_named, is_interposing, is_moved}
use Rattle.phase_core.specs.State.{object_at, visitor_at, put_entry, mediator_entry, empty_entry, fresh_object}
use Rattle.phase_core.specs.declared.caller.SwapAt.{SwapAt}
use Rattle.phase_core.specs.declared.caller.SwapAt.TheVariants.{Begun, Interposing, Interposed, Opening, Reopening, Opened}
use Rattle.phase_core.specs.declared.object.LocalEntry.{LocalEntry}
use Rattle.phase_core.proofs.Ranges.{some_procs, interposing_proc, opening_proc, reopening_proc, turns_sound}
use Rattle.k42_stamp.specs.Laws.{AreLaws}
use Rattle.k42_stamp.specs.Layouts.{Layouts}
use Rattle.k42_joined.specs.Answers.{is_turned}
use Rattle.k42_joined.specs.Effects.{effect}
use Rattle.k42_joined.specs.Event.{AtPhases}
use Rattle.k42_joined.specs.Plain.{Joined}
use Rattle.k42_joined.specs.Possible.{IsPossible}
use Rattle.k42_board.specs.Cells.{Slot}
use Rattle.k42_board.specs.Rule.{KnowsPass, Rule, Ruled}
use Rattle.k42_board.specs.Seen.{IsSeatOf}
use Rattle.k42_board.specs.Steps.{Seated, Tells}
use Rattle.k42_board.specs.Swapping.{object_swapped, incarnation_swapped, next_entry, after_entry, MayChangeEntry, entry_after, entry_event, changed_view}
use Rattle.k42_board.specs.Values.{incarnation_in}
use Rattle.k42_board.specs.Log.{took}
use Rattle.k42_board.specs.Views.{pass_in, word_begun}
use Rattle.k42_board.specs.Words.{local_word}
use Rattle.k42_board.specs.declared.view.PassView.{PassView}
use Rattle.k42_board.specs.declared.view.StepName.TheVariants as steps
use Rattle.k42_board.specs.declared.view.View.{View}
use Rattle.k42_board.specs.declared.view.View.TheVariants.{Crew}
use Rattle.k42_board.proofs.AtTables.{visited, Steps, visits, of_entry, entry_written, few_entries, written_shows}
use Rattle.k42_board.proofs.Logged.{logged_moves}
use Rattle.k42_board.proofs.Moves.{Moves}
use Rattle.k42_board.proofs.OnePass.{with_pass, known}
use Rattle.k42_board.proofs.Retold.{retold, retold_allowed}
use Rattle.k42_board.proofs.Staging.{IsStaged, StaysInRow, stays_staged, gen_there, stage_is, there, few, bits, staged_visit, KnowsStaged, swap_staged, rows_staged, rows_old, own_staged}

either : (Q : SwapAt → Type 0) (b : Bool) (x y : SwapAt) → Q x → Q y → Q (cond b x y)
either Q true x y a b = a
either Q false x y a b = b

turned_as : (swap : SwapAt) (k l : Object) → l.complete ≡ k.complete → is_turned swap k ≡ is_turned swap l
turned_as (Opened o) k l same = sym same
turned_as swap k l same = refl

-- what a stage tells at which an entry is changed, of so many processors
pub record IsNext (procs : ℕ) (swap : SwapAt) : Type 0 where
  pub named : named_by swap ≡ Some (object_named swap)
  pub unmoved : is_moved swap ≡ false
  pub on_named : named_by (after_entry procs swap) ≡ Some (object_named swap)
  pub on_unmoved : is_moved (after_entry procs swap) ≡ false
  pub turned : (k : Object) → BitsFollow (bits_of k) k.shapes k.layout k.incarnation swap → is_turned swap k ≡ is_turned (after_entry procs swap) k

is_next : (procs : ℕ) (swap : SwapAt) (p : ℕ) → next_entry swap ≡ Some p → IsNext procs swap
is_next procs (Begun o) p e = record {
  named = refl;
  unmoved = refl;
  on_named = either (λ z. named_by z ≡ Some o) (ltb 1 procs) (Interposing o 1) (Interposed o) refl refl;
  on_unmoved = either (λ z. is_moved z ≡ false) (ltb 1 procs) (Interposing o 1) (Interposed o) refl refl;
  turned = λ k is. either (λ z. false ≡ is_turned z k) (ltb 1 procs) (Interposing o 1) (Interposed o) refl refl;
}
is_next procs (Interposing o q) p e = record {
  named = refl;
  unmoved = refl;
  on_named = either (λ z. named_by z ≡ Some o) (ltb (q + 1) procs) (Interposing o (q + 1)) (Interposed o) refl refl;
  on_unmoved = either (λ z. is_moved z ≡ false) (ltb (q + 1) procs) (Interposing o (q + 1)) (Interposed o) refl refl;
  turned = λ k is. either (λ z. false ≡ is_turned z k) (ltb (q + 1) procs) (Interposing o (q + 1)) (Interposed o) refl refl;
}
is_next procs (Opening o q) p e = record {
  named = refl;
  unmoved = refl;
  on_named = either (λ z. named_by z ≡ Some o) (ltb (q + 1) procs) (Opening o (q + 1)) (Opened o) refl refl;
  on_unmoved = either (λ z. is_moved z ≡ false) (ltb (q + 1) procs) (Opening o (q + 1)) (Opened o) refl refl;
  turned = λ k is. either (λ z. true ≡ is_turned z k) (ltb (q + 1) procs) (Opening o (q + 1)) (Opened o) refl (sym is.0.2);
}
is_next procs (Reopening o q) p e = record {
  named = refl;
  unmoved = refl;
  on_named = either (λ z. named_by z ≡ Some o) (ltb (q + 1) procs) (Reopening o (q + 1)) (Opened o) refl refl;
  on_unmoved = either (λ z. is_moved z ≡ false) (ltb (q + 1) procs) (Reopening o (q + 1)) (Opened o) refl refl;
  turned = λ k is. either (λ z. false ≡ is_turned z k) (ltb (q + 1) procs) (Reopening o (q + 1)) (Opened o) refl (sym is.2);
}
is_next procs swap p e = absurd (cc)

-- the entry that a stage leads to
abbrev entry_for : SwapAt → ℕ → LocalEntry
entry_for swap i = cond (is_interposing swap) (mediator_entry i) (empty_entry i)

module _ {S L P O R : Type 0} (F : Layouts S L P O R) (laws : AreLaws F) (declared : List L)
    (table : State (Slot P O R) (View P O R)) (r : Rule F declared table) (id : ℕ) (v : PassView P O R)
    (at : get_elem? table.views id ≡ some (Crew (v ∷ []))) (p : ℕ) (may : MayChangeEntry p v) where
  abbrev s : Phases
  s = r.state.phases

  abbrev c : ℕ
  c = v.number

  abbrev o : ℕ
  o = object_swapped v

  abbrev k : Object
  k = object_at s o

  knows : KnowsPass F.tag_of r.state r.beside id v
  knows = known F declared table r id v at

  abbrev procs : ℕ
  procs = length s.turns.procs

  -- the event at the stage
  abbrev staged_at : SwapAt → ℕ → Joined L O R
  staged_at swap n =
      let l = object_at s (object_named swap) in
      record r.state {
        phases = phase_events.staged s c (object_named swap) (after_entry procs swap) (put_entry l n (entry_for swap l.incarnation));
        kept = r.state.kept;
      }

  record IsEvent (swap : SwapAt) (n : ℕ) : Type 0 where
    pub within : n < procs
    pub possible : IsPossible F declared r.state (AtPhases (entry_event c swap))
    pub effect_is : staged_at swap n ≡ effect r.state (AtPhases (entry_event c swap))

  by_stage : (swap : SwapAt) → (visitor_at s c).swap ≡ swap → (n : ℕ) → next_entry swap ≡ Some n → IsEvent swap n
  by_stage (Begun m) is n e =
      subst (IsEvent (Begun m)) (same_Some 0 n e)
      (record {
        within = some_procs s r.sound.phases;
        possible = record { caller = knows.there; may = record { objects = tt; core = rw is refl; beside = refl } };
        effect_is = ap (λ z. record r.state { phases = phase_events.interposed s c z; kept = r.state.kept }) (sym is);
      })
  by_stage (Interposing m i) is n e =
      subst (IsEvent (Interposing m i)) (same_Some i n e)
      (record {
        within = interposing_proc s r.sound.phases c m i (gen_there F laws declared table r id v at) is;
        possible = record { caller = knows.there; may = record { objects = tt; core = rw is refl; beside = refl } };
        effect_is = ap (λ z. record r.state { phases = phase_events.interposed s c z; kept = r.state.kept }) (sym is);
      })
  by_stage (Opening m i) is n e =
      subst (IsEvent (Opening m i)) (same_Some i n e)
      (record {
        within = opening_proc s r.sound.phases c m i (gen_there F laws declared table r id v at) is;
        possible = record { caller = knows.there; may = record { objects = tt; core = rw is refl; beside = refl } };
        effect_is = ap (λ z. record r.state { phases = phase_events.opened s c z; kept = r.state.kept }) (sym is);
      })
  by_stage (Reopening m i) is n e =
      subst (IsEvent (Reopening m i)) (same_Some i n e)
      (record {
        within = reopening_proc s r.sound.phases c m i (gen_there F laws declared table r id v at) is;
        possible = record { caller = knows.there; may = record { objects = tt; core = rw is refl; beside = refl } };
        effect_is = ap (λ z. record r.state { phases = phase_events.opened s c z; kept = r.state.kept }) (sym is);
      })
  by_stage swap is n e = absurd (cc)

  event_is : IsEvent v.visitor.swap p
  event_is = by_stage v.visitor.swap (stage_is F laws declared table r id v at) p may

  waits_are : length v.turn.waits ≡ procs
  waits_are =
      ap (λ z. length z.waits) (sym knows.generations.turn)
      ∙ length-map (caller_at s.turns c).waits _
      ∙ length-waits s.turns c (turns_sound s r.sound.phases) (gen_there F laws declared table r id v at)

  next : IsNext (length v.turn.waits) v.visitor.swap
  next = is_next (length v.turn.waits) v.visitor.swap p may

  p_few : p < 8
  p_few =
      let lt = event_is.within in
      let many = r.sound.phases.in_scene.in_course.many_procs in let few' = r.sound.phases.in_scene.in_course.limits.few_procs in
      omega (arith, lt, many, few')

  incarnation_is : incarnation_swapped v ≡ k.incarnation
  incarnation_is = by_turned v.turned refl where
    by_turned : (b : Bool) → v.turned ≡ b → incarnation_in (word_begun v.last) + cond b 1 0 ≡ k.incarnation
    by_turned true is = knows.phases.swap.next o next.named is
    by_turned false is = let same = knows.phases.swap.begun o next.named is in omega (arith, same)

  abbrev swap' : SwapAt
  swap' = after_entry (length v.turn.waits) v.visitor.swap

  abbrev d : LocalEntry
  d = entry_for v.visitor.swap (incarnation_swapped v)

  abbrev k' : Object
  k' = put_entry k p d

  abbrev after : Joined L O R
  after = visited r.state (set s.objects o k') (set s.callers c (at_stage v.visitor swap')) r.state.kept

  effect_is : after ≡ effect r.state (AtPhases (entry_event c v.visitor.swap))
  effect_is =
      ap (λ (z : Visitor × ℕ × ℕ).
      visited r.state (set s.objects o (put_entry k p (entry_for v.visitor.swap z.2))) (set s.callers c (at_stage z.0 (after_entry z.1 v.visitor.swap))) r.state.kept)
      (λ j. (sym knows.phases.visitor j, waits_are j, incarnation_is j))
      ∙ event_is.effect_is

  stays : StaysInRow k k'
  stays = record { shapes = refl; layout = refl; incarnation = refl; freed = refl; complete = λ done. done }

  staged : IsStaged r.state o k'
  staged = stays_staged r.state o k' stays

  knows_staged : KnowsStaged F laws declared table r id v at next.named (entry_event c v.visitor.swap) k' r.state.kept swap' staged v.abandoned v.turned v.handed v.rows
  knows_staged = record {
    names = next.on_named;
    turned_is = knows.phases.swap.turned ∙ next.turned k (bits F laws declared table r id v at next.named) ∙ turned_as swap' k k' refl;
    layout = knows.phases.swap.layout_begun o next.named;
    begun = knows.phases.swap.begun o next.named;
    next = knows.phases.swap.next o next.named;
  }

  pass_after : KnowsPass F.tag_of after r.beside id (changed_view v)
  pass_after =
      own_staged F laws declared table r id v at next.named (entry_event c v.visitor.swap) k' r.state.kept swap' staged v.abandoned v.turned v.handed v.rows
      r.beside.row_seat knows.names
      (swap_staged F laws declared table r id v at next.named (entry_event c v.visitor.swap) k' r.state.kept swap' staged v.abandoned v.turned v.handed v.rows knows_staged)
      (rows_staged F laws declared table r id v at next.named (entry_event c v.visitor.swap) k' r.state.kept swap' staged v.abandoned v.turned v.handed v.rows refl
      (rows_old F laws declared table r id v at next.named (entry_event c v.visitor.swap) k' r.state.kept swap' staged v.abandoned v.turned v.handed v.rows))
      knows.trace.kept
      (λ tag e. absurd (let old = (knows.trace.handed tag e).0 in let not = next.unmoved in cc))
      (λ moved. absurd (let not = next.on_unmoved in cc))

  pub changes : Steps F declared r.state (AtPhases (entry_event c v.visitor.swap)) (with_pass table (set table.words (local_word p o) (entry_after v)) table.homes id (changed_view v))
  changes =
      let lt = there F laws declared table r id v at next.named in let small = few F laws declared table r id v at next.named in
      visits F laws declared table r id v at (entry_event c v.visitor.swap) (set s.objects o k') r.state.kept (at_stage v.visitor swap')
      (staged_visit F laws declared table r id v at next.named (entry_event c v.visitor.swap) k' r.state.kept swap' staged event_is.possible effect_is (λ e not. refl))
      (set table.words (local_word p o) (entry_after v)) (changed_view v)
      (written_shows F laws declared table r id v at (set s.objects o k') (at_stage v.visitor swap') r.state.kept (local_word p o) (entry_after v) (changed_view v)
      (of_entry p o p_few small) (length-set s.objects o k')
      (entry_written table.words s.objects o p k d (entry_after v) r.shows.many_words r.shows.few_objects
      (few_entries F laws declared table r id v at) p_few small (slice_get-get_or s.objects o fresh_object lt) refl r.shows.objects))
      pass_after

entry_goes : {S L P O R : Type 0} (F : Layouts S L P O R) → AreLaws F → (declared : List L) (id p : ℕ) (v : PassView P O R) → MayChangeEntry p v
    → Moves F declared (AtPhases (entry_event v.number v.visitor.swap)) (local_word p (object_swapped v)) (λ word. entry_after v) (λ found. changed_view) id v
entry_goes F laws declared id p v may = record { from = λ table r at. changes F laws declared table r id v at p may }

pub entry_moves : {S L P O R : Type 0} (F : Layouts S L P O R) → AreLaws F → (declared : List L) (id p : ℕ) (v : PassView P O R) → MayChangeEntry p v
    → Moves F declared (AtPhases (entry_event v.number v.visitor.swap)) (local_word p (object_swapped v)) (λ word. entry_after v) (λ found x. took steps.ChangeEntry (local_word p (object_swapped x)) found (changed_view x))
    id v
entry_moves F laws declared id p v may = record { from = (logged_moves steps.ChangeEntry (λ n. n) (λ found q before is. is) (entry_goes F laws declared id p v may)).from }

-- as the play tells it, of a swap for this word at the word that the step names
module _ {S L P O R : Type 0} (F : Layouts S L P O R) (laws : AreLaws F) (declared : List L) (id p : ℕ)
    (me : Seated P O R) (is : IsSeatOf me (pass_in me.0)) (may : MayChangeEntry p (pass_in me.0))
    (word o : ℕ) (at : word ≡ local_word p o) (same : object_swapped (pass_in me.0) ≡ o) (new : ℕ) (is_new : new ≡ entry_after (pass_in me.0)) where
  entry_there : word ≡ local_word p (object_swapped (pass_in me.0))
  entry_there = at ∙ ap (local_word p) (sym same)

  abbrev entry_row : ℕ → PassView P O R → PassView P O R
  entry_row found x = took steps.ChangeEntry (local_word p (object_swapped x)) found (changed_view x)

  abbrev entry_play : ℕ → PassView P O R → PassView P O R
  entry_play found x = took steps.ChangeEntry word found (changed_view x)

  entry_same : (found : ℕ) → entry_row found (pass_in me.0) ≡ entry_play found (pass_in me.0)
  entry_same found = ap (λ i. took steps.ChangeEntry i found (changed_view (pass_in me.0))) (sym entry_there)

  pub entry_allowed : {callers : ℕ} (slots : ℕ) (step : Step (Slot P O R))
      → Allows (Ruled F declared callers) slots id me word (λ n. new) (Tells entry_play step me)
  entry_allowed {callers} slots step =
      subst (λ (z : ℕ). Allows (Ruled F declared callers) slots id me word (λ n. z) (Tells entry_play step me)) (sym is_new)
      (retold_allowed entry_row entry_play entry_same (entry_moves F laws declared id p (pass_in me.0) may) me is word entry_there slots step)

  pub entry_told : (step : Step (Slot P O R)) (found : ℕ) (after : Seated P O R) → Tells entry_play step me found after → Tells entry_row step me found after
  entry_told step found after told = retold entry_row entry_play entry_same me after is step found told
