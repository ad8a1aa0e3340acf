-- A pass that draws an entry: what it knows after it, that its stamps are small, and what the step owes to the table.
use Rattle.std.proofs.Common.{◌≡◌, ℕ, ◌^◌, ◌<◌, ◌≤◌, Bool, true, false, List, [], ◌∷◌, Option, Some, None, length, get_or, sym, refl, subst, ⊎_elim, arith}
use Rattle.std.proofs.lemmas.Bool.{eq-eqb}
use Rattle.std.proofs.lemmas.Option.{slice_get-get_or}
use Rattle.std.proofs.lemmas.List.Sums.{sum_by-le}
use mathlib.Core.Option.{some}
use lib.ListN.{get_elem?}
use Rattle.atomic_table.specs.Table.{State, Step, Allows}
use Rattle.atomic_table.proofs.Lists.{set_here}
use Rattle.k42_limits.specs.declared.TheConstants.{LAST_STAMP}
use Rattle.k42_kinds.specs.declared.entry.Entry.{Entry}
use Rattle.k42_places.proofs.Appended.{at_push}
use Rattle.phase_core.specs.Stages.{is_moved, object_named}
use Rattle.turn_core.specs.Events.{caller_drawn, is_next}
use Rattle.turn_core.specs.Plain.{Caller, Turns}
use Rattle.turn_core.specs.Stamps.{next_stamp}
use Rattle.turn_core.specs.State.{caller_at, fresh_caller}
use Rattle.k42_stamp.specs.Layouts.{Layouts}
use Rattle.k42_joined.specs.Event.{Event}
use Rattle.k42_joined.specs.Plain.{Kept, Joined}
use Rattle.k42_joined.specs.State.{kept_of, is_handed}
use Rattle.k42_joined.specs.Swapping.{may_turn_over}
use Rattle.k42_board.specs.Cells.{Slot, Contents, KnowsCells}
use Rattle.k42_board.specs.Drawing.{HasSmallStamp, untold_view}
use Rattle.k42_board.specs.Log.{took}
use Rattle.k42_board.specs.Phases.{KnowsPhases}
use Rattle.k42_board.specs.Rule.{Beside, KnowsPass, Rule, Ruled}
use Rattle.k42_board.specs.Seen.{IsSeatOf}
use Rattle.k42_board.specs.Steps.{Seated, Tells, TellsWith, StepIs}
use Rattle.k42_board.specs.Trace.{IsOfTime}
use Rattle.k42_board.specs.Views.{kept_in, pass_in}
use Rattle.k42_board.specs.declared.view.Note.{Note}
use Rattle.k42_board.specs.declared.view.PassView.{PassView}
use Rattle.k42_board.specs.declared.view.StepName.TheVariants as steps
use Rattle.k42_board.specs.declared.view.View.{View}
use Rattle.k42_board.specs.declared.view.View.TheVariants.{Crew}
use Rattle.k42_board.proofs.CellsApart.{at_within}
use Rattle.k42_board.proofs.Logged.{logged_moves}
use Rattle.k42_board.proofs.Moves.{Moves, Finds, seat_allowed_with, seat_is}
use Rattle.k42_board.proofs.OnePass.{known}

-- the pass after a draw: it has forgotten what its last Begin found
abbrev pub drawer : {P O R : Type 0} → PassView P O R → Caller O R → List (Note P O R) → Bool → Option ℕ → List ℕ → PassView P O R
drawer v taker notes abandoned handed untold = record v {
  taker = taker;
  notes = notes;
  found = None;
  abandoned = abandoned;
  handed = handed;
  untold = untold;
}

module _ {L P O R : Type 0} (tag_of : L → ℕ) (s : Joined L O R) (turns : Turns O R) (hands : List (List L)) (kept : List (Kept R)) (beside : Beside P)
    (contents : Contents P) (id : ℕ) (v : PassView P O R) (k : KnowsPass tag_of s beside id v) (entry : Entry O R) (notes : List (Note P O R))
    (abandoned : Bool) (handed : Option ℕ) (untold : List ℕ) where
  abbrev pub after : Joined L O R
  after = record s { turns = turns; hands = hands; kept = kept }

  abbrev pub w : PassView P O R
  w = drawer v (caller_drawn entry v.taker) notes abandoned handed untold

  pub record Draws : Type 0 where
    pub cells : KnowsCells turns contents w
    pub kept_is : kept_of after v.number ≡ kept_in w
    pub timely : IsOfTime s.phases.turns v.turn.proc entry
    pub handed_is :
        (tag : ℕ) → handed ≡ Some tag → (is_moved v.visitor.swap ≡ true) × (may_turn_over after tag_of (object_named v.visitor.swap) tag ≡ true)
    pub unhanded : handed ≡ None → is_moved v.visitor.swap ≡ true → is_handed after (object_named v.visitor.swap) ≡ false

  -- what the draw leaves of what it knew of phases
  phases_known : KnowsPhases s.phases w
  phases_known = record {
    visitor = k.phases.visitor;
    shapes = k.phases.shapes;
    layout = k.phases.layout;
    learned = k.phases.learned;
    swap = record {
      turned = k.phases.swap.turned;
      layout_begun = k.phases.swap.layout_begun;
      begun = k.phases.swap.begun;
      next = k.phases.swap.next;
    };
    rows = record {
      old = k.phases.rows.old;
      granted = k.phases.rows.granted;
      swept = k.phases.rows.swept;
      spans = k.phases.rows.spans;
    };
  }

  pub pass_drawn : Draws → KnowsPass tag_of after (record beside { contents = contents }) id w
  pass_drawn draws = record {
    there = k.there;
    seat = k.seat;
    names = record { named = k.names.named; once = k.names.once };
    generations = record { turn = k.generations.turn; graces = k.generations.graces; base = k.generations.base };
    phases = phases_known;
    cells = draws.cells;
    trace = record {
      kept = draws.kept_is;
      found = λ answer e. absurd (cc);
      over = λ answer e over. absurd (cc);
      handed = draws.handed_is;
      unhanded = draws.unhanded;
      times = λ place other e. ⊎_elim (λ old. k.trace.times place other old.1) (λ new. subst (IsOfTime s.phases.turns v.turn.proc) new.1 draws.timely)
          (at_push v.taker.mine entry place other e);
    };
  }

-- which cells do not tell of an entry yet is nothing that a pass knows
pub untold_known : {L P O R : Type 0} (tag_of : L → ℕ) (s : Joined L O R) (beside : Beside P) (id : ℕ) (v : PassView P O R) → KnowsPass tag_of s beside id v → (cells : List ℕ)
    → KnowsPass tag_of s beside id (untold_view cells v)
untold_known tag_of s beside id v k cells = record {
  there = k.there;
  seat = k.seat;
  names = k.names;
  generations = record { turn = k.generations.turn; graces = k.generations.graces; base = k.generations.base };
  phases = record {
    visitor = k.phases.visitor;
    shapes = k.phases.shapes;
    layout = k.phases.layout;
    learned = k.phases.learned;
    swap = record {
      turned = k.phases.swap.turned;
      layout_begun = k.phases.swap.layout_begun;
      begun = k.phases.swap.begun;
      next = k.phases.swap.next;
    };
    rows = record {
      old = k.phases.rows.old;
      granted = k.phases.rows.granted;
      swept = k.phases.rows.swept;
      spans = k.phases.rows.spans;
    };
  };
  cells = record { taker = k.cells.taker; notes = k.cells.notes; noted = k.cells.noted; out = k.cells.out; only = k.cells.only };
  trace = record {
    kept = k.trace.kept;
    found = k.trace.found;
    over = k.trace.over;
    handed = k.trace.handed;
    unhanded = k.trace.unhanded;
    times = k.trace.times;
  };
}

-- the entry is the caller's next
pub is_next_of : {O R : Type 0} (s : Turns O R) (c : ℕ) (cells : List ℕ) (entry : Entry O R) → entry.caller ≡ c → entry.index ≡ length (caller_at s c).mine → entry.stamp ≡ next_stamp s c cells
    → is_next s c cells entry ≡ true
is_next_of s c cells entry caller index stamp =
    let one = eq-eqb entry.caller c caller in
    let two = eq-eqb entry.index (length (caller_at s c).mine) index in
    let three = eq-eqb entry.stamp (next_stamp s c cells) stamp in
    rw (one, two, three) refl

-- nobody draws an entry with a large stamp
pub small_stamps : {S L P O R : Type 0} (F : Layouts S L P O R) (declared : List L) (table : State (Slot P O R) (View P O R)) (r : Rule F declared table) (id : ℕ) (v : PassView P O R)
    → get_elem? table.views id ≡ some (Crew (v ∷ [])) → HasSmallStamp v
small_stamps {O} {R} F declared table r id v at =
    let s = r.state.turns in
    let k = known F declared table r id v at in
    let there : v.number < length s.callers = let many = r.sound.cells.locks.many.callers in let lt = k.there in omega (arith, many, lt) in
    let own = r.sound.cells.turns.callers v.number (caller_at s v.number) (slice_get-get_or s.callers v.number fresh_caller there) in
    let bounded = own.clock in
    let most = sum_by-le (λ (x : Caller O R). length x.mine) (2 ^ 58) s.callers (λ i d lt. r.shows.few_entries i (get_or s.callers i d) (slice_get-get_or s.callers i d lt)) in
    let few = r.sound.phases.in_scene.in_course.limits.few_callers in
    let long = r.sound.phases.in_scene.in_course.many_callers in
    let many = r.sound.cells.locks.many.callers in
    subst (λ (x : Caller O R). x.clock ≤ LAST_STAMP) k.cells.taker (omega (arith, bounded, most, few, long, many))

-- a step that makes this of its pass, whatever it finds
module _ {S L P O R : Type 0} {F : Layouts S L P O R} {declared : List L} {event : Event L O R} {word : ℕ} {becomes : PassView P O R → PassView P O R} {id : ℕ} {v : PassView P O R}
    (moves : Moves F declared event word (λ n. n) (λ found. becomes) id v) where
  finds_small : Finds F declared word (λ v found. HasSmallStamp (becomes v)) id v
  finds_small table r at =
      let after = moves.from table r at in
      small_stamps F declared _ after.0 id (becomes v) (set_here table.views id (Crew (becomes v ∷ [])) (at_within table.views id (Crew (v ∷ [])) at))

  draw_moves : Moves F declared event word (λ n. n) (λ found x. took steps.Draw word 0 (becomes x)) id v
  draw_moves = logged_moves steps.Draw (λ n. 0) (λ found o before is. is) moves

  -- at a word that is this one
  pub draw_allowed : {callers : ℕ} (said : PassView P O R → PassView P O R) → said ≡ becomes → (place : ℕ) → place ≡ word → (me : Seated P O R) → IsSeatOf me v → (slots : ℕ) (step : Step (Slot P O R))
      → Allows (Ruled F declared callers) slots id me place (λ n. n) (TellsWith (λ found x. took steps.Draw place 0 (said x)) (λ v found. HasSmallStamp (said v)) step me)
  draw_allowed {callers} said same place there me is slots step =
      subst (λ (z : ℕ × (PassView P O R → PassView P O R)). Allows (Ruled F declared callers) slots id me z.0 (λ n. n) (TellsWith (λ found x. took steps.Draw z.0 0 (z.1 x)) (λ v found. HasSmallStamp (z.1 v)) step me))
      (λ k. (sym there k, sym same k)) (seat_allowed_with draw_moves (λ v found. HasSmallStamp (becomes v)) finds_small me is slots step)

  pub draw_is : (me seated : Seated P O R) → IsSeatOf me v → (step : Step (Slot P O R)) (found : ℕ) → Tells (λ found x. took steps.Draw word 0 (becomes x)) step me found seated
      → StepIs F declared event word (λ n. n) id v found (pass_in seated.0)
  draw_is me seated is step found told = seat_is draw_moves me seated is step found told

-- what the step has told
pub draw_told : {P O R : Type 0} {word : ℕ} {becomes : PassView P O R → PassView P O R} (said : PassView P O R → PassView P O R) → said ≡ becomes → (place : ℕ) → place ≡ word
    → (me seated : Seated P O R) (step : Step (Slot P O R)) (found : ℕ)
    → TellsWith (λ found x. took steps.Draw place 0 (said x)) (λ v found. HasSmallStamp (said v)) step me found seated
    → TellsWith (λ found x. took steps.Draw word 0 (becomes x)) (λ v found. HasSmallStamp (becomes v)) step me found seated
draw_told {O} {R} said same place there me seated step found told =
    subst (λ (z : ℕ × (PassView _ O R → PassView _ O R)). TellsWith (λ found x. took steps.Draw z.0 0 (z.1 x)) (λ v found. HasSmallStamp (z.1 v)) step me found seated)
    (λ k. (there k, same k)) told
