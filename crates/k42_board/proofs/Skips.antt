-- A seat tells of the clock of its pass, and another pass skips to it.
use Rattle.std.proofs.Common.{◌≡◌, ℕ, ◌<◌, ◌≤◌, true, nat_le, List, [], ◌∷◌, ◌++◌, length, set, sym, refl, ap, ◌∙◌, subst, ⊎_elim, arith, get_or-set_same, get_or-set_other}
use Rattle.std.proofs.lemmas.Bool.Decides.{nat_tests}
use Rattle.std.proofs.lemmas.List.Folds.{list_any_at}
use Rattle.std.proofs.lemmas.Option.{slice_get-get_or}
use mathlib.Core.Option.{some}
use lib.ListN.{get_elem?}
use Rattle.atomic_table.specs.Table.{State, Splits, Joins}
use Rattle.atomic_table.proofs.Lists.{at_set, set_else}
use Rattle.k42_limits.specs.declared.TheConstants.{PASS_ENTRIES}
use Rattle.k42_places.proofs.EachPlaces.{EachPlace-set}
use Rattle.turn_core.specs.Events as turns
use Rattle.turn_core.specs.Events.{caller_skipped, is_known}
use Rattle.turn_core.specs.Plain.{Caller, Turns}
use Rattle.turn_core.specs.State.{cell_at, caller_at, fresh_caller}
use Rattle.turn_core.specs.declared.event.TurnEvent.TheVariants.{Skip}
use Rattle.k42_stamp.specs.Laws.{AreLaws}
use Rattle.k42_stamp.specs.Layouts.{Layouts}
use Rattle.k42_joined.specs.Effects.{effect}
use Rattle.k42_joined.specs.Event.{AtCells}
use Rattle.k42_joined.specs.Plain.{Joined}
use Rattle.k42_joined.specs.Possible.{IsPossible}
use Rattle.k42_joined.specs.State.{many_callers}
use Rattle.k42_joined.proofs.Kept.{joined_keeps}
use Rattle.k42_board.specs.Cells.{Slot, KnowsCells}
use Rattle.k42_board.specs.Rule.{KnowsPass, Knows, Rule, Ruled}
use Rattle.k42_board.specs.Skipping.{clock_told, skipped_view, skipping}
use Rattle.k42_board.specs.declared.view.PassView.{PassView}
use Rattle.k42_board.specs.declared.view.View.{View}
use Rattle.k42_board.specs.declared.view.View.TheVariants.{Crew, Drew, Spent}
use Rattle.k42_board.proofs.CellsMoved.{part_stays, same_told', LeavesCells, others_stay}
use Rattle.k42_board.proofs.Dealing.{at_end}
use Rattle.k42_board.proofs.OnePass.{with_pass, known, moved}
use Rattle.k42_board.proofs.KnownStamps.{known_after}

module _ {S L P O R : Type 0} (F : Layouts S L P O R) (declared : List L) (callers id : ℕ) (v : PassView P O R) where
  pub clock_known : (table : State (Slot P O R) (View P O R)) (r : Rule F declared table) → get_elem? table.views id ≡ some (Crew (v ∷ []))
      → is_known r.state.turns v.taker.clock ≡ true
  clock_known table r at =
      let k = known F declared table r id v at in
      let many = r.sound.cells.locks.many.callers in
      list_any_at (λ (x : Caller O R). nat_le v.taker.clock x.clock) r.state.turns.callers v.number fresh_caller (let lt = k.there in omega (arith, many, lt))
      (let same = ap (λ (x : Caller O R). x.clock) k.cells.taker in grind (arith, nat_tests, same))

  parted : (table : State (Slot P O R) (View P O R)) → get_elem? table.views id ≡ some (Crew (v ∷ [])) → (r : Rule F declared table)
      → (after : Rule F declared (record { words = table.words; homes = table.homes; views = set table.views id (Crew (v ∷ [])) ++ Drew v.taker.clock ∷ [] })) × (after.state ≡ r.state)
  parted table at r = (
    record {
      state = r.state;
      sound = r.sound;
      beside = r.beside;
      shows = record {
        many_words = r.shows.many_words;
        many_slots = r.shows.many_slots;
        few_objects = r.shows.few_objects;
        few_entries = r.shows.few_entries;
        generations = r.shows.generations;
        objects = r.shows.objects;
        cells = r.shows.cells;
      };
      parts = r.parts;
      seats = λ j view e.
          ⊎_elim
          (λ new. subst (Knows F.tag_of r.state r.beside j) new.1 (clock_known table r at))
          (λ old.
          ⊎_elim
          (λ here. subst (λ (z : ℕ × View P O R). Knows F.tag_of r.state r.beside z.0 z.1) (λ i. (sym here.0 i, here.1 i)) (r.seats id (Crew (v ∷ [])) at))
          (λ else. r.seats j view else.1)
          (at_set table.views id j (Crew (v ∷ [])) view old))
          (at_end (set table.views id (Crew (v ∷ []))) (Drew v.taker.clock) view j e);
    },
    refl,
  )

  pub clock_splits : (view : View P O R) → view ≡ Crew (v ∷ []) → Splits (Ruled F declared callers) id view view (clock_told view)
  clock_splits view same =
      subst (λ (z : View P O R). Splits (Ruled F declared callers) id z z (clock_told z)) (sym same)
      (λ table r at. let after = parted table at r.rule in record { rule = after.0; many = ap many_callers after.1 ∙ r.many })

module _ {S L P O R : Type 0} (F : Layouts S L P O R) (laws : AreLaws F) (declared : List L) (stamp : ℕ)
    (table : State (Slot P O R) (View P O R)) (r : Rule F declared table) (id : ℕ) (v : PassView P O R)
    (at : get_elem? table.views id ≡ some (Crew (v ∷ []))) (drawn : is_known r.state.turns stamp ≡ true) where
  abbrev s : Joined L O R
  s = r.state

  abbrev c : ℕ
  c = v.number

  k : KnowsPass F.tag_of s r.beside id v
  k = known F declared table r id v at

  c_there : c < length s.turns.callers
  c_there = let many = r.sound.cells.locks.many.callers in let lt = k.there in omega (arith, many, lt)

  possible : IsPossible F declared s (AtCells (Skip c stamp))
  possible = record { caller = k.there; may = record { core = drawn; beside = tt } }

  abbrev t : Turns O R
  t = turns.effect s.turns (Skip c stamp)

  leaves : LeavesCells F declared table r id v at t s.kept r.beside.contents
  leaves = record {
    callers = λ d not. get_or-set_other s.turns.callers c d (caller_skipped stamp (caller_at s.turns c)) fresh_caller not;
    keeps = λ d not. refl;
    held = λ n d not lock. record { cell = refl; part = refl; out = refl };
    holds = λ n d not lock. record { cell = refl; part = refl; out = refl };
    drawn = λ one known. known_after s.turns c (caller_skipped stamp (caller_at s.turns c)) one (omega arith) known;
  }

  knows : KnowsCells t r.beside.contents (skipped_view stamp v)
  knows = record {
    taker =
        get_or-set_same s.turns.callers c (caller_skipped stamp (caller_at s.turns c)) fresh_caller c_there
        ∙ ap (caller_skipped stamp) k.cells.taker;
    notes = λ place note e.
        let old = k.cells.notes place note e in
        record { held = old.held; away = old.away; history = old.history; closed = old.closed; part = old.part };
    noted = k.cells.noted;
    out = λ n e. let old = k.cells.out n e in record { held = old.held; away = old.away; out = old.out };
    only = k.cells.only;
  }

  pass_after : KnowsPass F.tag_of (effect s (AtCells (Skip c stamp))) r.beside id (skipped_view stamp v)
  pass_after = record {
    there = k.there;
    seat = k.seat;
    names = k.names;
    generations = record {
      turn = k.generations.turn;
      graces = k.generations.graces;
      base = k.generations.base;
    };
    phases = record {
      visitor = k.phases.visitor;
      shapes = k.phases.shapes;
      layout = k.phases.layout;
      learned = k.phases.learned;
      swap = record {
        turned = k.phases.swap.turned;
        layout_begun = k.phases.swap.layout_begun;
        begun = k.phases.swap.begun;
        next = k.phases.swap.next;
      };
      rows = record {
        old = k.phases.rows.old;
        granted = k.phases.rows.granted;
        swept = k.phases.rows.swept;
        spans = k.phases.rows.spans;
      };
    };
    cells = knows;
    trace = record {
      kept = k.trace.kept;
      found = k.trace.found;
      over = k.trace.over;
      handed = k.trace.handed;
      unhanded = k.trace.unhanded;
      times = k.trace.times;
    };
  }

  -- the rule after the skip, and its state
  pub skips : (after : Rule F declared (with_pass table table.words table.homes id (skipped_view stamp v))) × (after.state ≡ effect s (AtCells (Skip c stamp)))
  skips =
      moved F declared table r id v at (effect s (AtCells (Skip c stamp))) r.beside table.words table.homes (skipped_view stamp v)
      (others_stay F declared table r id v at t s.kept r.beside.contents leaves)
      (joined_keeps F laws declared s r.sound (AtCells (Skip c stamp)) possible)
      (record {
        many_words = r.shows.many_words;
        many_slots = r.shows.many_slots;
        few_objects = r.shows.few_objects;
        few_entries = EachPlace-set (λ d (x : Caller O R). length x.mine ≤ PASS_ENTRIES) s.turns.callers c (caller_skipped stamp (caller_at s.turns c)) r.shows.few_entries
            (r.shows.few_entries c (caller_at s.turns c) (slice_get-get_or s.turns.callers c fresh_caller c_there));
        generations = r.shows.generations;
        objects = r.shows.objects;
        cells = r.shows.cells;
      })
      (λ n lt. part_stays s t s.kept (λ m. same_told' (cell_at s.turns m)) F declared n (r.beside.contents.part n) (r.parts n lt))
      pass_after

-- the seat that told of the stamp is spent
module _ {S L P O R : Type 0} (F : Layouts S L P O R) (laws : AreLaws F) (declared : List L) (callers id other stamp : ℕ) (v : PassView P O R) where
  -- so the table shows the state after the event, which was possible
  pub skip_shown : (table : State (Slot P O R) (View P O R)) (r : Rule F declared table) → get_elem? table.views id ≡ some (Crew (v ∷ [])) → get_elem? table.views other ≡ some (Drew stamp)
      → (after : Rule F declared (record { words = table.words; homes = table.homes; views = set (set table.views id (Crew (skipped_view stamp v ∷ []))) other Spent }))
      × (after.state ≡ effect r.state (AtCells (Skip v.number stamp))) × IsPossible F declared r.state (AtCells (Skip v.number stamp))
  skip_shown table r at here =
      let drawn = r.seats other (Drew stamp) here in
      let after = skips F laws declared stamp table r id v at drawn in (
        record {
          state = after.0.state;
          sound = after.0.sound;
          beside = after.0.beside;
          shows = record {
            many_words = after.0.shows.many_words;
            many_slots = after.0.shows.many_slots;
            few_objects = after.0.shows.few_objects;
            few_entries = after.0.shows.few_entries;
            generations = after.0.shows.generations;
            objects = after.0.shows.objects;
            cells = after.0.shows.cells;
          };
          parts = after.0.parts;
          seats = λ j view e.
              ⊎_elim
              (λ is. subst (Knows F.tag_of after.0.state after.0.beside j) is.1 tt)
              (λ else. after.0.seats j view else.1)
              (at_set (set table.views id (Crew (skipped_view stamp v ∷ []))) other j Spent view e);
        },
        after.1,
        possible F laws declared stamp table r id v at drawn,
      )

  joined : Joins (Ruled F declared callers) id (Crew (v ∷ [])) other (Drew stamp) (Crew (skipped_view stamp v ∷ [])) Spent
  joined table r at apart there =
      let here : get_elem? table.views other ≡ some (Drew stamp) = sym (set_else table.views id other (Crew (skipped_view stamp v ∷ [])) apart) ∙ there in
      let shown = skip_shown table r.rule at here in
      record { rule = shown.0; many = ap many_callers shown.1 ∙ r.many }

  pub skip_joins : (view told : View P O R) → view ≡ Crew (v ∷ []) → told ≡ Drew stamp → Joins (Ruled F declared callers) id view other told (skipping view told) Spent
  skip_joins view told same is =
      subst (λ (z : View P O R × View P O R). Joins (Ruled F declared callers) id z.0 other z.1 (skipping z.0 z.1) Spent) (λ i. (sym same i, sym is i)) joined
