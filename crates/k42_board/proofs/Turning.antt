-- An event of generations, as a step of one pass.
use Rattle.std.proofs.Common.{◌≡◌, ◌≢◌, ℕ, ◌≤◌, false, List, [], ◌∷◌, Option, Some, length, get_or, set, sym, refl, ap, ◌∙◌, subst, arith, length-set, get_or-set_other}
use Rattle.std.specs.List.{slice_get, slice_index}
use Rattle.std.specs.Option.{unwrap_or}
use Rattle.std.proofs.lemmas.List.{set-get_or}
use Rattle.std.proofs.lemmas.Option.{unwrap_or-slice_get}
use mathlib.Core.Option.{some}
use lib.ListN.{get_elem?}
use Rattle.atomic_table.specs.Table.{State}
use Rattle.k42_places.specs.Places.{EachPlace}
use Rattle.gen_core.specs.Events.{is_idle}
use Rattle.gen_core.specs.Plain.{Caller, Generations}
use Rattle.gen_core.specs.State.{caller_at, proc_at}
use Rattle.gen_core.specs.declared.state.GenProc.{GenProc}
use Rattle.gen_core.specs.declared.state.GraceAt.{GraceAt}
use Rattle.gen_core.specs.declared.state.GraceAt.TheVariants.{Quiet}
use Rattle.phase_core.specs.Effects.{drained_at, draining_from}
use Rattle.phase_core.specs.Event as phases
use Rattle.phase_core.specs.Plain.{Object, Visitor}
use Rattle.phase_core.specs.Stages.{named_by, object_named, is_moved}
use Rattle.phase_core.specs.State.{object_at, visitor_at}
use Rattle.phase_core.specs.declared.caller.SwapAt.{SwapAt}
use Rattle.phase_core.specs.declared.caller.SwapAt.TheVariants.{Interposed, Draining}
use Rattle.k42_stamp.specs.Laws.{AreLaws}
use Rattle.k42_stamp.specs.Layouts.{Layouts}
use Rattle.k42_joined.specs.Answers.{is_turned}
use Rattle.k42_joined.specs.Effects.{effect}
use Rattle.k42_joined.specs.Event.{AtPhases}
use Rattle.k42_joined.specs.Plain.{Joined}
use Rattle.k42_joined.specs.Possible.{IsPossible}
use Rattle.k42_joined.specs.Sound.{IsSound}
use Rattle.k42_joined.specs.State.{many_procs, is_handed}
use Rattle.k42_joined.specs.Swapping.{may_turn_over}
use Rattle.k42_joined.proofs.Kept.{joined_keeps}
use Rattle.k42_board.specs.Cells.{Slot}
use Rattle.k42_board.specs.Generations.{Counts, AreGenerations, KnowsGenerations, in_words}
use Rattle.k42_board.specs.Parts.{IsPart}
use Rattle.k42_board.specs.Phases.{KnowsSwap, KnowsRows}
use Rattle.k42_board.specs.Trace.{KnowsTrace}
use Rattle.k42_board.specs.Rule.{Beside, NamesRows, KnowsPass, Shows, Rule}
use Rattle.k42_board.specs.declared.view.PassView.{PassView}
use Rattle.k42_board.specs.declared.view.Row.{Row}
use Rattle.k42_board.specs.declared.view.View.{View}
use Rattle.k42_board.specs.declared.view.View.TheVariants.{Crew}
use Rattle.k42_board.proofs.Apart.{IsOfGenerations, objects_stay, cells_stay}
use Rattle.k42_board.proofs.OnePass.{with_pass, LeavesOthers, moved}

-- the state with these generations and visitors
abbrev pub turned_to : {L O R : Type 0} → Joined L O R → Generations → List Visitor → Joined L O R
turned_to s g visitors = record s { phases = record s.phases { turns = g; callers = visitors } }

-- and with these counts of what was begun
abbrev pub with_counts : {P : Type 0} → Beside P → Counts → Beside P
with_counts beside counts = record beside { counts = counts }

-- what a step of generations makes of a pass
abbrev pub turned_pass :
    {P O R : Type 0} → PassView P O R → Caller → Visitor → ℕ → Option ℕ → List Row → ℕ → PassView P O R
turned_pass x turn visitor graces base rows granted = record x {
  turn = turn;
  visitor = visitor;
  graces = graces;
  base = base;
  rows = rows;
  granted = granted;
}

-- the swap is of the object that it was of, as far as it had moved it
pub record IsSameSwap (swap after : SwapAt) : Type 0 where
  pub named : named_by after ≡ named_by swap
  pub turned : (k : Object) → is_turned after k ≡ is_turned swap k
  pub moved : is_moved after ≡ is_moved swap

pub same_swap : (swap : SwapAt) → IsSameSwap swap swap
same_swap swap = record { named = refl; turned = λ k. refl; moved = refl }

pub drained_swap : (grace : GraceAt) (swap : SwapAt) → IsSameSwap swap (drained_at grace swap)
drained_swap Quiet (Draining o) = record { named = refl; turned = λ k. refl; moved = refl }
drained_swap grace swap = same_swap swap

pub draining_swap : (swap : SwapAt) → IsSameSwap swap (draining_from swap)
draining_swap (Interposed o) = record { named = refl; turned = λ k. refl; moved = refl }
draining_swap swap = same_swap swap

module _ {L O R : Type 0} (s : Joined L O R) (g : Generations) (visitors : List Visitor) where
  abbrev pub t : Joined L O R
  t = turned_to s g visitors

  -- a caller other than the event's
  pub record IsOther (counts counts' : Counts) (c : ℕ) : Type 0 where
    pub turn : caller_at g c ≡ caller_at s.phases.turns c
    pub visitor : visitor_at t.phases c ≡ visitor_at s.phases c
    pub graces : slice_index counts'.graces c ≡ slice_index counts.graces c
    -- while it has a grace, no generation moves
    pub base :
        is_idle (caller_at s.phases.turns c).grace ≡ false → (p : ℕ) (k : GenProc) → slice_get g.procs p ≡ Some k
        → (old : GenProc) × (slice_get s.phases.turns.procs p ≡ Some old) × (k.generation ≡ old.generation)

  -- no generation falls
  abbrev pub Rises : Type 0
  Rises = (p : ℕ) → (proc_at s.phases.turns p).generation ≤ (proc_at g p).generation

  pub generations_stay : {P : Type 0} (counts counts' : Counts) (x : PassView P O R) → IsOther counts counts' x.number
      → KnowsGenerations s.phases.turns counts x → KnowsGenerations g counts' x
  generations_stay counts counts' x other knows = record {
    turn = ap in_words other.turn ∙ knows.turn;
    graces = other.graces ∙ knows.graces;
    base = λ b e busy p k here.
        let old = other.base (ap (λ z. is_idle z.grace) knows.turn ∙ busy) p k here in
        old.2 ∙ knows.base b e busy p old.0 old.1;
  }

  module _ {P : Type 0} (x : PassView P O R) (turn : Caller) (visitor : Visitor) (graces : ℕ) (base : Option ℕ)
      (rows : List Row) (granted : ℕ) where
    abbrev y : PassView P O R
    y = turned_pass x turn visitor graces base rows granted

    swap_goes : IsSameSwap x.visitor.swap visitor.swap → KnowsSwap s.phases x → KnowsSwap t.phases y
    swap_goes same knows = record {
      turned =
          knows.turned
          ∙ ap (λ (o : Option ℕ). is_turned x.visitor.swap (object_at s.phases (unwrap_or o 0))) (sym same.named)
          ∙ sym (same.turned (object_at s.phases (object_named visitor.swap)));
      layout_begun = λ o named not. knows.layout_begun o (sym same.named ∙ named) not;
      begun = λ o named not. knows.begun o (sym same.named ∙ named) not;
      next = λ o named is. knows.next o (sym same.named ∙ named) is;
    }

    trace_goes : (tag_of : L → ℕ) → Rises → turn.proc ≡ x.turn.proc → IsSameSwap x.visitor.swap visitor.swap
        → KnowsTrace tag_of s x → KnowsTrace tag_of t y
    trace_goes tag_of rises proc same knows = record {
      kept = knows.kept;
      found = knows.found;
      over = knows.over;
      handed = λ tag e.
          let old = knows.handed tag e in (
            same.moved ∙ old.0,
            ap (λ (o : Option ℕ). may_turn_over s tag_of (unwrap_or o 0) tag) same.named ∙ old.1,
          );
      unhanded = λ e is.
          ap (λ (o : Option ℕ). is_handed s (unwrap_or o 0)) same.named ∙ knows.unhanded e (sym same.moved ∙ is);
      times = λ place entry e generation is.
          let old = knows.times place entry e generation is in
          let more = rises x.turn.proc in
          subst (λ (p : ℕ). generation ≤ (proc_at g p).generation) (sym proc) (omega (arith, old, more));
    }

    -- the pass that turned
    pub record IsOwn (tag_of : L → ℕ) (beside : Beside P) (counts : Counts) (id : ℕ) : Type 0 where
      pub many : length visitors ≡ length s.phases.callers
      pub rises : Rises
      pub generations : KnowsGenerations g counts y
      pub visitor_is : visitor_at t.phases x.number ≡ visitor
      pub place : visitor.place ≡ x.visitor.place
      pub swap : IsSameSwap x.visitor.swap visitor.swap
      pub proc : turn.proc ≡ x.turn.proc
      pub names : NamesRows beside id rows
      pub rows_known : KnowsRows s.phases y

    pub own_goes : (tag_of : L → ℕ) (beside : Beside P) (counts : Counts) (id : ℕ) → KnowsPass tag_of s beside id x
        → IsOwn tag_of beside counts id → KnowsPass tag_of t (with_counts beside counts) id y
    own_goes tag_of beside counts id knows own = record {
      there = rw own.many knows.there;
      seat = knows.seat;
      names = record { named = own.names.named; once = own.names.once };
      generations = own.generations;
      phases = record {
        visitor = own.visitor_is;
        shapes = knows.phases.shapes;
        layout = rw own.place knows.phases.layout;
        learned = rw own.place knows.phases.learned;
        swap = swap_goes own.swap knows.phases.swap;
        rows = record { old = own.rows_known.old; granted = own.rows_known.granted; swept = own.rows_known.swept; spans = own.rows_known.spans };
      };
      cells = record { taker = knows.cells.taker; notes = knows.cells.notes; noted = knows.cells.noted; out = knows.cells.out; only = knows.cells.only };
      trace = trace_goes tag_of own.rises own.proc own.swap knows.trace;
    }

    -- its rows and notes as they were
    pub rows_kept : visitor.noted ≡ x.visitor.noted → visitor.freeing ≡ x.visitor.freeing → rows ≡ x.rows → granted ≡ x.granted
        → KnowsRows s.phases x → KnowsRows s.phases y
    rows_kept noted freeing same first knows = record {
      old = rw same knows.old;
      granted = rw (same, first, noted) knows.granted;
      swept = rw noted knows.swept;
      spans = rw freeing knows.spans;
    }

  pub pass_stays : {P : Type 0} (tag_of : L → ℕ) (beside : Beside P) (counts' : Counts) (j : ℕ) (x : PassView P O R) → length visitors ≡ length s.phases.callers
      → Rises → IsOther beside.counts counts' x.number → KnowsPass tag_of s beside j x
      → KnowsPass tag_of t (with_counts beside counts') j x
  pass_stays tag_of beside counts' j x many rises other knows =
      own_goes x x.turn x.visitor x.graces x.base x.rows x.granted tag_of beside counts' j knows
      (record {
        many = many;
        rises = rises;
        generations = generations_stay beside.counts counts' x other knows.generations;
        visitor_is = other.visitor ∙ knows.phases.visitor;
        place = refl;
        swap = same_swap x.visitor.swap;
        proc = refl;
        names = knows.names;
        rows_known = knows.phases.rows;
      })

  -- the parts that are due are as before
  pub part_stays : {S P : Type 0} (F : Layouts S L P O R) (declared : List L) (n : ℕ) (part : Option P)
      → IsPart F declared s n part → IsPart F declared t n part
  part_stays F declared n part is = record {
    due = λ declaration chain row declares rows here kept.
        is.due declaration chain row declares (record { fits = rows.fits; layouts = rows.layouts }) here kept;
    before = is.before;
  }

-- what is read of two lists at a place where they have the same
pub same_at : {A : Type 0} (xs ys : List A) (i : ℕ) (d : A) → slice_get ys i ≡ slice_get xs i → get_or ys i d ≡ get_or xs i d
same_at xs ys i d same = sym (unwrap_or-slice_get ys i d) ∙ ap (λ x. unwrap_or x d) same ∙ unwrap_or-slice_get xs i d

module _ {S L P O R : Type 0} (F : Layouts S L P O R) (declared : List L)
    (table : State (Slot P O R) (View P O R)) (r : Rule F declared table) (id : ℕ) (v : PassView P O R)
    (at : get_elem? table.views id ≡ some (Crew (v ∷ []))) where
  -- a step that leaves the state as it was, and the word that it found
  pub stayed : (i : ℕ) (w : PassView P O R) → KnowsPass F.tag_of r.state r.beside id w
      → (after : Rule F declared (with_pass table (set table.words i (get_or table.words i 0)) table.homes id w)) × (after.state ≡ r.state)
  stayed i w mine =
      subst (λ (words : List ℕ). (after : Rule F declared (with_pass table words table.homes id w)) × (after.state ≡ r.state))
      (sym (set-get_or table.words i 0))
      (moved F declared table r id v at r.state r.beside table.words table.homes w
      (record { passes = λ j x not knows. knows; named = λ j row not old is. (old, is); drawn = λ stamp known. known })
      r.sound
      (record {
        many_words = r.shows.many_words;
        many_slots = r.shows.many_slots;
        few_objects = r.shows.few_objects;
        few_entries = r.shows.few_entries;
        generations = r.shows.generations;
        objects = r.shows.objects;
        cells = r.shows.cells;
      })
      r.parts
      mine)

module _ {S L P O R : Type 0} (F : Layouts S L P O R) (laws : AreLaws F) (declared : List L)
    (table : State (Slot P O R) (View P O R)) (r : Rule F declared table) (id : ℕ) (v : PassView P O R)
    (at : get_elem? table.views id ≡ some (Crew (v ∷ []))) where
  few_cells : length r.state.turns.cells ≤ 256
  few_cells = let many = r.sound.cells.locks.many.cells in let few = r.shows.few_objects in omega (arith, many, few)

  few_entries : EachPlace (λ o (k : Object). length k.entries ≤ 8) r.state.phases.objects
  few_entries o k here =
      let long = (r.sound.phases.in_scene.objects o k here).many_entries in
      let few = r.sound.phases.in_scene.in_course.limits.few_procs in omega (arith, long, few)

  module _ (event : phases.Event) (g : Generations) (x : Visitor) (counts : Counts) where
    abbrev pub visitors_after : List Visitor
    visitors_after = set r.state.phases.callers v.number x

    abbrev pub state_after : Joined L O R
    state_after = turned_to r.state g visitors_after

    -- what the event does, and what it leaves of others and of the generations
    pub record IsTurn : Type 0 where
      pub possible : IsPossible F declared r.state (AtPhases event)
      pub effect_is : state_after ≡ effect r.state (AtPhases event)
      pub many_procs_same : length g.procs ≡ length r.state.phases.turns.procs
      pub turns : (d : ℕ) → d ≢ v.number → caller_at g d ≡ caller_at r.state.phases.turns d
      pub graces : (d : ℕ) → d ≢ v.number → slice_index counts.graces d ≡ slice_index r.beside.counts.graces d
      pub base :
          (d p : ℕ) (k : GenProc) → d ≢ v.number → is_idle (caller_at r.state.phases.turns d).grace ≡ false
          → slice_get g.procs p ≡ Some k
          → (old : GenProc) × (slice_get r.state.phases.turns.procs p ≡ Some old) × (k.generation ≡ old.generation)
      pub rises : Rises r.state g visitors_after

    module _ (turn : IsTurn) where
      others : (d : ℕ) → d ≢ v.number → IsOther r.state g visitors_after r.beside.counts counts d
      others d not = record {
        turn = turn.turns d not;
        visitor = get_or-set_other r.state.phases.callers v.number d x _ not;
        graces = turn.graces d not;
        base = λ busy p k here. turn.base d p k not busy here;
      }

      leaves : LeavesOthers F declared table r id v at state_after (with_counts r.beside counts)
      leaves = record {
        passes = λ j y not knows.
            pass_stays r.state g visitors_after F.tag_of r.beside counts j y (length-set r.state.phases.callers v.number x) turn.rises
            (others y.number not) knows;
        named = λ j row not old is. (old, is);
        drawn = λ stamp known. known;
      }

      turned_shows : (i new : ℕ) (w : PassView P O R) → IsOfGenerations i
          → AreGenerations (set table.words i new) g counts
          → Shows state_after (with_counts r.beside counts) (with_pass table (set table.words i new) table.homes id w)
      turned_shows i new w apart shown = record {
        many_words = length-set table.words i new ∙ r.shows.many_words;
        many_slots = r.shows.many_slots;
        few_objects = r.shows.few_objects;
        few_entries = r.shows.few_entries;
        generations = shown;
        objects = objects_stay table.words i new r.state.phases.objects apart r.shows.few_objects few_entries r.shows.objects;
        cells =
            cells_stay (many_procs state_after) table.words table.homes r.beside.contents i new r.state.turns.cells apart few_cells
            (rw turn.many_procs_same r.shows.cells);
      }

      -- the pass moved by the event
      pub turned : (i new : ℕ) (w : PassView P O R) → IsOfGenerations i
          → AreGenerations (set table.words i new) g counts
          → KnowsPass F.tag_of state_after (with_counts r.beside counts) id w
          → (after : Rule F declared (with_pass table (set table.words i new) table.homes id w))
          × (after.state ≡ effect r.state (AtPhases event)) × IsPossible F declared r.state (AtPhases event)
      turned i new w apart shown mine =
          let after = moved F declared table r id v at state_after (with_counts r.beside counts) (set table.words i new) table.homes w leaves
          (subst (λ z. IsSound F declared z) (sym turn.effect_is) (joined_keeps F laws declared r.state r.sound (AtPhases event) turn.possible))
          (turned_shows i new w apart shown)
          (λ n lt. part_stays r.state g visitors_after F declared n (r.beside.contents.part n) (r.parts n lt))
          mine in
          (after.0, after.1 ∙ turn.effect_is, turn.possible)
