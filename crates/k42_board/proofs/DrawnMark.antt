-- A swap that found its object over is drawn: what the step owes to the rule.
use Rattle.std.proofs.Common.{◌≡◌, ℕ, ◌<◌, ◌||◌, Bool, true, false, cond, eqb, List, [], ◌∷◌, Option, Some, None, length, get_or, set, sym, refl, ap, ◌∙◌, subst, arith}
use Rattle.std.proofs.lemmas.Bool.{eqb-true, eq-eqb}
use mathlib.Core.Option.{some}
use lib.ListN.{get_elem?}
use Rattle.atomic_table.specs.Table.{State}
use Rattle.k42_kinds.specs.Histories.{is_call}
use Rattle.k42_kinds.specs.Rows.{Ways, part_at}
use Rattle.k42_kinds.specs.declared.entry.Act.{Act}
use Rattle.k42_kinds.specs.declared.entry.Act.TheVariants.{Call, Swap}
use Rattle.k42_kinds.specs.declared.entry.Answer.{Answer}
use Rattle.k42_kinds.specs.declared.entry.Answer.TheVariants.{Spent, Gone}
use Rattle.k42_kinds.specs.declared.entry.Entry.{Entry}
use Rattle.k42_kinds.specs.declared.entry.Reach.{Reach}
use Rattle.phase_core.specs.Consequences.{IsReadyToMove}
use Rattle.phase_core.specs.Plain.{Object}
use Rattle.turn_core.specs.Events.{has_open}
use Rattle.turn_core.specs.Names.{names}
use Rattle.turn_core.specs.declared.event.TurnEvent.TheVariants.{Draw}
use Rattle.k42_stamp.specs.Chains.{Row, parts_of}
use Rattle.k42_stamp.specs.Laws.{AreLaws}
use Rattle.k42_stamp.specs.Layouts.{Layouts}
use Rattle.k42_stamp.specs.Parts.{act_moves, reach_of}
use Rattle.k42_joined.specs.Answers.{IsTrueOf}
use Rattle.k42_joined.specs.Drawing.{IsDrawnAs}
use Rattle.k42_joined.specs.Effects.{effect}
use Rattle.k42_joined.specs.Event.{AtCells}
use Rattle.k42_joined.specs.Found.{tells_over}
use Rattle.k42_joined.specs.Numbers.{cell_of, object_of, place_of}
use Rattle.k42_joined.specs.Plain.{Kept, Joined}
use Rattle.k42_joined.specs.Possible.{IsPossible}
use Rattle.k42_joined.specs.State.{object, cell, incarnation, many_objects, many_procs, many_hands, is_handed, kept_of}
use Rattle.k42_joined.proofs.CellNumbers.{object_of-cell}
use Rattle.k42_board.specs.Cells.{Slot, cells_noted}
use Rattle.k42_board.specs.Drawing.{MayDrawMark, entry_mark, draws_at, part_in}
use Rattle.k42_board.specs.Parts.{HasDue}
use Rattle.k42_board.specs.Rule.{KnowsPass, Rule}
use Rattle.k42_board.specs.Values.{incarnation_in}
use Rattle.k42_board.specs.Views.{object_begun, word_begun, live_at}
use Rattle.k42_board.specs.Words.{lock_word}
use Rattle.k42_board.specs.declared.cell.Content.{Content}
use Rattle.k42_board.specs.declared.view.PassView.{PassView}
use Rattle.k42_board.specs.declared.view.View.{View}
use Rattle.k42_board.specs.declared.view.View.TheVariants.{Crew}
use Rattle.k42_board.proofs.CellsDrawn.{draws, drawn_long}
use Rattle.k42_board.proofs.DrawnAlone.{begun_found}
use Rattle.k42_board.proofs.DrawnAt.{open_is, can_draw_of, all_are, open_life, open_closed, handed_ready, next_noted}
use Rattle.k42_board.proofs.DrawnParts.{as_noted, here, parts_drawn}
use Rattle.k42_board.proofs.Moves.{Moves}
use Rattle.k42_board.proofs.OnePass.{with_pass, known}

-- an object that is over is not ready to be moved
over_unready : {R : Type 0} (k : Object) (i : ℕ) (answer : Answer R) → tells_over answer ≡ true → IsTrueOf k i answer → IsReadyToMove k → ⊥
over_unready k i Spent over is ready = let next = ready.next in let last = is.1 in absurd (omega (arith, next, last))
over_unready k i Gone over is ready = let alive = ready.alive in let dead = is.1 in absurd (omega (arith, alive, dead))
over_unready k i answer over is ready = absurd (cc)

-- what is no call moves no part
no_moves : {S P O R : Type 0} (ways : Ways S P O R) (parts : List P) (act : Act O) (reach : Reach) → is_call act ≡ false → act_moves ways parts act reach ≡ parts
no_moves ways parts (Call op) reach e = absurd (cc)
no_moves ways parts (Swap to) reach e = refl

only_one : (n m : ℕ) → names (n ∷ []) m ≡ true → n ≡ m
only_one n m e = go (eqb n m) refl e where
  go : (b : Bool) → eqb n m ≡ b → b || false ≡ true → n ≡ m
  go true same is = eqb-true n m same
  go false apart is = absurd (cc)

module _ {S L P O R : Type 0} (F : Layouts S L P O R) (laws : AreLaws F) (declared : List L)
    (table : State (Slot P O R) (View P O R)) (r : Rule F declared table) (id : ℕ) (v : PassView P O R)
    (at : get_elem? table.views id ≡ some (Crew (v ∷ []))) (content : Content P O R) (act : Act O) (answer : Answer R) (may : MayDrawMark content act answer v) where
  abbrev s : Joined L O R
  s = r.state

  abbrev c : ℕ
  c = v.number

  abbrev n : ℕ
  n = content.number

  abbrev o : ℕ
  o = object_begun v.last

  abbrev i : ℕ
  i = incarnation_in (word_begun v.last)

  abbrev entry : Entry O R
  entry = entry_mark v n act answer

  abbrev fresh : ℕ → Option P
  fresh = part_in (content ∷ [])

  k : KnowsPass F.tag_of s r.beside id v
  k = known F declared table r id v at

  begun : (kept_of s c).begun ≡ Some o
  begun = ap (λ (z : Kept R). z.begun) k.trace.kept ∙ begun_found (live_at v) v.last answer (k.trace.found answer may.found)

  found : (kept_of s c).found ≡ Some answer
  found = ap (λ (z : Kept R). z.found) k.trace.kept ∙ may.found

  named : o < many_objects s
  named = (r.sound.answers c k.there).kept.there o begun

  present : i ≡ incarnation s o
  present = k.trace.over answer may.found may.over

  true_of : IsTrueOf (object s o) (incarnation s o) answer
  true_of = ((r.sound.answers c k.there).found o answer begun found).over

  unhanded : is_handed s o ≡ false
  unhanded = go (is_handed s o) refl where
    go : (b : Bool) → is_handed s o ≡ b → b ≡ false
    go false e = refl
    go true e = absurd (over_unready (object s o) (incarnation s o) answer may.over true_of (handed_ready F laws declared s r.sound o named e))

  some_procs : 0 < many_procs s
  some_procs = subst (λ m. 0 < m) r.sound.cells.rows.told.procs laws.some

  number : n ≡ cell_of o (incarnation s o) 0
  number = may.named ∙ ap (λ j. cell_of o j 0) present

  noted : (m : ℕ) → names (n ∷ []) m ≡ true → names (cells_noted v.notes) m ≡ true
  noted m e = subst (λ z. names (cells_noted v.notes) z ≡ true) (only_one n m e) may.held.noted

  life : (cell s n).life ≡ many_hands s o
  life = ap (λ z. (cell s z).life) number ∙ open_life F laws declared s r.sound o named unhanded 0 some_procs

  closed : (cell s n).closed ≡ false
  closed = ap (λ z. (cell s z).closed) number ∙ open_closed F laws declared s r.sound o named unhanded 0 some_procs

  drawn_as : (told : Act O) → is_call told ≡ false → IsDrawnAs F declared s c (n ∷ []) entry told
  drawn_as (Call op) e = absurd (cc)
  drawn_as (Swap to) e = record {
    begun = begun;
    found = found;
    over = may.over;
    present = present;
    first = ap (λ z. z ∷ []) may.named;
    generation = ap (λ b. cond b v.turn.active None) may.act_is;
  }

  possible : IsPossible F declared s (AtCells (Draw c (n ∷ []) entry))
  possible =
      let is = as_noted F laws declared table r id v at n may.held.noted in
      record {
        caller = k.there;
        may = record {
          core = can_draw_of s.turns c (n ∷ []) entry refl refl
              (all_are (has_open s.turns c) (n ∷ []) (λ m e. subst (λ z. has_open s.turns c z ≡ true) (only_one n m e) (open_is s.turns c n is.held is.away closed)))
              (next_noted F laws declared table r id v at (n ∷ []) entry noted refl refl refl);
          beside = record {
            bears = record { proc = ap (λ x. x.proc) (sym k.generations.turn); cell = refl };
            act = drawn_as act may.act_is;
          };
        };
      }

  there : (m : ℕ) → names (n ∷ []) m ≡ true → m < length s.turns.cells
  there m e = subst (λ z. z < length s.turns.cells) (only_one n m e) (as_noted F laws declared table r id v at n may.held.noted).there

  of_object : (m : ℕ) → names (n ∷ []) m ≡ true → (object_of m ≡ o) × ((cell s m).life ≡ many_hands s o)
  of_object m e =
      subst (λ z. (object_of z ≡ o) × ((cell s z).life ≡ many_hands s o)) (only_one n m e)
      (ap object_of number ∙ object_of-cell o (incarnation s o) 0 (omega arith), life)

  -- the part stays
  fresh_is : fresh n ≡ r.beside.contents.part n
  fresh_is =
      ap (λ b. cond b content.part None) (eq-eqb n n refl) ∙ may.part
      ∙ sym (as_noted F laws declared table r id v at n may.held.noted).part

  abbrev row : Row L P O R
  row = (here F laws declared table r id v at o named).chain.row

  stays : (m : ℕ) → cond (names (n ∷ []) m) (fresh m) (r.beside.contents.part m) ≡ r.beside.contents.part m
  stays m = go (names (n ∷ []) m) refl where
    go : (b : Bool) → names (n ∷ []) m ≡ b → cond b (fresh m) (r.beside.contents.part m) ≡ r.beside.contents.part m
    go false e = refl
    go true e = subst (λ z. fresh z ≡ r.beside.contents.part z) (only_one n m e) fresh_is

  pub mark_draws : (after : Rule F declared (with_pass table (set table.words (lock_word n) (get_or table.words (lock_word n) 0)) table.homes id (draws_at (content ∷ []) entry v)))
      × (after.state ≡ effect s (AtCells (Draw c (n ∷ []) entry))) × IsPossible F declared s (AtCells (Draw c (n ∷ []) entry))
  mark_draws =
      let after = draws F laws declared table r id v at (n ∷ []) entry fresh (record {
        possible = possible;
        once = refl;
        there = there;
        noted = noted;
        few = may.few;
        timely = λ generation e. let no : entry.generation ≡ None = ap (λ b. cond b v.turn.active None) may.act_is in absurd (cc);
        parts = λ m lt. parts_drawn F laws declared table r id v at (n ∷ []) entry fresh possible refl there o named refl of_object
            (λ m' lt' own life' due.
            subst (λ (z : Option P × List P). HasDue (F.ways_of row.layout) F.procs (place_of m') z.0 (part_at z.1 (place_of m')))
            (λ j. (sym (stays m') j, sym (no_moves (F.ways_of row.layout) (parts_of F row) act (reach_of F row.layout entry) may.act_is) j)) due)
            m (subst (λ z. m < z) (drawn_long F laws declared table r id v at (n ∷ []) entry fresh) lt);
      }) (lock_word n) in
      (after.0, after.1, possible)

pub mark_moves : {S L P O R : Type 0} (F : Layouts S L P O R) → AreLaws F → (declared : List L) (id : ℕ) (v : PassView P O R) (content : Content P O R) (entry : Entry O R)
    → MayDrawMark content entry.act entry.answer v × (entry ≡ entry_mark v content.number entry.act entry.answer)
    → Moves F declared (AtCells (Draw v.number (content.number ∷ []) entry)) (lock_word content.number) (λ word. word) (λ found. draws_at (content ∷ []) entry) id v
mark_moves {O} {R} F laws declared id v content entry may =
    subst (λ (e : Entry O R). Moves F declared (AtCells (Draw v.number (content.number ∷ []) e)) (lock_word content.number) (λ word. word) (λ found. draws_at (content ∷ []) e) id v)
    (sym may.1) (record { from = λ table r at. mark_draws F laws declared table r id v at content entry.act entry.answer may.0 })
