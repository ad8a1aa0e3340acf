-- From every state that the table shows, each step on cells keeps the rule, as its event.
use Rattle.std.proofs.Common.{◌≡◌, ◌≢◌, ℕ, ◌+◌, ◌<◌, Bool, true, false, not, cond, eqb, List, [], ◌∷◌, Option, Some, None, length, get_or, set, sym, refl, ap, ◌∙◌, subst, arith, get_or-set_other, get_or-set_same}
use Rattle.std.specs.List.{slice_get}
use Rattle.std.specs.Prelude.{is_some}
use Rattle.std.proofs.lemmas.Bool.{eqb-true, eq-eqb}
use Rattle.std.proofs.lemmas.Option.{slice_get-get_or}
use mathlib.Core.Option.{none, some}
use lib.ListN.{get_elem?}
use Rattle.atomic_table.specs.Table.{State}
use Rattle.k42_kinds.specs.declared.entry.Entry.{Entry}
use Rattle.turn_core.specs.Events.{holds_home, is_caller, cell_locked, cell_unlocked, cell_taken, cell_put, caller_locked, caller_unlocked, locked}
use Rattle.turn_core.specs.Names.{names}
use Rattle.turn_core.specs.Plain.{Cell, Caller}
use Rattle.turn_core.specs.State.{cell_at, caller_at, fresh_cell, fresh_caller}
use Rattle.turn_core.specs.declared.event.TurnEvent.TheVariants.{Lock, Take, Put, Unlock}
use Rattle.k42_stamp.specs.Laws.{AreLaws}
use Rattle.k42_stamp.specs.Layouts.{Layouts}
use Rattle.k42_joined.specs.Effects.{effect}
use Rattle.k42_joined.specs.Event.{AtCells}
use Rattle.k42_joined.specs.Plain.{Joined}
use Rattle.k42_joined.specs.Possible.{IsPossible, MayTouch}
use Rattle.k42_joined.proofs.Kept.{joined_keeps}
use Rattle.k42_board.specs.Cells.{Slot, IsCell, IsSlot, IsNoted, KnowsCells, cells_noted}
use Rattle.k42_board.specs.Parts.{IsPart}
use Rattle.k42_board.specs.Rule.{Rule}
use Rattle.k42_board.specs.Taking.{HoldsHome, MayLock, LockFound, noted, unlocked_view, reaching_view, lifted_view, put_view, without}
use Rattle.k42_board.specs.Words.{lock_word, slot_of}
use Rattle.k42_board.specs.Values.{holder_value}
use Rattle.k42_board.specs.declared.cell.Content as code
use Rattle.k42_board.specs.declared.view.Note.{Note}
use Rattle.k42_board.specs.declared.view.PassView.{PassView}
use Rattle.k42_board.specs.declared.view.View.{View}
use Rattle.k42_board.specs.declared.view.View.TheVariants.{Crew}
use Rattle.k42_board.proofs.CellsApart.{note_of, written}
use Rattle.k42_board.proofs.CellsMoved.{cell_moved}
use Rattle.k42_board.proofs.CellsSteps.{free_word, held_word, some_one, stands, relock, take_move, slot_move, put_move, has_content, before}
use Rattle.k42_board.proofs.CellsTouched.{touch, alone_at}
use Rattle.k42_board.proofs.OnePass.{with_pass, known}
use Rattle.k42_board.proofs.KnownStamps.{known_after}

module _ {S L P O R : Type 0} (F : Layouts S L P O R) (laws : AreLaws F) (declared : List L)
    (table : State (Slot P O R) (View P O R)) (r : Rule F declared table) (id : ℕ) (v : PassView P O R)
    (at : get_elem? table.views id ≡ some (Crew (v ∷ []))) (n : ℕ) where
  abbrev s : Joined L O R
  s = r.state

  abbrev c : ℕ
  c = v.number

  abbrev x : Cell O R
  x = cell_at s.turns n

  abbrev i : ℕ
  i = lock_word n

  abbrev found : ℕ
  found = get_or table.words i 0

  knows : KnowsCells s.turns r.beside.contents v
  knows = (known F declared table r id v at).cells

  c_there : c < length s.turns.callers
  c_there = let many = r.sound.cells.locks.many.callers in let lt = (known F declared table r id v at).there in omega (arith, many, lt)

  -- the pass holds the cell
  record IsHeld : Type 0 where
    there : n < length s.turns.cells
    held : x.lock ≡ Some c
    touched : MayTouch s c n

  listed : names v.taker.held n ≡ true → IsHeld
  listed e =
      let own = r.sound.cells.turns.callers c (caller_at s.turns c) (slice_get-get_or s.turns.callers c fresh_caller c_there) in
      let names' : names (caller_at s.turns c).held n ≡ true = ap (λ (y : Caller O R). names y.held n) knows.taker ∙ e in
      let held = own.holds n names' in
      record { there = own.there n names'; held = held; touched = r.sound.cells.locks.held n c held }

  locked_there : x.lock ≡ Some c → IsHeld
  locked_there held =
      let touched = r.sound.cells.locks.held n c held in
      record { there = (let many = r.sound.cells.locks.many.cells in let lt = touched.object in omega (arith, many, lt)); held = held; touched = touched }

  in_place : x.lock ≡ Some c → names (cells_noted v.notes) n ≡ false → x.home ≡ true
  in_place held unnoted = go x.home refl where
    go : (b : Bool) → x.home ≡ b → x.home ≡ true
    go true e = e
    go false e = let there = knows.noted n held e in absurd (cc)

  possible_home : IsHeld → x.home ≡ true → holds_home s.turns c n ≡ true
  possible_home is home = let held = is.held in let same = eq-eqb c c refl in rw (held, home, same) refl

  take_possible : IsHeld → x.home ≡ true → IsPossible F declared s (AtCells (Take c n))
  take_possible is home = record {
    caller = (known F declared table r id v at).there;
    may = record { core = possible_home is home; beside = is.touched };
  }

  unlock_possible : IsHeld → x.home ≡ true → IsPossible F declared s (AtCells (Unlock c n))
  unlock_possible is home = record { caller = (known F declared table r id v at).there; may = record { core = possible_home is home; beside = tt } }

  put_possible : IsHeld → x.home ≡ false → IsPossible F declared s (AtCells (Put c n))
  put_possible is away = record {
    caller = (known F declared table r id v at).there;
    may = record { core = (let held = is.held in let same = eq-eqb c c refl in rw (held, away, same) refl); beside = is.touched };
  }

  -- locking

  abbrev pub IsLocked : ℕ → Caller O R → Type 0
  IsLocked new taker =
      (after : Rule F declared (with_pass table (set table.words i new) table.homes id (record v { taker = taker })))
      × (after.state ≡ effect s (AtCells (Lock c n))) × IsPossible F declared s (AtCells (Lock c n))

  module _ (may : MayLock F.procs n v) where
    touched : MayTouch s c n
    touched = touch F laws declared table r id v at n may.touches

    lock_there : n < length s.turns.cells
    lock_there = let many = r.sound.cells.locks.many.cells in let lt = touched.object in omega (arith, many, lt)

    at_n : slice_get s.turns.cells n ≡ Some x
    at_n = slice_get-get_or s.turns.cells n (fresh_cell 0) lock_there

    not_held : x.lock ≢ Some c
    not_held e =
        let listed' = (r.sound.cells.turns.cells n x at_n).held c e in
        let unheld = ap (λ (y : Caller O R). names y.held n) knows.taker ∙ may.unheld in absurd (cc)

    -- each noted cell is one that it holds
    unnoted : names (cells_noted v.notes) n ≡ false
    unnoted = by_name (names (cells_noted v.notes) n) refl where
      by_name : (b : Bool) → names (cells_noted v.notes) n ≡ b → names (cells_noted v.notes) n ≡ false
      by_name false e = e
      by_name true e =
          let has = note_of v.notes n e in
          let is = knows.notes has.place has.note has.there in
          absurd (not_held (subst (λ m. (cell_at s.turns m).lock ≡ Some c) has.named is.held))

    word : found ≡ holder_value x.lock
    word = (r.shows.cells n x at_n).lock

    lock_possible : IsPossible F declared s (AtCells (Lock c n))
    lock_possible = record { caller = (known F declared table r id v at).there; may = record { core = core x.lock not_held; beside = touched } } where
      core : (lock : Option ℕ) → lock ≢ Some c → not (is_caller lock c) ≡ true
      core None other = refl
      core (Some d) other = go (eqb d c) refl where
        go : (b : Bool) → eqb d c ≡ b → not b ≡ true
        go false e = refl
        go true e = absurd (other (ap Some (eqb-true d c e)))

    home_free : x.lock ≡ None → (b : Bool) → x.home ≡ b → x.home ≡ true
    home_free free true e = e
    home_free free false e = let some = (r.sound.cells.turns.cells n x at_n).away e in let no = ap is_some free in absurd (cc)

    pub locks : v.out ≡ None → IsLocked (cond (eqb found 0) (c + 1) found) (cond (eqb found 0) (caller_locked n v.taker) v.taker)
    locks idle = go (eqb found 0) refl where
      go : (b : Bool) → eqb found 0 ≡ b → IsLocked (cond b (c + 1) found) (cond b (caller_locked n v.taker) v.taker)
      go true e =
          let free = free_word x.lock (sym word ∙ eqb-true found 0 e) in
          let callers : List (Caller O R) = set s.turns.callers c (caller_locked n (caller_at s.turns c)) in
          let after =
          cell_moved F declared table r id v at n (c + 1) table.homes r.beside.contents (cell_locked c x) callers (caller_locked n v.taker) v.notes v.out
          (relock F laws declared table r id v at n lock_there touched (Some c) (c + 1) callers (caller_locked n v.taker) (home_free free x.home refl) idle
          (λ d not e'. absurd (cc)) (λ d not e'. not (sym (some_one c d e'))) refl (λ d not. get_or-set_other s.turns.callers c d _ fresh_caller not)
          (get_or-set_same s.turns.callers c _ fresh_caller c_there ∙ ap (caller_locked n) knows.taker) refl
          (λ stamp. known_after s.turns c (caller_locked n (caller_at s.turns c)) stamp (omega arith)))
          (effect s (AtCells (Lock c n))) (λ k. record s { turns = locked s.turns c n (sym free k); kept = s.kept })
          (joined_keeps F laws declared s r.sound (AtCells (Lock c n)) lock_possible) in
          (after.0, after.1, lock_possible)
      go false e =
          let holder = held_word x.lock (λ none'. let is = eq-eqb found 0 (word ∙ none') in absurd (cc)) in
          let after = stands F laws declared table r id v at n found refl in
          (after.0, after.1 ∙ (λ k. record s { turns = locked s.turns c n (sym holder.1 k); kept = s.kept }), lock_possible)

    -- the lock is nobody's or another's, and nobody's where the pass is alone at the row
    pub lock_found : LockFound n v found
    lock_found = by_lock x.lock refl where
      by_lock : (lock : Option ℕ) → x.lock ≡ lock → LockFound n v found
      by_lock None e =
          let none : found ≡ 0 = word ∙ ap holder_value e in
          record { another = λ same. omega (arith, none, same); small = omega (arith, none); free = λ alone. none; unnoted = unnoted }
      by_lock (Some d) e =
          let is : found ≡ d + 1 = word ∙ ap holder_value e in
          let there = (r.sound.cells.turns.cells n x at_n).holder d e in
          let many = r.sound.cells.locks.many.callers in
          let shown = r.sound.phases.in_scene.many_callers in
          let few = r.sound.phases.in_scene.in_course.limits.few_callers in
          record {
            another = λ same. not_held (e ∙ ap Some (omega (arith, is, same)));
            small = omega (arith, is, there, many, shown, few);
            free = λ alone.
                absurd
                (not_held (e ∙ ap Some (alone_at F laws declared table r id v at n alone d (omega (arith, there, many)) (r.sound.cells.locks.held n d e))));
            unnoted = unnoted;
          }

  -- leaving a lock
  pub unlocks : HoldsHome n v → v.out ≡ None
      → (after : Rule F declared (with_pass table (set table.words i 0) table.homes id (unlocked_view n v)))
      × (after.state ≡ effect s (AtCells (Unlock c n))) × IsPossible F declared s (AtCells (Unlock c n))
  unlocks may idle =
      let is = listed may.held in
      let home = in_place is.held may.home in
      let callers : List (Caller O R) = set s.turns.callers c (caller_unlocked n (caller_at s.turns c)) in
      let after =
      cell_moved F declared table r id v at n 0 table.homes r.beside.contents (cell_unlocked x) callers (caller_unlocked n v.taker) v.notes v.out
      (relock F laws declared table r id v at n is.there is.touched None 0 callers (caller_unlocked n v.taker) home idle
      (λ d not e. not (some_one d c (sym e ∙ is.held))) (λ d not e. absurd (cc)) refl (λ d not. get_or-set_other s.turns.callers c d _ fresh_caller not)
      (get_or-set_same s.turns.callers c _ fresh_caller c_there ∙ ap (caller_unlocked n) knows.taker) refl
      (λ stamp. known_after s.turns c (caller_unlocked n (caller_at s.turns c)) stamp (omega arith)))
      (effect s (AtCells (Unlock c n))) refl (joined_keeps F laws declared s r.sound (AtCells (Unlock c n)) (unlock_possible is home)) in
      (after.0, after.1, unlock_possible is home)

  -- taking: the slot of a cell at home has its content

  pub take_found : HoldsHome n v → (content : code.Content P O R) × (get_elem? table.homes (slot_of n) ≡ some (some (Some content))) × (content.number ≡ n)
  take_found may =
      let is = listed may.held in
      let has = has_content F laws declared table r id v at n is.there is.touched (in_place is.held may.home) in
      (has.2.content, has.1 ∙ ap some has.2.full, has.2.is.number)

  pub may_take : HoldsHome n v → IsPossible F declared s (AtCells (Take c n))
  may_take may = let is = listed may.held in take_possible is (in_place is.held may.home)

  pub takes_away : HoldsHome n v → v.out ≡ None → (content : code.Content P O R) → get_elem? table.homes (slot_of n) ≡ some (some (Some content))
      → (after : Rule F declared (with_pass table (set table.words i found) (set table.homes (slot_of n) none) id (lifted_view content v)))
      × (after.state ≡ effect s (AtCells (Take c n)))
  takes_away may idle content full =
      let is = listed may.held in
      let home = in_place is.held may.home in
      cell_moved F declared table r id v at n found (set table.homes (slot_of n) none)
      (record r.beside.contents { out = written r.beside.contents.out n true }) (cell_taken x) s.turns.callers v.taker (noted content ∷ v.notes) (Some content.number)
      (take_move F laws declared table r id v at n is.there is.touched is.held idle home content full)
      (effect s (AtCells (Take c n))) refl (joined_keeps F laws declared s r.sound (AtCells (Take c n)) (take_possible is home))

  -- a slot that is out comes back empty
  pub gives_back : v.out ≡ Some n
      → (after : Rule F declared (with_pass table (set table.words i found) (set table.homes (slot_of n) (some None)) id (record v { out = None })))
      × (after.state ≡ s)
  gives_back out =
      let is' = knows.out n out in
      let is = locked_there is'.held in
      cell_moved F declared table r id v at n found (set table.homes (slot_of n) (some None))
      (record r.beside.contents { out = written r.beside.contents.out n false }) x s.turns.callers v.taker v.notes None
      (slot_move F laws declared table r id v at n is.there is.touched is.held false (set table.homes (slot_of n) (some None)) (some None) None is'.away refl refl
      (λ m e. some_one m n (sym e ∙ out)) (λ m e. absurd (cc)) (λ e. absurd (cc)))
      s (λ k. record s { turns = before F laws declared table r id v at n is.there is.touched k }) r.sound

  -- a cell that it has taken, by its note
  record IsAway (note : Note P O R) : Type 0 where
    held : IsHeld
    away : x.home ≡ false
    noted : IsNoted s.turns r.beside.contents c note
    named : note.cell ≡ n

  away_by : (place : ℕ) (note : Note P O R) → slice_get v.notes place ≡ Some note → note.cell ≡ n → IsAway note
  away_by place note e named =
      let is = knows.notes place note e in
      record {
        held = locked_there (ap (λ k. (cell_at s.turns k).lock) (sym named) ∙ is.held);
        away = ap (λ k. (cell_at s.turns k).home) (sym named) ∙ is.away;
        noted = is;
        named = named;
      }

  pub note_there : (place : ℕ) (note : Note P O R) → slice_get v.notes place ≡ Some note → note.cell ≡ n → n < length s.turns.cells
  note_there place note e named = (away_by place note e named).held.there

  pub may_put : (place : ℕ) (note : Note P O R) → slice_get v.notes place ≡ Some note → note.cell ≡ n → IsPossible F declared s (AtCells (Put c n))
  may_put place note e named = let is = away_by place note e named in put_possible is.held is.away

  slot_inside : v.out ≡ None → x.lock ≡ Some c → r.beside.contents.out n ≡ false
  slot_inside idle held = go (r.beside.contents.out n) refl where
    go : (b : Bool) → r.beside.contents.out n ≡ b → r.beside.contents.out n ≡ false
    go false e = e
    go true e = let out = knows.only n held e in absurd (cc)

  -- the slot of a cell that was taken is empty
  pub reach_found : v.out ≡ None → (place : ℕ) (note : Note P O R) → slice_get v.notes place ≡ Some note → note.cell ≡ n
      → get_elem? table.homes (slot_of n) ≡ some (some None)
  reach_found idle place note e named =
      let is = away_by place note e named in
      let shown = r.shows.cells n x (slice_get-get_or s.turns.cells n (fresh_cell 0) is.held.there) in
      let slot = shown.slot is.held.touched.place in
      slot.1
      ∙ ap some (subst (λ (z : Bool × Bool). IsSlot n x (r.beside.contents.part n) slot.0 z.0 z.1) (λ k. (slot_inside idle is.held.held k, is.away k)) slot.2)

  pub reaches : v.out ≡ None → (place : ℕ) (note : Note P O R) → slice_get v.notes place ≡ Some note → note.cell ≡ n
      → (after : Rule F declared (with_pass table (set table.words i found) (set table.homes (slot_of n) none) id (reaching_view n v)))
      × (after.state ≡ s)
  reaches idle place note e named =
      let is = away_by place note e named in
      cell_moved F declared table r id v at n found (set table.homes (slot_of n) none)
      (record r.beside.contents { out = written r.beside.contents.out n true }) x s.turns.callers v.taker v.notes (Some n)
      (slot_move F laws declared table r id v at n is.held.there is.held.touched is.held.held true (set table.homes (slot_of n) none) none (Some n) is.away refl refl
      (λ m e'. absurd (cc)) (λ m e'. (sym (some_one n m e'), refl)) (λ e'. refl))
      s (λ k. record s { turns = before F laws declared table r id v at n is.held.there is.held.touched k }) r.sound

  -- and comes back with the content
  pub puts : v.out ≡ Some n → (place : ℕ) (note : Note P O R) → slice_get v.notes place ≡ Some note → note.cell ≡ n → (content : code.Content P O R)
      → IsCell n note.history note.closed content.part content → IsPart F declared s n content.part
      → (after : Rule F declared (with_pass table (set table.words i found) (set table.homes (slot_of n) (some (Some content))) id (put_view n v)))
      × (after.state ≡ effect s (AtCells (Put c n)))
  puts out place note e named content whole part =
      let is = away_by place note e named in
      let history : x.history ≡ note.history = ap (λ k. (cell_at s.turns k).history) (sym named) ∙ is.noted.history in
      let closed : x.closed ≡ note.closed = ap (λ k. (cell_at s.turns k).closed) (sym named) ∙ is.noted.closed in
      cell_moved F declared table r id v at n found (set table.homes (slot_of n) (some (Some content)))
      (record { part = written r.beside.contents.part n content.part; out = written r.beside.contents.out n false }) (cell_put x) s.turns.callers v.taker
      (without n v.notes) None
      (put_move F laws declared table r id v at n is.held.there is.held.touched is.held.held out is.away content
      (subst (λ (z : List (Entry O R) × Bool). IsCell n z.0 z.1 content.part content) (λ k. (sym history k, sym closed k)) whole) part)
      (effect s (AtCells (Put c n))) refl (joined_keeps F laws declared s r.sound (AtCells (Put c n)) (put_possible is.held is.away))
