-- A hand keeps locks and lives.
use Rattle.std.proofs.Common.{◌≡◌, ℕ, ◌+◌, ◌%◌, ◌<◌, ◌≤◌, ◌≢◌, ◌⊎◌, ◌∙◌, Bool, true, false, not, ◌&&◌, ◌||◌, cond, eqb, ltb, List, [], ◌∷◌, ◌++◌, Option, Some, None, length, length-set, sym, refl, ap, subst, inl, inr, ⊎_elim, arith, eq-eqb}
use Rattle.std.proofs.lemmas.List.{get_or-set_same, get_or-set_other}
use Rattle.std.proofs.lemmas.Option.{same_Some}
use Rattle.std.proofs.lemmas.Bool.{and_parts, not-true, cases_eq, lt-ltb}
use Rattle.std.proofs.lemmas.Bool.Decides.{nat_tests}
use Rattle.std.specs.List.{list_all}
use Rattle.k42_kinds.specs.declared.entry.Entry.{Entry}
use Rattle.phase_core.specs.Plain.{Visitor}
use Rattle.phase_core.specs.State.{visitor_at}
use Rattle.phase_core.specs.declared.caller.SwapAt.TheVariants.{Moved}
use Rattle.turn_core.specs.declared.event.TurnEvent.TheVariants.{Hand}
use Rattle.turn_core.specs.Plain.{Cell, Turns}
use Rattle.turn_core.specs.State.{cell_at, fresh_cell, change_cell, change_caller, change_cells}
use Rattle.turn_core.specs.Names.{names, names_once}
use Rattle.turn_core.specs.Events as turns
use Rattle.turn_core.specs.Events.{cell_told, cell_opened, cell_begun, cell_closed, caller_drawn, has_open, has_taken, has_beginning, holds, is_caller}
use Rattle.turn_core.proofs.Changed.{length-change_cells, callers-change_cells}
use Rattle.turn_core.proofs.Named.{once_right}
use Rattle.k42_places.proofs.Written.{get_or-set_related}
use Rattle.k42_stamp.specs.Layouts.{Layouts}
use Rattle.k42_joined.specs.Plain.{Joined}
use Rattle.k42_joined.specs.Event.{HandWith}
use Rattle.k42_joined.specs.Effects.{effect}
use Rattle.k42_joined.specs.Locks.{AreLawfullyHeld, CountsRows, AreOfLives, AreLocked}
use Rattle.k42_joined.specs.Numbers.{cell_of, object_of, row_cells}
use Rattle.k42_joined.specs.Possible.{MayHandOn}
use Rattle.k42_joined.specs.State.{many_procs, many_objects, object, incarnation, cell, cell_in, many_hands, layouts_of, is_handed}
use Rattle.k42_joined.specs.Touching.{is_inside, is_moving, is_freeing, has_way, may_touch}
use Rattle.k42_joined.proofs.CellNumbers.{named_in_row, row_names, same_cell, object_of-cell, cell_there}
use Rattle.k42_joined.proofs.CellChanges.{cell_at-else, cell_at-named}
use Rattle.k42_joined.proofs.LocksLives.{lives_handed}
use Rattle.k42_joined.proofs.LocksCells.{kept_locks}

or_left : (a b : Bool) → a ≡ true → a || b ≡ true
or_left a b e = rw e refl

or_right : (a b : Bool) → b ≡ true → a || b ≡ true
or_right true b e = refl
or_right false b e = e

-- who moves an object may touch each row of it
mover_way : (x : Visitor) (o i : ℕ) → x.swap ≡ Moved o → has_way x o i ≡ true
mover_way x o i e =
    or_right (is_inside x.place o i) (is_moving x.swap o || is_freeing x.freeing o i)
    (or_left (is_moving x.swap o) (is_freeing x.freeing o i) (rw e (eq-eqb o o refl)))

pub from_is_caller : (lock : Option ℕ) (c : ℕ) → is_caller lock c ≡ true → lock ≡ Some c
from_is_caller None c e = absurd (cc)
from_is_caller (Some d) c e = let same : d ≡ c = grind (arith, nat_tests, e) in ap Some same

-- what is asked of each named cell holds of one
pub each_named : (test : ℕ → Bool) (cells : List ℕ) (n : ℕ) → list_all test cells ≡ true → names cells n ≡ true → test n ≡ true
each_named test [] n all named = absurd (cc)
each_named test (m ∷ cells) n all named = by_test (eqb m n) refl named (λ all' named'. each_named test cells n all' named') where
  parts : (test m ≡ true) × (list_all test cells ≡ true)
  parts = and_parts (test m) (list_all test cells) all

  by_test : (b : Bool) → eqb m n ≡ b → b || names cells n ≡ true → (list_all test cells ≡ true → names cells n ≡ true → test n ≡ true) → test n ≡ true
  by_test true e further rest = let same : m ≡ n = grind (arith, nat_tests, e) in subst (λ k. test k ≡ true) same parts.0
  by_test false e further rest = rest parts.1 further

begun_lock : {O R : Type 0} (entry : Entry O R) (x : Cell O R) → (cell_begun entry x).lock ≡ x.lock
begun_lock entry x = go x.closed where
  go : (closed : Bool) → (cond closed (cell_told entry (cell_opened x)) (cell_told entry x)).lock ≡ x.lock
  go true = refl
  go false = refl

-- what the core asks of a hand
pub record IsCoreHand {O R : Type 0} (s : Turns O R) (c : ℕ) (from onto : List ℕ) (entry : Entry O R) : Type 0 where
  pub once_from : names_once from ≡ true
  pub once_onto : names_once onto ≡ true
  pub open_from : list_all (has_open s c) from ≡ true
  pub begin_onto : list_all (has_beginning s c) onto ≡ true
  pub next : turns.is_next s c (from ++ onto) entry ≡ true

pub names_more : (cells others : List ℕ) (n : ℕ) → names cells n ≡ true → names (cells ++ others) n ≡ true
names_more [] others n named = absurd (cc)
names_more (m ∷ cells) others n named = by_test (eqb m n) named (λ h. names_more cells others n h) where
  by_test : (b : Bool) → b || names cells n ≡ true → (names cells n ≡ true → names (cells ++ others) n ≡ true) → b || names (cells ++ others) n ≡ true
  by_test true h rest = refl
  by_test false h rest = rest h

unnamed_front : (cells others : List ℕ) (n : ℕ) (b : Bool) → names cells n ≡ b → names (cells ++ others) n ≡ false → b ≡ false
unnamed_front cells others n true named none = let h = names_more cells others n named in absurd (cc)
unnamed_front cells others n false named none = refl

once_left : (cells others : List ℕ) → names_once (cells ++ others) ≡ true → names_once cells ≡ true
once_left [] others once = refl
once_left (n ∷ cells) others once =
    let parts = and_parts (not (names (cells ++ others) n)) (names_once (cells ++ others)) once in
    let unnamed : names cells n ≡ false = unnamed_front cells others n (names cells n) refl (not-true (names (cells ++ others) n) parts.0) in
    rw (unnamed, once_left cells others parts.1) refl

pub core_hand : {O R : Type 0} (s : Turns O R) (c : ℕ) (from onto : List ℕ) (entry : Entry O R) → turns.is_possible s (Hand c from onto entry) ≡ true
    → IsCoreHand s c from onto entry
core_hand s c from onto entry can =
    let third = and_parts (names_once (from ++ onto) && list_all (has_open s c) from && list_all (has_beginning s c) onto) (turns.is_next s c (from ++ onto) entry) can in
    let second = and_parts (names_once (from ++ onto) && list_all (has_open s c) from) (list_all (has_beginning s c) onto) third.0 in
    let first = and_parts (names_once (from ++ onto)) (list_all (has_open s c) from) second.0 in
    record {
      once_from = once_left from onto first.0;
      once_onto = once_right from onto first.0;
      open_from = first.1;
      begin_onto = second.1;
      next = third.1;
    }

-- a row's cells are none of another row of the other parity, nor of another object
pub apart_row : (procs o j q k p : ℕ) → procs ≤ 8 → p < procs → (o ≢ q) ⊎ (j % 2 ≢ k % 2)
    → names (row_cells procs o j) (cell_of q k p) ≡ false
apart_row procs o j q k p few within apart = by_test (names (row_cells procs o j) (cell_of q k p)) refl where
  by_test : (b : Bool) → names (row_cells procs o j) (cell_of q k p) ≡ b → b ≡ false
  by_test true named =
      let is = named_in_row procs o j (cell_of q k p) named in
      let high = is.high in
      let one = same_cell q k p o j is.place (omega (arith, within, few)) (omega (arith, high, few)) is.same in
      absurd (⊎_elim (λ other. other (sym one.object)) (λ other. other (sym one.parity)) apart)
  by_test false named = refl

module _ {S L P O R : Type 0} (F : Layouts S L P O R) (declared : List L) (s : Joined L O R) (locked : AreLocked s)
    (c : ℕ) (from onto : List ℕ) (layout : L) (entry : Entry O R) (may : MayHandOn F declared s c from onto layout entry)
    (named : entry.object < many_objects s) where
  abbrev t : Joined L O R
  t = effect s (HandWith c from onto layout entry)

  abbrev o : ℕ
  o = entry.object

  abbrev i : ℕ
  i = incarnation s entry.object

  abbrev procs : ℕ
  procs = many_procs s

  core : IsCoreHand s.turns c from onto entry
  core = core_hand s.turns c from onto entry may.core

  few : procs ≤ 8
  few = locked.many.few_procs

  -- the row was not handed on yet
  pub hands_now : many_hands s o ≡ i
  hands_now =
      ⊎_elim (λ same. same)
      (λ more. let is = lt-ltb i (many_hands s o) (omega (arith, more)) in let not = may.beside.once in absurd (cc))
      (locked.counted o named).ahead

  abbrev drawing : Turns O R
  drawing = change_caller (caller_drawn entry) s.turns c

  abbrev begun : Turns O R
  begun = change_cells (cell_begun entry) drawing onto

  many_begun : length begun.cells ≡ length s.turns.cells
  many_begun = length-change_cells (cell_begun entry) drawing onto

  pub many_cells : length t.turns.cells ≡ length s.turns.cells
  many_cells = length-change_cells cell_closed begun from ∙ many_begun

  there_in : (j p : ℕ) → p < procs → cell_of o j p < length s.turns.cells
  there_in j p within =
      let long = locked.many.cells in
      let lt = cell_there (many_objects s) o j p named (omega (arith, within, few)) in
      omega (arith, lt, long)

  pub at_present : (p : ℕ) → p < procs → cell_at t.turns (cell_of o i p) ≡ cell_closed (cell_in s o i p)
  at_present p within =
      let n = cell_of o i p in
      let is : names from n ≡ true = rw may.beside.closes (row_names procs o i p within) in
      let not : names onto n ≡ false = rw may.beside.begins (apart_row procs o (i + 1) o i p few within (inr (λ e. omega (arith, e)))) in
      cell_at-named cell_closed begun from n core.once_from (rw many_begun (there_in i p within)) is
      ∙ ap cell_closed (cell_at-else (cell_begun entry) drawing onto n not)

  pub at_next : (p : ℕ) → p < procs → cell_at t.turns (cell_of o (i + 1) p) ≡ cell_begun entry (cell_in s o (i + 1) p)
  at_next p within =
      let n = cell_of o (i + 1) p in
      let is : names onto n ≡ true = rw may.beside.begins (row_names procs o (i + 1) p within) in
      let not : names from n ≡ false = rw may.beside.closes (apart_row procs o i o (i + 1) p few within (inr (λ e. omega (arith, e)))) in
      cell_at-else cell_closed begun from n not
      ∙ cell_at-named (cell_begun entry) drawing onto n core.once_onto (there_in (i + 1) p within) is

  pub at_unnamed : (n : ℕ) → names from n ≡ false → names onto n ≡ false → cell_at t.turns n ≡ cell s n
  at_unnamed n not not' = cell_at-else cell_closed begun from n not ∙ cell_at-else (cell_begun entry) drawing onto n not'

  pub at_other : (q k p : ℕ) → p < procs → q ≢ o → cell_at t.turns (cell_of q k p) ≡ cell_in s q k p
  at_other q k p within other =
      at_unnamed (cell_of q k p) (rw may.beside.closes (apart_row procs o i q k p few within (inl (λ e. other (sym e)))))
      (rw may.beside.begins (apart_row procs o (i + 1) q k p few within (inl (λ e. other (sym e)))))

  pub hands_here : layouts_of t o ≡ layout ∷ layouts_of s o
  hands_here = get_or-set_same s.hands o (layout ∷ layouts_of s o) [] (rw locked.many.hands named)

  pub hands_else : (q : ℕ) → q ≢ o → layouts_of t q ≡ layouts_of s q
  hands_else q other = get_or-set_other s.hands o q (layout ∷ layouts_of s o) [] other

  pub hands_after : many_hands t o ≡ i + 1
  hands_after = let long = ap length hands_here in let now = hands_now in omega (arith, long, now)

  same_lock : (n : ℕ) → (cell_at t.turns n).lock ≡ (cell s n).lock
  same_lock n =
      kept_locks cell_closed (λ x. refl) begun from n ∙ kept_locks (cell_begun entry) (begun_lock entry) drawing onto n

  -- a cell that is not begun has the life that it had
  same_life_else : (n : ℕ) → names onto n ≡ false → (cell_at t.turns n).life ≡ (cell s n).life
  same_life_else n not = closed_life begun from n ∙ ap (λ x. x.life) (cell_at-else (cell_begun entry) drawing onto n not) where
    closed_life : (u : Turns O R) (cells : List ℕ) (n : ℕ) → (cell_at (change_cells cell_closed u cells) n).life ≡ (cell_at u n).life
    closed_life u [] n = refl
    closed_life u (m ∷ cells) n =
        closed_life (change_cell cell_closed u m) cells n
        ∙ get_or-set_related (λ (x y : Cell O R). y.life ≡ x.life) (λ x. refl) u.cells m n (cell_closed (cell_at u m)) (fresh_cell 0) refl

  held_by : (n d : ℕ) → (cell s n).lock ≡ Some d → (b : Bool) → names onto n ≡ b
      → may_touch s.phases d (object_of n) (cell_at t.turns n).life ≡ true
  held_by n d lock true is =
      let begins = each_named (has_beginning s.turns c) onto n core.begin_onto is in
      let taken = (and_parts (has_taken s.turns c n) _ begins).0 in
      let holder = from_is_caller (cell s n).lock c (and_parts (holds s.turns c n) _ taken).0 in
      let own : c ≡ d = same_Some c d (sym holder ∙ lock) in
      let among = named_in_row procs o (i + 1) n (rw may.beside.begins at is) in
      let high = among.high in
      let at : object_of n ≡ o = ap object_of among.same ∙ object_of-cell o (i + 1) among.place (omega (arith, high, few)) in
      or_left (has_way (visitor_at s.phases d) (object_of n) (cell_at t.turns n).life) _
      (subst (λ e. has_way (visitor_at s.phases e) (object_of n) (cell_at t.turns n).life ≡ true) own
      (mover_way (visitor_at s.phases c) (object_of n) (cell_at t.turns n).life (may.beside.moved ∙ ap (λ q. Moved q) (sym at))))
  held_by n d lock false not =
      subst (λ life. may_touch s.phases d (object_of n) life ≡ true) (sym (same_life_else n not)) (locked.held n d lock).allowed

  still_held : AreLawfullyHeld t
  still_held n d lock =
      let old = sym (same_lock n) ∙ lock in
      record {
        object = (locked.held n d old).object;
        place = (locked.held n d old).place;
        allowed = held_by n d old (names onto n) refl;
      }

  here_lives : (p : ℕ) → p < procs → AreOfLives i (ltb i (many_hands t o)) (cell_at t.turns (cell_of o i p)) (cell_at t.turns (cell_of o (i + 1) p))
  here_lives p within =
      let before : is_handed s o ≡ false = may.beside.once in
      let now : ltb i (many_hands t o) ≡ true = rw hands_after (grind (arith, nat_tests)) in
      let old : AreOfLives i false (cell_in s o i p) (cell_in s o (i + 1) p) =
      subst (λ b. AreOfLives i b (cell_in s o i p) (cell_in s o (i + 1) p)) before (locked.lives o p named within) in
      subst (λ b. AreOfLives i b (cell_at t.turns (cell_of o i p)) (cell_at t.turns (cell_of o (i + 1) p))) (sym now)
      (subst (λ x. AreOfLives i true x (cell_at t.turns (cell_of o (i + 1) p))) (sym (at_present p within))
      (subst (λ y. AreOfLives i true (cell_closed (cell_in s o i p)) y) (sym (at_next p within))
      (lives_handed i (cell_in s o i p) (cell_in s o (i + 1) p) entry may.beside.answer old)))

  else_lives : (q p : ℕ) → q ≢ o → q < many_objects s → p < procs
      → AreOfLives (incarnation s q) (is_handed t q) (cell_at t.turns (cell_of q (incarnation s q) p)) (cell_at t.turns (cell_of q (incarnation s q + 1) p))
  else_lives q p other there within =
      let j = incarnation s q in
      subst (λ ls. AreOfLives j (ltb j (length ls)) (cell_at t.turns (cell_of q j p)) (cell_at t.turns (cell_of q (j + 1) p))) (sym (hands_else q other))
      (subst (λ x. AreOfLives j (is_handed s q) x (cell_at t.turns (cell_of q (j + 1) p))) (sym (at_other q j p within other))
      (subst (λ y. AreOfLives j (is_handed s q) (cell_in s q j p) y) (sym (at_other q (j + 1) p within other)) (locked.lives q p there within)))

  pub hand_keeps : AreLocked t
  hand_keeps = record {
    many = record {
      callers = ap length (callers-change_cells cell_closed begun from ∙ callers-change_cells (cell_begun entry) drawing onto)
          ∙ length-set s.turns.callers c _ ∙ locked.many.callers;
      kept = length-set s.kept c _ ∙ locked.many.kept;
      hands = length-set s.hands o (layout ∷ layouts_of s o) ∙ locked.many.hands;
      cells = many_cells ∙ locked.many.cells;
      few_procs = few;
    };
    held = still_held;
    counted = λ q there. ⊎_elim
        (λ (same : q ≡ o). subst (λ r. CountsRows (incarnation t r) (many_hands t r) (object t r).freed) (sym same)
        (record { ahead = inr hands_after; kept = (locked.counted o named).kept }))
        (λ other. subst (λ ls. CountsRows (incarnation s q) (length ls) (object s q).freed) (sym (hands_else q other)) (locked.counted q there))
        (cases_eq q o);
    lives = λ q p there within. ⊎_elim
        (λ (same : q ≡ o). subst (λ r. AreOfLives (incarnation t r) (is_handed t r) (cell_in t r (incarnation t r) p) (cell_in t r (incarnation t r + 1) p)) (sym same)
        (here_lives p within))
        (λ other. else_lives q p other there within) (cases_eq q o);
  }
