-- A draw keeps every fact.
use Rattle.std.proofs.Common.{◌≡◌, ℕ, ◌+◌, ◌-◌, ◌<◌, ◌≤◌, Bool, true, false, cond, List, [], ◌∷◌, ◌++◌, length, refl, sym, ap, ◌∙◌, subst, inl, inr, arith}
use Rattle.std.specs.Prelude.{Option, Some, None, slice_get, is_some}
use Rattle.std.proofs.lemmas.Bool.Decides.{nat_tests, eqb_tells}
use Rattle.std.proofs.lemmas.Option.{slice_get-get_or, none-some}
use Rattle.std.proofs.lemmas.Bool.{cases_lt}
use Rattle.std.proofs.lemmas.List.{length-set, get_or_past}
use Rattle.k42_places.specs.Places.{EachPlace}
use Rattle.k42_places.proofs.EachPlaces.{EachPlace-set_else}
use Rattle.k42_places.proofs.Appended.{at_push}
use Rattle.k42_places.proofs.Written.{get_or-set_related}
use Rattle.k42_kinds.specs.declared.entry.Entry.{Entry}
use Rattle.turn_core.specs.Plain.{Cell, Caller, Turns}
use Rattle.turn_core.specs.State.{cell_at, caller_at, clock_of, fresh_cell, fresh_caller, change_cell, change_cells}
use Rattle.turn_core.specs.Names.{names}
use Rattle.turn_core.specs.Events.{caller_drawn, cell_told, cell_opened, cell_begun, is_next}
use Rattle.turn_core.specs.Stamps.{stamp_of, last_stamp, last_stamp_at, next_stamp}
use Rattle.turn_core.specs.Sound.{drawn_by, holder_of, entries_drawn, histories_of, StandsIn, IsHistory, IsCell, IsOwn, IsCaller, IsSound}
use Rattle.turn_core.proofs.Rising.{rising-push, last_stamp-push}
use Rattle.turn_core.proofs.Growing.{with_drawn, held_by-drawn, entries-drawn, history-kept, history-push, history-one, each_last, each_front, each_push}

-- the last stamp of each named cell is known to the stamp drawn there
pub last_stamp-known : {O R : Type 0} (s : Turns O R) (cells : List ℕ) (n : ℕ) → names cells n ≡ true → last_stamp (cell_at s n).history ≤ last_stamp_at s cells
last_stamp-known s [] n named = cc
last_stamp-known s (m ∷ cells) n named = elim (eqb_tells m n) [
  | inl same ↦ rw (← same.1) (omega arith)
  | inr apart ↦
      let further : names cells n ≡ true = grind (arith, nat_tests, named, apart.0) in
      omega (arith, last_stamp-known s cells n further)
]

-- the entry is the caller's next
pub record IsNext {O R : Type 0} (s : Turns O R) (c : ℕ) (cells : List ℕ) (entry : Entry O R) : Type 0 where
  pub caller : entry.caller ≡ c
  pub index : entry.index ≡ length (drawn_by s.callers c)
  pub stamp : entry.stamp ≡ next_stamp s c cells

pub next_parts : {O R : Type 0} (s : Turns O R) (c : ℕ) (cells : List ℕ) (entry : Entry O R) → is_next s c cells entry ≡ true → IsNext s c cells entry
next_parts s c cells entry next = record { caller = grind (arith, nat_tests, next); index = grind (arith, nat_tests, next); stamp = grind (arith, nat_tests, next) }

pub bounded_entry : {O R : Type 0} (s : Turns O R) (entry : Entry O R) → IsSound s → StandsIn s.callers entry → entry.stamp ≤ entries_drawn s.callers
bounded_entry {O} {R} s entry sound stands = elim (cases_lt entry.caller (length s.callers)) [
  | inl there ↦ (sound.callers entry.caller (caller_at s entry.caller) (slice_get-get_or s.callers entry.caller fresh_caller there)).bounded entry.index entry stands
  | inr past ↦ absurd (none-some entry (subst (λ (x : Caller O R). slice_get x.mine entry.index ≡ Some entry) (get_or_past s.callers entry.caller fresh_caller past) stands))
]

-- where no stamp is above a number, the last is not
last-most : {O R : Type 0} (most : ℕ) (entries : List (Entry O R)) → EachPlace (λ i (entry : Entry O R). entry.stamp ≤ most) entries → last_stamp entries ≤ most
last-most {O} {R} most entries each = go (slice_get entries (length entries - 1)) refl where
  go : (found : Option (Entry O R)) → slice_get entries (length entries - 1) ≡ found → stamp_of found ≤ most
  go None e = omega arith
  go (Some entry) e = each (length entries - 1) entry e

-- no history has a last stamp above the number of entries
pub last_bounded : {O R : Type 0} (s : Turns O R) (history : List (Entry O R)) → IsSound s → IsHistory s.callers history → last_stamp history ≤ entries_drawn s.callers
last_bounded s history sound is = last-most (entries_drawn s.callers) history (λ i entry e. bounded_entry s entry sound (is.drawn i entry e))

pub history_of-cell : {O R : Type 0} (s : Turns O R) (n : ℕ) → IsSound s → IsHistory s.callers (cell_at s n).history
history_of-cell {O} {R} s n sound = elim (cases_lt n (length s.cells)) [
  | inl there ↦ each_last (IsHistory s.callers) (cell_at s n).past (cell_at s n).history (sound.cells n (cell_at s n) (slice_get-get_or s.cells n (fresh_cell 0) there)).histories
  | inr past ↦ subst (λ (x : Cell O R). IsHistory s.callers x.history) (sym (get_or_past s.cells n (fresh_cell 0) past)) (record { rising = λ i j earlier later before at_i at_j. cc; drawn = λ i x e. cc })
]

pub last_stamp_at-bounded : {O R : Type 0} (s : Turns O R) (cells : List ℕ) → IsSound s → last_stamp_at s cells ≤ entries_drawn s.callers
last_stamp_at-bounded s [] sound = omega arith
last_stamp_at-bounded s (n ∷ cells) sound = omega (arith, last_bounded s (cell_at s n).history sound (history_of-cell s n sound), last_stamp_at-bounded s cells sound)

-- what a draw does to the callers and to the locks of cells
pub record IsDraw {O R : Type 0} (s t : Turns O R) (c : ℕ) (cells : List ℕ) (entry : Entry O R) : Type 0 where
  pub there : c < length s.callers
  pub next : IsNext s c cells entry
  pub callers : t.callers ≡ with_drawn s c entry
  pub many : length t.cells ≡ length s.cells
  pub holders : (n : ℕ) → holder_of t.cells n ≡ holder_of s.cells n

-- the clock of a caller is at least the last stamp of its list
pub clock-above : {O R : Type 0} (s : Turns O R) (c : ℕ) → IsSound s → last_stamp (drawn_by s.callers c) ≤ clock_of s c
clock-above {O} {R} s c sound = elim (cases_lt c (length s.callers)) [
  | inl there ↦ (sound.callers c (caller_at s c) (slice_get-get_or s.callers c fresh_caller there)).clocked
  | inr past ↦ subst (λ (x : Caller O R). last_stamp x.mine ≤ x.clock) (sym (get_or_past s.callers c fresh_caller past)) (omega arith)
]

pub above_clock : {O R : Type 0} (s : Turns O R) (c : ℕ) (cells : List ℕ) (entry : Entry O R) → IsNext s c cells entry → clock_of s c < entry.stamp
above_clock s c cells entry next = omega (arith, next.stamp)

pub above_mine : {O R : Type 0} (s : Turns O R) (c : ℕ) (cells : List ℕ) (entry : Entry O R) → IsSound s → IsNext s c cells entry → last_stamp (drawn_by s.callers c) < entry.stamp
above_mine s c cells entry sound next = omega (arith, clock-above s c sound, above_clock s c cells entry next)

pub above_history : {O R : Type 0} (s : Turns O R) (c : ℕ) (cells : List ℕ) (entry : Entry O R) (n : ℕ) → IsNext s c cells entry → names cells n ≡ true → last_stamp (cell_at s n).history < entry.stamp
above_history s c cells entry n next named = omega (arith, next.stamp, last_stamp-known s cells n named)

pub drawer-kept : {O R : Type 0} (s : Turns O R) (c : ℕ) (cells : List ℕ) (entry : Entry O R) → IsSound s → c < length s.callers → IsNext s c cells entry → IsCaller s.cells (entries_drawn s.callers + 1) c (caller_drawn entry (caller_at s c))
drawer-kept s c cells entry sound there next =
    let old = sound.callers c (caller_at s c) (slice_get-get_or s.callers c fresh_caller there) in
    let bound : entry.stamp ≤ entries_drawn s.callers + 1 = omega (arith, next.stamp, old.clock, last_stamp_at-bounded s cells sound) in
    record {
      rising = rising-push (caller_at s c).mine entry old.rising (above_mine s c cells entry sound next);
      own = λ i other e. elim (at_push (caller_at s c).mine entry i other e) [
        | inl was ↦ old.own i other was.1
        | inr is ↦ subst (IsOwn c i) is.1 (record { caller = next.caller; index = next.index ∙ sym is.0 })
      ];
      bounded = λ i other e. elim (at_push (caller_at s c).mine entry i other e) [
        | inl was ↦ omega (arith, old.bounded i other was.1)
        | inr is ↦ rw (← is.1) bound
      ];
      clocked = omega (arith, last_stamp-push (caller_at s c).mine entry);
      clock = bound;
      holds = old.holds;
      there = old.there;
      once = old.once;
    }

-- the other callers have drawn nothing, and hold what they held
other-kept : {O R : Type 0} (s t : Turns O R) (c : ℕ) (cells : List ℕ) (entry : Entry O R) (d : ℕ) (x : Caller O R) → IsDraw s t c cells entry → IsCaller s.cells (entries_drawn s.callers) d x → IsCaller t.cells (entries_drawn s.callers + 1) d x
other-kept s t c cells entry d x draw old = record {
  rising = old.rising;
  own = old.own;
  bounded = λ i other e. omega (arith, old.bounded i other e);
  clocked = old.clocked;
  clock = omega (arith, old.clock);
  holds = λ n held. draw.holders n ∙ old.holds n held;
  there = λ n held. omega (arith, old.there n held, draw.many);
  once = old.once;
}

callers-kept : {O R : Type 0} (s t : Turns O R) (c : ℕ) (cells : List ℕ) (entry : Entry O R) → IsSound s → IsDraw s t c cells entry → EachPlace (IsCaller t.cells (entries_drawn t.callers)) t.callers
callers-kept s t c cells entry sound draw =
    rw (draw.callers, entries-drawn s c entry draw.there) (EachPlace-set_else (IsCaller s.cells (entries_drawn s.callers)) (IsCaller t.cells (entries_drawn s.callers + 1)) s.callers c (caller_drawn entry (caller_at s c)) sound.callers
    (here (drawer-kept s c cells entry sound draw.there draw.next))
    (λ d x apart e old. other-kept s t c cells entry d x draw old)) where
      here : IsCaller s.cells (entries_drawn s.callers + 1) c (caller_drawn entry (caller_at s c)) → IsCaller t.cells (entries_drawn s.callers + 1) c (caller_drawn entry (caller_at s c))
      here kept = record {
        rising = kept.rising;
        own = kept.own;
        bounded = kept.bounded;
        clocked = kept.clocked;
        clock = kept.clock;
        holds = λ n held. draw.holders n ∙ kept.holds n held;
        there = λ n held. omega (arith, kept.there n held, draw.many);
        once = kept.once;
      }

-- what becomes of a cell: its lock and its place stay, and its histories are such after the draw
pub record IsTold {O R : Type 0} (s : Turns O R) (c : ℕ) (entry : Entry O R) (x y : Cell O R) : Type 0 where
  pub lock : y.lock ≡ x.lock
  pub home : y.home ≡ x.home
  pub histories : EachPlace (λ life history. IsHistory (with_drawn s c entry) history) (histories_of y)

pub cell-kept : {O R : Type 0} (s : Turns O R) (c : ℕ) (entry : Entry O R) (n : ℕ) (x y : Cell O R) → c < length s.callers → IsCell s.callers n x → IsTold s c entry x y → IsCell (with_drawn s c entry) n y
cell-kept s c entry n x y there old told = record {
  histories = told.histories;
  holder = λ d e. omega (arith, old.holder d (sym told.lock ∙ e), length-set s.callers c (caller_drawn entry (caller_at s c)));
  held = λ d e. ap (λ held. names held n) (held_by-drawn s c d entry there) ∙ old.held d (sym told.lock ∙ e);
  away = λ away. ap is_some told.lock ∙ old.away (sym told.home ∙ away);
}

-- each of these cells was a cell before, and was told or left
abbrev pub AreTold : {O R : Type 0} → Turns O R → ℕ → Entry O R → List (Cell O R) → Type 0
AreTold {O} {R} s c entry cells = (n : ℕ) (y : Cell O R) → slice_get cells n ≡ Some y → (x : Cell O R) × (slice_get s.cells n ≡ Some x) × IsTold s c entry x y

pub draw_keeps : {O R : Type 0} (s t : Turns O R) (c : ℕ) (cells : List ℕ) (entry : Entry O R) → IsSound s → IsDraw s t c cells entry → AreTold s c entry t.cells → IsSound t
draw_keeps s t c cells entry sound draw each = record {
  cells = λ n y e. let was = each n y e in subst (λ callers. IsCell callers n y) (sym draw.callers) (cell-kept s c entry n was.0 y draw.there (sound.cells n was.0 was.1) was.2);
  callers = callers-kept s t c cells entry sound draw;
}

pub same_holder : {O R : Type 0} (changed : Cell O R → Cell O R) → ((x : Cell O R) → (changed x).lock ≡ x.lock) → (s : Turns O R) (cells : List ℕ) (n : ℕ) → holder_of (change_cells changed s cells).cells n ≡ holder_of s.cells n
same_holder changed keeps s [] n = refl
same_holder {O} {R} changed keeps s (m ∷ cells) n =
    same_holder changed keeps (change_cell changed s m) cells n ∙ sym (get_or-set_related (λ (x y : Cell O R). x.lock ≡ y.lock) (λ x. refl) s.cells m n (changed (cell_at s m)) (fresh_cell 0) (sym (keeps (cell_at s m))))

pub told_same : {O R : Type 0} (s : Turns O R) (c : ℕ) (entry : Entry O R) (x : Cell O R) → c < length s.callers → EachPlace (λ life history. IsHistory s.callers history) (histories_of x) → IsTold s c entry x x
told_same s c entry x there old = record { lock = refl; home = refl; histories = λ i history e. history-kept s c entry history there (old i history e) }

-- a cell that was told of the entry, behind its history
pub told_push : {O R : Type 0} (s : Turns O R) (c : ℕ) (entry : Entry O R) (x : Cell O R) → c < length s.callers → StandsIn (with_drawn s c entry) entry → last_stamp x.history < entry.stamp → EachPlace (λ life history. IsHistory s.callers history) (histories_of x) → IsTold s c entry x (cell_told entry x)
told_push s c entry x there stands above old = record {
  lock = refl;
  home = refl;
  histories = each_push (IsHistory (with_drawn s c entry)) x.past (x.history ++ entry ∷ []) (λ i history e. history-kept s c entry history there (each_front (IsHistory s.callers) x.past x.history old i history e)) (history-push s c entry x.history there stands above (each_last (IsHistory s.callers) x.past x.history old));
}

-- a cell whose next life begins with the entry
pub told_opened : {O R : Type 0} (s : Turns O R) (c : ℕ) (entry : Entry O R) (x : Cell O R) → c < length s.callers → StandsIn (with_drawn s c entry) entry → EachPlace (λ life history. IsHistory s.callers history) (histories_of x) → IsTold s c entry x (cell_told entry (cell_opened x))
told_opened s c entry x there stands old = record {
  lock = refl;
  home = refl;
  histories = each_push (IsHistory (with_drawn s c entry)) (histories_of x) (entry ∷ []) (λ i history e. history-kept s c entry history there (old i history e)) (history-one s c entry stands);
}

pub told_begun : {O R : Type 0} (s : Turns O R) (c : ℕ) (entry : Entry O R) (x : Cell O R) → c < length s.callers → StandsIn (with_drawn s c entry) entry → last_stamp x.history < entry.stamp → EachPlace (λ life history. IsHistory s.callers history) (histories_of x) → IsTold s c entry x (cell_begun entry x)
told_begun s c entry x there stands above old = go x.closed refl where
  go : (closed : Bool) → x.closed ≡ closed → IsTold s c entry x (cell_begun entry x)
  go true is = subst (IsTold s c entry x) (sym (ap (λ b. cond b (cell_told entry (cell_opened x)) (cell_told entry x)) is)) (told_opened s c entry x there stands old)
  go false is = subst (IsTold s c entry x) (sym (ap (λ b. cond b (cell_told entry (cell_opened x)) (cell_told entry x)) is)) (told_push s c entry x there stands above old)
