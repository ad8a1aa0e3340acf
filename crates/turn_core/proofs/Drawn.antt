-- Each event that draws an entry keeps every fact.
use Rattle.std.proofs.Common.{◌≡◌, ℕ, ◌<◌, Bool, true, false, not, cond, List, [], ◌∷◌, ◌++◌, length, refl, sym, ◌∙◌, subst, arith}
use Rattle.std.specs.Prelude.{Some, slice_get}
use Rattle.std.proofs.lemmas.Bool.Decides.{nat_tests}
use Rattle.std.proofs.lemmas.Bool.{and_parts, not-true}
use Rattle.std.proofs.lemmas.Option.{get_or_from_slice_get}
use Rattle.k42_kinds.specs.declared.entry.Entry.{Entry}
use Rattle.turn_core.specs.Plain.{Cell, Turns}
use Rattle.turn_core.specs.State.{fresh_cell, change_caller, change_cells}
use Rattle.turn_core.specs.Names.{names, names_once}
use Rattle.turn_core.specs.Stamps.{last_stamp}
use Rattle.turn_core.specs.Events.{caller_drawn, cell_told, cell_opened, cell_begun, cell_closed, is_next, can_draw, can_hand, drawn, handed}
use Rattle.turn_core.specs.Sound.{IsSound}
use Rattle.turn_core.proofs.Named.{once_right}
use Rattle.turn_core.proofs.Changed.{at_changed, length-change_cells, callers-change_cells}
use Rattle.turn_core.proofs.Growing.{new_stands}
use Rattle.turn_core.proofs.Drawing.{IsNext, next_parts, above_history, IsTold, AreTold, draw_keeps, same_holder, told_same, told_push, told_begun}

-- the state after the caller drew the entry and no cell was told yet
abbrev with_mine : {O R : Type 0} → Turns O R → ℕ → Entry O R → Turns O R
with_mine s c entry = change_caller (caller_drawn entry) s c

pub keeps_alone : {O R : Type 0} (s : Turns O R) (c : ℕ) (entry : Entry O R) → IsSound s → c < length s.callers → is_next s c [] entry ≡ true → IsSound (with_mine s c entry)
keeps_alone s c entry sound there next = draw_keeps s (with_mine s c entry) c [] entry sound
    (record { there = there; next = next_parts s c [] entry next; callers = refl; many = refl; holders = λ n. refl })
    (λ n y e. (y, e, told_same s c entry y there (sound.cells n y e).histories))

-- the stamp is above the last of each cell that is named
above : {O R : Type 0} (s : Turns O R) (c : ℕ) (cells : List ℕ) (entry : Entry O R) (n : ℕ) (x : Cell O R) → IsNext s c cells entry → names cells n ≡ true → slice_get s.cells n ≡ Some x → last_stamp x.history < entry.stamp
above {O} {R} s c cells entry n x next named e = subst (λ (cell : Cell O R). last_stamp cell.history < entry.stamp) (get_or_from_slice_get s.cells n x (fresh_cell 0) e) (above_history s c cells entry n next named)

-- a cell after a step by which those that are named were told
told_if : {O R : Type 0} (s : Turns O R) (c : ℕ) (entry : Entry O R) (x : Cell O R) (made : Cell O R → Cell O R) (named : Bool) → IsTold s c entry x x → (named ≡ true → IsTold s c entry x (made x)) → IsTold s c entry x (cond named (made x) x)
told_if s c entry x made true kept told = told refl
told_if s c entry x made false kept told = kept

pub keeps_draw : {O R : Type 0} (s : Turns O R) (c : ℕ) (cells : List ℕ) (entry : Entry O R) → IsSound s → c < length s.callers → can_draw s c cells entry ≡ true → IsSound (drawn s c cells entry)
keeps_draw s c cells entry sound there can =
    let once : names_once cells ≡ true = grind (arith, can) in
    let next_is : is_next s c cells entry ≡ true = grind (arith, can) in
    let next = next_parts s c cells entry next_is in
    let stands = new_stands s c entry there next.caller next.index in
    let each : AreTold s c entry (drawn s c cells entry).cells = λ n y e.
    let was = at_changed (cell_told entry) (with_mine s c entry) cells n y once e in
    let old = (sound.cells n was.before was.there).histories in (
      was.before,
      was.there,
      subst (IsTold s c entry was.before) (sym was.becomes) (told_if s c entry was.before (cell_told entry) (names cells n) (told_same s c entry was.before there old)
          (λ named. told_push s c entry was.before there stands (above s c cells entry n was.before next named was.there) old)),
    ) in
    draw_keeps s (drawn s c cells entry) c cells entry sound
    (record {
      there = there;
      next = next;
      callers = callers-change_cells (cell_told entry) (with_mine s c entry) cells;
      many = length-change_cells (cell_told entry) (with_mine s c entry) cells;
      holders = λ n. same_holder (cell_told entry) (λ x. refl) (with_mine s c entry) cells n;
    })
    each

names_behind : (from onto : List ℕ) (n : ℕ) → names onto n ≡ true → names (from ++ onto) n ≡ true
names_behind [] onto n named = named
names_behind (m ∷ from) onto n named = rw (names_behind from onto n named) (grind arith)

names_front : (cells others : List ℕ) (n : ℕ) → names (cells ++ others) n ≡ false → names cells n ≡ false
names_front [] others n unnamed = refl
names_front (m ∷ cells) others n unnamed =
    let further : names (cells ++ others) n ≡ false = grind (arith, nat_tests, unnamed) in
    let rest : names cells n ≡ false = names_front cells others n further in
    grind (arith, nat_tests, unnamed, rest)

once_left : (cells others : List ℕ) → names_once (cells ++ others) ≡ true → names_once cells ≡ true
once_left [] others once = refl
once_left (n ∷ cells) others once =
    let parts = and_parts (not (names (cells ++ others) n)) (names_once (cells ++ others)) once in
    let unnamed : names cells n ≡ false = names_front cells others n (not-true (names (cells ++ others) n) parts.0) in
    rw (unnamed, once_left cells others parts.1) refl

pub keeps_hand : {O R : Type 0} (s : Turns O R) (c : ℕ) (from onto : List ℕ) (entry : Entry O R) → IsSound s → c < length s.callers → can_hand s c from onto entry ≡ true → IsSound (handed s c from onto entry)
keeps_hand {O} {R} s c from onto entry sound there can =
    let once : names_once (from ++ onto) ≡ true = grind (arith, can) in
    let next_is : is_next s c (from ++ onto) entry ≡ true = grind (arith, can) in
    let next = next_parts s c (from ++ onto) entry next_is in
    let stands = new_stands s c entry there next.caller next.index in
    let begun = change_cells (cell_begun entry) (with_mine s c entry) onto in
    let each : AreTold s c entry (handed s c from onto entry).cells = λ n y e.
    let closed = at_changed cell_closed begun from n y (once_left from onto once) e in
    let was = at_changed (cell_begun entry) (with_mine s c entry) onto n closed.before (once_right from onto once) closed.there in
    let old = (sound.cells n was.before was.there).histories in
    let told : IsTold s c entry was.before closed.before = subst (IsTold s c entry was.before) (sym was.becomes) (told_if s c entry was.before (cell_begun entry) (names onto n) (told_same s c entry was.before there old)
    (λ named. told_begun s c entry was.before there stands (above s c (from ++ onto) entry n was.before next (names_behind from onto n named) was.there) old)) in
    (was.before, was.there, subst (IsTold s c entry was.before) (sym closed.becomes) (closed_if s c entry was.before closed.before (names from n) told)) in
    draw_keeps s (handed s c from onto entry) c (from ++ onto) entry sound
    (record {
      there = there;
      next = next;
      callers = callers-change_cells cell_closed begun from ∙ callers-change_cells (cell_begun entry) (with_mine s c entry) onto;
      many = length-change_cells cell_closed begun from ∙ length-change_cells (cell_begun entry) (with_mine s c entry) onto;
      holders = λ n. same_holder cell_closed (λ x. refl) begun from n ∙ same_holder (cell_begun entry) begun_lock (with_mine s c entry) onto n;
    })
    each where
      begun_lock : (x : Cell O R) → (cell_begun entry x).lock ≡ x.lock
      begun_lock x = go x.closed where
        go : (closed : Bool) → (cond closed (cell_told entry (cell_opened x)) (cell_told entry x)).lock ≡ x.lock
        go true = refl
        go false = refl

      closed_if : (s : Turns O R) (c : ℕ) (entry : Entry O R) (x y : Cell O R) (named : Bool) → IsTold s c entry x y → IsTold s c entry x (cond named (cell_closed y) y)
      closed_if s c entry x y true told = record { lock = told.lock; home = told.home; histories = told.histories }
      closed_if s c entry x y false told = told
