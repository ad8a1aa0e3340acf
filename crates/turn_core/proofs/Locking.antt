-- Each event that locks, takes, puts or unlocks a cell keeps every fact.
use Rattle.std.proofs.Common.{◌≡◌, ◌≢◌, ℕ, ◌<◌, Bool, true, false, not, cond, eqb, ◌==◌, ◌||◌, List, [], ◌∷◌, ◌++◌, length, refl, sym, ap, ◌∙◌, subst, inl, inr, arith}
use Rattle.std.specs.Prelude.{Some, None, slice_get, is_some}
use Rattle.std.specs.List.{filter}
use Rattle.std.proofs.lemmas.Bool.Decides.{nat_tests, eqb_tells}
use Rattle.std.proofs.lemmas.Bool.{and_parts, not-true}
use Rattle.std.proofs.lemmas.Option.{slice_get-get_or, same_Some, none-some}
use Rattle.std.proofs.lemmas.List.{length-set, get_or-set_same, get_or-set_other}
use Rattle.std.proofs.lemmas.List.Sums.{sum_by-set}
use Rattle.std.proofs.lemmas.List.Folds.{list_any-append}
use Rattle.k42_places.proofs.EachPlaces.{EachPlace-set_else}
use Rattle.k42_places.proofs.Written.{get_or-set_related}
use Rattle.k42_kinds.specs.declared.entry.Entry.{Entry}
use Rattle.turn_core.specs.Plain.{Cell, Caller, Turns}
use Rattle.turn_core.specs.State.{cell_at, caller_at, fresh_cell, fresh_caller, change_cell, change_caller}
use Rattle.turn_core.specs.Names.{names, names_once}
use Rattle.turn_core.specs.Events.{cell_locked, cell_unlocked, caller_locked, caller_unlocked}
use Rattle.turn_core.specs.Sound.{drawn_by, held_by, holder_of, entries_drawn, histories_of, IsHistory, IsCell, IsCaller, IsSound}
use Rattle.turn_core.proofs.Drawing.{same_holder}

-- one cell changes, but for its lock and its histories
pub keeps_moved : {O R : Type 0} (changed : Cell O R → Cell O R) → ((x : Cell O R) → (changed x).lock ≡ x.lock) → ((x : Cell O R) → histories_of (changed x) ≡ histories_of x) → (s : Turns O R) (n : ℕ) → n < length s.cells → IsSound s → ((changed (cell_at s n)).home ≡ false → is_some (cell_at s n).lock ≡ true) → IsSound (change_cell changed s n)
keeps_moved changed locks histories s n there sound away =
    let old = sound.cells n (cell_at s n) (slice_get-get_or s.cells n (fresh_cell 0) there) in
    record {
      cells = EachPlace-set_else (IsCell s.callers) (IsCell s.callers) s.cells n (changed (cell_at s n)) sound.cells
          (record {
            histories = λ i history e. old.histories i history (subst (λ lists. slice_get lists i ≡ Some history) (histories (cell_at s n)) e);
            holder = λ c e. old.holder c (sym (locks (cell_at s n)) ∙ e);
            held = λ c e. old.held c (sym (locks (cell_at s n)) ∙ e);
            away = λ e. ap is_some (locks (cell_at s n)) ∙ away e;
          })
          (λ m x apart e kept. kept);
      callers = λ c x e. let kept = sound.callers c x e in record {
        rising = kept.rising;
        own = kept.own;
        bounded = kept.bounded;
        clocked = kept.clocked;
        clock = kept.clock;
        holds = λ m held. same_holder changed locks s (n ∷ []) m ∙ kept.holds m held;
        there = λ m held. omega (arith, kept.there m held, length-set s.cells n (changed (cell_at s n)));
        once = kept.once;
      };
    }

-- a caller changes in what it holds alone
pub record SameDrawn {O R : Type 0} (callers after : List (Caller O R)) : Type 0 where
  pub drawn : (c : ℕ) → drawn_by after c ≡ drawn_by callers c
  pub many : length after ≡ length callers
  pub entries : entries_drawn after ≡ entries_drawn callers

pub history-same : {O R : Type 0} (callers after : List (Caller O R)) (history : List (Entry O R)) → SameDrawn callers after → IsHistory callers history → IsHistory after history
history-same callers after history same is = record { rising = is.rising; drawn = λ i entry e. ap (λ list. slice_get list entry.index) (same.drawn entry.caller) ∙ is.drawn i entry e }

pub same_drawn : {O R : Type 0} (s : Turns O R) (c : ℕ) (changed : Caller O R → Caller O R) → c < length s.callers → ((x : Caller O R) → (changed x).mine ≡ x.mine) → SameDrawn s.callers (change_caller changed s c).callers
same_drawn {O} {R} s c changed there mine = record {
  drawn = λ d. sym (get_or-set_related (λ (x y : Caller O R). x.mine ≡ y.mine) (λ x. refl) s.callers c d (changed (caller_at s c)) fresh_caller (sym (mine (caller_at s c))));
  many = length-set s.callers c (changed (caller_at s c));
  entries = omega (arith, sum_by-set (λ x. length x.mine) s.callers c (changed (caller_at s c)) fresh_caller there, ap length (mine (caller_at s c)));
}

-- what a list names with one cell more, or without one

names-push : (cells : List ℕ) (n m : ℕ) → names (cells ++ n ∷ []) m ≡ (names cells m || names (n ∷ []) m)
names-push cells n m = list_any-append (λ k. k == m) cells (n ∷ [])

pub names-push_here : (cells : List ℕ) (n : ℕ) → names (cells ++ n ∷ []) n ≡ true
names-push_here cells n = names-push cells n n ∙ go (names cells n) where
  go : (b : Bool) → (b || names (n ∷ []) n) ≡ true
  go b = grind (arith, nat_tests)

pub names-push_old : (cells : List ℕ) (n m : ℕ) → names cells m ≡ true → names (cells ++ n ∷ []) m ≡ true
names-push_old cells n m named = names-push cells n m ∙ ap (λ b. b || names (n ∷ []) m) named

pub names-push_other : (cells : List ℕ) (n m : ℕ) → m ≢ n → names (cells ++ n ∷ []) m ≡ true → names cells m ≡ true
names-push_other cells n m apart named = go (names cells m) (sym (names-push cells n m) ∙ named) where
  go : (b : Bool) → (b || names (n ∷ []) m) ≡ true → b ≡ true
  go b e = let not_here : eqb n m ≡ false = grind (arith, nat_tests, apart) in grind (arith, nat_tests, e, not_here)

pub once-push : (cells : List ℕ) (n : ℕ) → names_once cells ≡ true → names cells n ≡ false → names_once (cells ++ n ∷ []) ≡ true
once-push [] n once unnamed = refl
once-push (m ∷ cells) n once unnamed =
    let parts = and_parts (not (names cells m)) (names_once cells) once in
    let further : names cells n ≡ false = grind (arith, nat_tests, unnamed) in
    let apart : eqb n m ≡ false = grind (arith, nat_tests, unnamed) in
    let new : names (cells ++ n ∷ []) m ≡ false = names-push cells n m ∙ ap (λ b. b || names (n ∷ []) m) (not-true (names cells m) parts.0) ∙ rw apart refl in
    rw (new, once-push cells n parts.1 further) refl

abbrev without : ℕ → List ℕ → List ℕ
without n cells = filter (λ m. not (m == n)) cells

without-same : (n : ℕ) (cells : List ℕ) → without n (n ∷ cells) ≡ without n cells
without-same n cells = go (eqb n n) (grind (arith, nat_tests)) where
  go : (b : Bool) → b ≡ true → cond (not b) (n ∷ without n cells) (without n cells) ≡ without n cells
  go true e = refl
  go false e = cc

without-other : (n k : ℕ) (cells : List ℕ) → eqb k n ≡ false → without n (k ∷ cells) ≡ k ∷ without n cells
without-other n k cells apart = ap (λ b. cond (not b) (k ∷ without n cells) (without n cells)) apart

pub names-without : (cells : List ℕ) (n m : ℕ) → names (without n cells) m ≡ true → (names cells m ≡ true) × (m ≢ n)
names-without [] n m named = cc
names-without (k ∷ cells) n m named = elim (eqb_tells k n) [
  | inl same ↦
      let rest = names-without cells n m (subst (λ list. names list m ≡ true) (ap (λ j. without n (j ∷ cells)) same.1 ∙ without-same n cells) named) in
      (grind (arith, nat_tests, rest.0), rest.1)
  | inr apart ↦ first_or (eqb k m) refl (subst (λ list. names list m ≡ true) (without-other n k cells apart.0) named) apart.1 (λ further. names-without cells n m further)
] where
  first_or : (b : Bool) → eqb k m ≡ b → names (k ∷ without n cells) m ≡ true → k ≢ n → (names (without n cells) m ≡ true → (names cells m ≡ true) × (m ≢ n)) → (names (k ∷ cells) m ≡ true) × (m ≢ n)
  first_or true e named apart behind = (grind (arith, nat_tests, e), grind (arith, nat_tests, e, apart))
  first_or false e named apart behind =
      let rest = behind (grind (arith, nat_tests, e, named)) in
      (grind (arith, nat_tests, rest.0), rest.1)

pub names-without_other : (cells : List ℕ) (n m : ℕ) → m ≢ n → names cells m ≡ true → names (without n cells) m ≡ true
names-without_other [] n m apart named = cc
names-without_other (k ∷ cells) n m apart named = elim (eqb_tells k n) [
  | inl same ↦
      let further : names cells m ≡ true = grind (arith, nat_tests, named, apart, same.1) in
      subst (λ list. names list m ≡ true) (sym (ap (λ j. without n (j ∷ cells)) same.1 ∙ without-same n cells)) (names-without_other cells n m apart further)
  | inr other ↦ subst (λ list. names list m ≡ true) (sym (without-other n k cells other.0)) (go (eqb k m) refl (λ further. names-without_other cells n m apart further))
] where
  go : (b : Bool) → eqb k m ≡ b → (names cells m ≡ true → names (without n cells) m ≡ true) → names (k ∷ without n cells) m ≡ true
  go true e behind = grind (arith, nat_tests, e)
  go false e behind =
      let further : names cells m ≡ true = grind (arith, nat_tests, e, named) in
      let rest : names (without n cells) m ≡ true = behind further in
      grind (arith, nat_tests, rest)

pub once-without : (cells : List ℕ) (n : ℕ) → names_once cells ≡ true → names_once (without n cells) ≡ true
once-without [] n once = refl
once-without (k ∷ cells) n once = elim (eqb_tells k n) [
  | inl same ↦ subst (λ list. names_once list ≡ true) (sym (ap (λ j. without n (j ∷ cells)) same.1 ∙ without-same n cells)) (once-without cells n parts.1)
  | inr other ↦ subst (λ list. names_once list ≡ true) (sym (without-other n k cells other.0)) (both (names (without n cells) k) refl (once-without cells n parts.1))
] where
  parts : (not (names cells k) ≡ true) × (names_once cells ≡ true)
  parts = and_parts (not (names cells k)) (names_once cells) once

  both : (b : Bool) → names (without n cells) k ≡ b → names_once (without n cells) ≡ true → names_once (k ∷ without n cells) ≡ true
  both true e behind = let there = (names-without cells n k e).0 in absurd (cc)
  both false e behind = rw (e, behind) refl

-- A cell's lock changes with what one caller holds: all but the lists named are as before.

-- the state after the caller locked the cell that it found free
abbrev after_lock : {O R : Type 0} → Turns O R → ℕ → ℕ → Turns O R
after_lock s c n = change_caller (caller_locked n) (change_cell (cell_locked c) s n) c

holder-else : {O R : Type 0} (changed : Cell O R → Cell O R) (s : Turns O R) (n m : ℕ) → m ≢ n → holder_of (change_cell changed s n).cells m ≡ holder_of s.cells m
holder-else {O} {R} changed s n m apart = ap (λ (x : Cell O R). x.lock) (get_or-set_other s.cells n m (changed (cell_at s n)) (fresh_cell 0) apart)

holder-here : {O R : Type 0} (changed : Cell O R → Cell O R) (s : Turns O R) (n : ℕ) → n < length s.cells → holder_of (change_cell changed s n).cells n ≡ (changed (cell_at s n)).lock
holder-here {O} {R} changed s n there = ap (λ (x : Cell O R). x.lock) (get_or-set_same s.cells n (changed (cell_at s n)) (fresh_cell 0) there)

held-same : {O R : Type 0} (changed : Caller O R → Caller O R) (s : Turns O R) (c : ℕ) → c < length s.callers → held_by (change_caller changed s c).callers c ≡ (changed (caller_at s c)).held
held-same {O} {R} changed s c there = ap (λ (x : Caller O R). x.held) (get_or-set_same s.callers c (changed (caller_at s c)) fresh_caller there)

held-other : {O R : Type 0} (changed : Caller O R → Caller O R) (s : Turns O R) (c d : ℕ) → d ≢ c → held_by (change_caller changed s c).callers d ≡ held_by s.callers d
held-other {O} {R} changed s c d apart = ap (λ (x : Caller O R). x.held) (get_or-set_other s.callers c d (changed (caller_at s c)) fresh_caller apart)

-- the list of a holder still has a cell that is not the one that changed
held-else : {O R : Type 0} (changed : Caller O R → Caller O R) (s : Turns O R) (c d m : ℕ) → c < length s.callers → (names (held_by s.callers c) m ≡ true → names (changed (caller_at s c)).held m ≡ true) → names (held_by s.callers d) m ≡ true → names (held_by (change_caller changed s c).callers d) m ≡ true
held-else changed s c d m there keeps named = elim (eqb_tells d c) [
  | inl same ↦ subst (λ e. names (held_by (change_caller changed s c).callers e) m ≡ true) (sym same.1) (subst (λ held. names held m ≡ true) (sym (held-same changed s c there)) (keeps (subst (λ e. names (held_by s.callers e) m ≡ true) same.1 named)))
  | inr apart ↦ subst (λ held. names held m ≡ true) (sym (held-other changed s c d apart.1)) named
]

pub keeps_lock : {O R : Type 0} (s : Turns O R) (c n : ℕ) → IsSound s → c < length s.callers → n < length s.cells → (cell_at s n).lock ≡ None → IsSound (after_lock s c n)
keeps_lock {O} {R} s c n sound c_there n_there free =
    let same = same_drawn s c (caller_locked n) c_there (λ x. refl) in
    let old = sound.cells n (cell_at s n) (slice_get-get_or s.cells n (fresh_cell 0) n_there) in
    let unheld : names (held_by s.callers c) n ≡ false = unnamed (names (held_by s.callers c) n) refl in
    let callers = (change_caller (caller_locked n) s c).callers in
    record {
      cells = EachPlace-set_else (IsCell s.callers) (IsCell callers) s.cells n (cell_locked c (cell_at s n)) sound.cells
          (record {
            histories = λ i history e. history-same s.callers callers history same (old.histories i history e);
            holder = λ d e. omega (arith, c_there, same.many, same_Some c d e);
            held = λ d e. subst (λ k. names (held_by callers k) n ≡ true) (same_Some c d e) (subst (λ held. names held n ≡ true) (sym (held-same (caller_locked n) s c c_there)) (names-push_here (caller_at s c).held n));
            away = λ e. refl;
          })
          (λ m x apart e kept. record {
            histories = λ i history f. history-same s.callers callers history same (kept.histories i history f);
            holder = λ d f. omega (arith, kept.holder d f, same.many);
            held = λ d f. held-else (caller_locked n) s c d m c_there (λ named. names-push_old (caller_at s c).held n m named) (kept.held d f);
            away = kept.away;
          });
      callers = EachPlace-set_else (IsCaller s.cells (entries_drawn s.callers)) (IsCaller cells (entries_drawn callers)) s.callers c (caller_locked n (caller_at s c)) sound.callers
          (locker (sound.callers c (caller_at s c) (slice_get-get_or s.callers c fresh_caller c_there)) unheld same.entries)
          (λ d x apart e kept. other kept (same.entries));
    } where
      cells : List (Cell O R)
      cells = (change_cell (cell_locked c) s n).cells

      still : (d m : ℕ) → holder_of s.cells m ≡ Some d → holder_of cells m ≡ Some d
      still d m e = elim (eqb_tells m n) [
        | inl same ↦ absurd (none-some d (sym free ∙ subst (λ k. holder_of s.cells k ≡ Some d) same.1 e))
        | inr apart ↦ holder-else (cell_locked c) s n m apart.1 ∙ e
      ]

      other : {d : ℕ} {x : Caller O R} {more : ℕ} → IsCaller s.cells (entries_drawn s.callers) d x → more ≡ entries_drawn s.callers → IsCaller cells more d x
      other {d} kept same = record {
        rising = kept.rising;
        own = kept.own;
        bounded = λ i entry e. omega (arith, kept.bounded i entry e, same);
        clocked = kept.clocked;
        clock = omega (arith, kept.clock, same);
        holds = λ m held. still d m (kept.holds m held);
        there = λ m held. omega (arith, kept.there m held, length-set s.cells n (cell_locked c (cell_at s n)));
        once = kept.once;
      }

      locker : {more : ℕ} → IsCaller s.cells (entries_drawn s.callers) c (caller_at s c) → names (held_by s.callers c) n ≡ false → more ≡ entries_drawn s.callers → IsCaller cells more c (caller_locked n (caller_at s c))
      locker kept unheld same = record {
        rising = kept.rising;
        own = kept.own;
        bounded = λ i entry e. omega (arith, kept.bounded i entry e, same);
        clocked = kept.clocked;
        clock = omega (arith, kept.clock, same);
        holds = λ m held. elim (eqb_tells m n) [
          | inl here ↦ subst (λ k. holder_of cells k ≡ Some c) (sym here.1) (holder-here (cell_locked c) s n n_there)
          | inr apart ↦ still c m (kept.holds m (names-push_other (caller_at s c).held n m apart.1 held))
        ];
        there = λ m held. elim (eqb_tells m n) [
          | inl here ↦ omega (arith, n_there, here.1, length-set s.cells n (cell_locked c (cell_at s n)))
          | inr apart ↦ omega (arith, kept.there m (names-push_other (caller_at s c).held n m apart.1 held), length-set s.cells n (cell_locked c (cell_at s n)))
        ];
        once = once-push (caller_at s c).held n kept.once unheld;
      }

      unnamed : (b : Bool) → names (held_by s.callers c) n ≡ b → b ≡ false
      unnamed true e =
          let holds = (sound.callers c (caller_at s c) (slice_get-get_or s.callers c fresh_caller c_there)).holds n e in
          absurd (none-some c (sym free ∙ holds))
      unnamed false e = refl

-- the state after the caller unlocked the cell
abbrev after_unlock : {O R : Type 0} → Turns O R → ℕ → ℕ → Turns O R
after_unlock s c n = change_caller (caller_unlocked n) (change_cell cell_unlocked s n) c

pub keeps_unlock : {O R : Type 0} (s : Turns O R) (c n : ℕ) → IsSound s → c < length s.callers → n < length s.cells → (cell_at s n).lock ≡ Some c → (cell_at s n).home ≡ true → IsSound (after_unlock s c n)
keeps_unlock {O} {R} s c n sound c_there n_there locked home =
    let same = same_drawn s c (caller_unlocked n) c_there (λ x. refl) in
    let old = sound.cells n (cell_at s n) (slice_get-get_or s.cells n (fresh_cell 0) n_there) in
    let callers = (change_caller (caller_unlocked n) s c).callers in
    record {
      cells = EachPlace-set_else (IsCell s.callers) (IsCell callers) s.cells n (cell_unlocked (cell_at s n)) sound.cells
          (record {
            histories = λ i history e. history-same s.callers callers history same (old.histories i history e);
            holder = λ d e. absurd (none-some d e);
            held = λ d e. absurd (none-some d e);
            away = λ e. absurd (true_home (cell_at s n).home home e);
          })
          (λ m x apart e kept. record {
            histories = λ i history f. history-same s.callers callers history same (kept.histories i history f);
            holder = λ d f. omega (arith, kept.holder d f, same.many);
            held = λ d f. held-else (caller_unlocked n) s c d m c_there (λ named. names-without_other (caller_at s c).held n m apart named) (kept.held d f);
            away = kept.away;
          });
      callers = EachPlace-set_else (IsCaller s.cells (entries_drawn s.callers)) (IsCaller cells (entries_drawn callers)) s.callers c (caller_unlocked n (caller_at s c)) sound.callers
          (unlocker (sound.callers c (caller_at s c) (slice_get-get_or s.callers c fresh_caller c_there)) same.entries)
          (λ d x apart e kept. other apart kept same.entries);
    } where
      cells : List (Cell O R)
      cells = (change_cell cell_unlocked s n).cells

      true_home : (b : Bool) → b ≡ true → b ≡ false → ⊥
      true_home true e f = cc
      true_home false e f = cc

      other : {d : ℕ} {x : Caller O R} {more : ℕ} → d ≢ c → IsCaller s.cells (entries_drawn s.callers) d x → more ≡ entries_drawn s.callers → IsCaller cells more d x
      other {d} another kept same = record {
        rising = kept.rising;
        own = kept.own;
        bounded = λ i entry e. omega (arith, kept.bounded i entry e, same);
        clocked = kept.clocked;
        clock = omega (arith, kept.clock, same);
        holds = λ m held. elim (eqb_tells m n) [
          | inl here ↦ absurd (another (same_Some d c (sym (kept.holds m held) ∙ ap (holder_of s.cells) here.1 ∙ locked)))
          | inr apart ↦ holder-else cell_unlocked s n m apart.1 ∙ kept.holds m held
        ];
        there = λ m held. omega (arith, kept.there m held, length-set s.cells n (cell_unlocked (cell_at s n)));
        once = kept.once;
      }

      unlocker : {more : ℕ} → IsCaller s.cells (entries_drawn s.callers) c (caller_at s c) → more ≡ entries_drawn s.callers → IsCaller cells more c (caller_unlocked n (caller_at s c))
      unlocker kept same = record {
        rising = kept.rising;
        own = kept.own;
        bounded = λ i entry e. omega (arith, kept.bounded i entry e, same);
        clocked = kept.clocked;
        clock = omega (arith, kept.clock, same);
        holds = λ m held. let named = names-without (caller_at s c).held n m held in holder-else cell_unlocked s n m named.1 ∙ kept.holds m named.0;
        there = λ m held. omega (arith, kept.there m (names-without (caller_at s c).held n m held).0, length-set s.cells n (cell_unlocked (cell_at s n)));
        once = once-without (caller_at s c).held n kept.once;
      }
