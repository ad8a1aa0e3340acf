-- Locking, taking, putting, unlocking, skipping and drawing keep locks and lives.
use Rattle.std.proofs.Common.{◌≡◌, ℕ, ◌+◌, ◌%◌, ◌<◌, ◌≤◌, ◌≢◌, ◌∙◌, Bool, true, false, List, [], ◌∷◌, Option, Some, None, length, length-set, sym, refl, ap, subst, ⊎_elim, arith}
use Rattle.std.proofs.lemmas.List.{get_or-set_other}
use Rattle.std.proofs.lemmas.Option.{same_Some}
use Rattle.std.proofs.lemmas.Bool.{cases_eq}
use Rattle.k42_kinds.specs.declared.entry.Entry.{Entry}
use Rattle.k42_places.proofs.Written.{get_or-set_related}
use Rattle.turn_core.specs.declared.event.TurnEvent.TheVariants.{Lock, Take, Draw, Alone, Put, Unlock, Skip}
use Rattle.turn_core.specs.Plain.{Cell, Caller, Turns}
use Rattle.turn_core.specs.State.{cell_at, fresh_cell, change_cell, change_caller, change_cells}
use Rattle.turn_core.specs.Names.{names}
use Rattle.turn_core.specs.Events as turns
use Rattle.turn_core.specs.Events.{cell_locked, cell_unlocked, cell_taken, cell_put, cell_told, caller_locked, caller_unlocked, caller_drawn}
use Rattle.turn_core.proofs.Changed.{length-change_cells, callers-change_cells}
use Rattle.k42_joined.specs.Plain.{Kept, Joined}
use Rattle.k42_joined.specs.Effects.{kept_drawn}
use Rattle.k42_joined.specs.Locks.{AreLocked}
use Rattle.k42_joined.specs.Numbers.{cell_of, object_of}
use Rattle.k42_joined.specs.Possible.{MayTouch}
use Rattle.k42_joined.specs.State.{many_procs, many_objects, incarnation, cell, cell_in}
use Rattle.k42_joined.specs.Touching.{may_touch}
use Rattle.k42_joined.proofs.CellNumbers.{IsAmong, same_cell}
use Rattle.k42_joined.proofs.CellChanges.{cell_at-else, cell_at-here}
use Rattle.k42_joined.proofs.LocksLives.{IsSameLife, same_life, lives_kept}

-- what an event of cells does that neither closes a cell nor begins a life
pub record LeavesLives {L O R : Type 0} (s : Joined L O R) (t : Turns O R) (keeps : List (Kept R)) : Type 0 where
  pub callers : length t.callers ≡ length s.turns.callers
  pub cells : length t.cells ≡ length s.turns.cells
  pub kept : length keeps ≡ length s.kept
  pub lives : (n : ℕ) → IsSameLife (cell s n) (cell_at t n)
  -- nothing is drawn at a cell of a next row
  pub next :
      (o p : ℕ) → o < many_objects s → p < many_procs s
      → (cell_at t (cell_of o (incarnation s o + 1) p)).history ≡ (cell_in s o (incarnation s o + 1) p).history
  pub held : (n c : ℕ) → (cell_at t n).lock ≡ Some c → MayTouch s c n

pub lives_left : {L O R : Type 0} (s : Joined L O R) (t : Turns O R) (kept : List (Kept R)) → AreLocked s → LeavesLives s t kept
    → AreLocked (record s { turns = t; kept = kept })
lives_left s t kept locked leaves = record {
  many = record {
    callers = leaves.callers ∙ locked.many.callers;
    kept = leaves.kept ∙ locked.many.kept;
    hands = locked.many.hands;
    cells = leaves.cells ∙ locked.many.cells;
    few_procs = locked.many.few_procs;
  };
  held = λ n c lock. let touch = leaves.held n c lock in
      record {
        object = touch.object;
        place = touch.place;
        allowed = subst (λ life. may_touch s.phases c (object_of n) life ≡ true) (sym (leaves.lives n).life) touch.allowed;
      };
  counted = λ o named. locked.counted o named;
  lives = λ o p named within.
      lives_kept (incarnation s o) _ (cell_in s o (incarnation s o) p) (cell_in s o (incarnation s o + 1) p) _ _
      (leaves.lives (cell_of o (incarnation s o) p)) (leaves.lives (cell_of o (incarnation s o + 1) p))
      (leaves.next o p named within) (locked.lives o p named within);
}

-- a cell of which nothing but its lock and its place is changed
pub record IsSameTold {O R : Type 0} (x y : Cell O R) : Type 0 where
  pub closed : y.closed ≡ x.closed
  pub life : y.life ≡ x.life
  pub history : y.history ≡ x.history
  pub past : y.past ≡ x.past

same_told : {O R : Type 0} (x : Cell O R) → IsSameTold x x
same_told x = record { closed = refl; life = refl; history = refl; past = refl }

told_life : {O R : Type 0} (x y : Cell O R) → IsSameTold x y → IsSameLife x y
told_life x y same = record { life = same.life; closed = same.closed; past = ap length same.past }

pub told_at : {O R : Type 0} (changed : Cell O R → Cell O R) → ((x : Cell O R) → IsSameTold x (changed x)) → (t : Turns O R) (n m : ℕ)
    → IsSameTold (cell_at t m) (cell_at (change_cell changed t n) m)
told_at changed same t n m = get_or-set_related IsSameTold same_told t.cells n m (changed (cell_at t n)) (fresh_cell 0) (same (cell_at t n))

module _ {L O R : Type 0} (s : Joined L O R) (locked : AreLocked s) where
  -- one cell's lock or place, and perhaps a caller's list of what it holds
  one_cell : (changed : Cell O R → Cell O R) → ((x : Cell O R) → IsSameTold x (changed x)) → (n : ℕ) (callers : List (Caller O R))
      → length callers ≡ length s.turns.callers
      → ((m c : ℕ) → (cell_at (change_cell changed s.turns n) m).lock ≡ Some c → MayTouch s c m)
      → AreLocked (record s { turns = record { cells = (change_cell changed s.turns n).cells; callers = callers } })
  one_cell changed same n callers many held =
      lives_left s (record { cells = (change_cell changed s.turns n).cells; callers = callers }) s.kept locked (record {
        callers = many;
        cells = length-set s.turns.cells n (changed (cell s n));
        kept = refl;
        lives = λ m. told_life (cell s m) (cell_at (change_cell changed s.turns n) m) (told_at changed same s.turns n m);
        next = λ o p named within. (told_at changed same s.turns n (cell_of o (incarnation s o + 1) p)).history;
        held = held;
      })

  -- the lock of each cell stays
  kept_lock : (changed : Cell O R → Cell O R) → ((x : Cell O R) → (changed x).lock ≡ x.lock) → (n m c : ℕ)
      → (cell_at (change_cell changed s.turns n) m).lock ≡ Some c → MayTouch s c m
  kept_lock changed same n m c lock =
      locked.held m c
      (sym (get_or-set_related (λ (x y : Cell O R). y.lock ≡ x.lock) (λ x. refl) s.turns.cells n m (changed (cell s n)) (fresh_cell 0) (same (cell s n))) ∙ lock)

  pub take_keeps : (c n : ℕ) → AreLocked (record s { turns = turns.effect s.turns (Take c n) })
  take_keeps c n =
      one_cell cell_taken (λ x. record { closed = refl; life = refl; history = refl; past = refl }) n s.turns.callers refl
      (kept_lock cell_taken (λ x. refl) n)

  pub put_keeps : (c n : ℕ) → AreLocked (record s { turns = turns.effect s.turns (Put c n) })
  put_keeps c n =
      one_cell cell_put (λ x. record { closed = refl; life = refl; history = refl; past = refl }) n s.turns.callers refl
      (kept_lock cell_put (λ x. refl) n)

  -- another cell than the one whose lock is changed
  else_lock : (changed : Cell O R → Cell O R) (n m c : ℕ) → m ≢ n → (cell_at (change_cell changed s.turns n) m).lock ≡ Some c → MayTouch s c m
  else_lock changed n m c other lock =
      locked.held m c (sym (ap (λ x. x.lock) (get_or-set_other s.turns.cells n m (changed (cell s n)) (fresh_cell 0) other)) ∙ lock)

  unlocked_lock : (n m c : ℕ) → n < length s.turns.cells → (cell_at (change_cell cell_unlocked s.turns n) m).lock ≡ Some c → MayTouch s c m
  unlocked_lock n m c there lock =
      ⊎_elim
      (λ (same : m ≡ n).
      let here = cell_at-here cell_unlocked s.turns n there in
      let none : None ≡ Some c = sym (ap (λ x. x.lock) here) ∙ subst (λ k. (cell_at (change_cell cell_unlocked s.turns n) k).lock ≡ Some c) same lock in
      absurd (cc))
      (λ other. else_lock cell_unlocked n m c other lock) (cases_eq m n)

  pub unlock_keeps : (c n : ℕ) → n < length s.turns.cells → AreLocked (record s { turns = turns.effect s.turns (Unlock c n) })
  unlock_keeps c n there =
      one_cell cell_unlocked (λ x. record { closed = refl; life = refl; history = refl; past = refl }) n _
      (length-set s.turns.callers c _) (λ m d lock. unlocked_lock n m d there lock)

  locked_lock : (c n m d : ℕ) → n < length s.turns.cells → MayTouch s c n
      → (cell_at (change_cell (cell_locked c) s.turns n) m).lock ≡ Some d → MayTouch s d m
  locked_lock c n m d there may lock =
      ⊎_elim
      (λ (same : m ≡ n).
      let here = cell_at-here (cell_locked c) s.turns n there in
      let own : c ≡ d = same_Some c d (sym (ap (λ x. x.lock) here) ∙ subst (λ k. (cell_at (change_cell (cell_locked c) s.turns n) k).lock ≡ Some d) same lock) in
      subst (λ k. MayTouch s d k) (sym same) (subst (λ e. MayTouch s e n) own may))
      (λ other. else_lock (cell_locked c) n m d other lock) (cases_eq m n)

  lock_found : (c n : ℕ) → n < length s.turns.cells → MayTouch s c n → (found : Option ℕ)
      → AreLocked (record s { turns = turns.locked s.turns c n found })
  lock_found c n there may None =
      one_cell (cell_locked c) (λ x. record { closed = refl; life = refl; history = refl; past = refl }) n _
      (length-set s.turns.callers c _) (λ m d lock. locked_lock c n m d there may lock)
  lock_found c n there may (Some holder) = locked

  pub lock_keeps : (c n : ℕ) → n < length s.turns.cells → MayTouch s c n → AreLocked (record s { turns = turns.effect s.turns (Lock c n) })
  lock_keeps c n there may = lock_found c n there may (cell s n).lock

  pub skip_keeps : (c stamp : ℕ) → AreLocked (record s { turns = turns.effect s.turns (Skip c stamp) })
  skip_keeps c stamp =
      lives_left s (turns.effect s.turns (Skip c stamp)) s.kept locked (record {
        callers = length-set s.turns.callers c _;
        cells = refl;
        kept = refl;
        lives = λ n. same_life (cell s n);
        next = λ o p named within. refl;
        held = λ n d lock. locked.held n d lock;
      })

  pub alone_keeps : (c : ℕ) (entry : Entry O R) (abandons : Bool)
      → AreLocked (record s { turns = turns.effect s.turns (Alone c entry); kept = kept_drawn s c abandons })
  alone_keeps c entry abandons =
      lives_left s (turns.effect s.turns (Alone c entry)) (kept_drawn s c abandons) locked (record {
        callers = length-set s.turns.callers c _;
        cells = refl;
        kept = length-set s.kept c _;
        lives = λ n. same_life (cell s n);
        next = λ o p named within. refl;
        held = λ n d lock. locked.held n d lock;
      })

-- what is told to cells leaves their lives and their locks

told_lives : {O R : Type 0} (entry : Entry O R) (t : Turns O R) (cells : List ℕ) (n : ℕ) → IsSameLife (cell_at t n) (cell_at (change_cells (cell_told entry) t cells) n)
told_lives entry t [] n = same_life (cell_at t n)
told_lives entry t (m ∷ cells) n =
    let first = get_or-set_related IsSameLife same_life t.cells m n (cell_told entry (cell_at t m)) (fresh_cell 0) (record { life = refl; closed = refl; past = refl }) in
    let rest = told_lives entry (change_cell (cell_told entry) t m) cells n in
    record { life = rest.life ∙ first.life; closed = rest.closed ∙ first.closed; past = rest.past ∙ first.past }

pub kept_locks : {O R : Type 0} (changed : Cell O R → Cell O R) → ((x : Cell O R) → (changed x).lock ≡ x.lock) → (t : Turns O R) (cells : List ℕ) (n : ℕ)
    → (cell_at (change_cells changed t cells) n).lock ≡ (cell_at t n).lock
kept_locks changed same t [] n = refl
kept_locks {O} {R} changed same t (m ∷ cells) n =
    kept_locks changed same (change_cell changed t m) cells n
    ∙ get_or-set_related (λ (x y : Cell O R). y.lock ≡ x.lock) (λ x. refl) t.cells m n (changed (cell_at t m)) (fresh_cell 0) (same (cell_at t m))

-- the cells are of the present row of an object
abbrev pub AreOfRow : {L O R : Type 0} → Joined L O R → ℕ → List ℕ → Type 0
AreOfRow s o cells = (n : ℕ) → names cells n ≡ true → IsAmong o (incarnation s o) 0 (many_procs s) n

-- so none of them is of a next row
pub not_next : {L O R : Type 0} (s : Joined L O R) → many_procs s ≤ 8 → (o : ℕ) (cells : List ℕ) → AreOfRow s o cells
    → (q p : ℕ) → p < many_procs s → (b : Bool) → names cells (cell_of q (incarnation s q + 1) p) ≡ b → b ≡ false
not_next s few o cells are q p within true named =
    let is = are (cell_of q (incarnation s q + 1) p) named in
    let high = is.high in
    let one = same_cell q (incarnation s q + 1) p o (incarnation s o) is.place (omega (arith, within, few)) (omega (arith, high, few)) is.same in
    let parity : (incarnation s q + 1) % 2 ≡ incarnation s q % 2 = one.parity ∙ ap (λ r. incarnation s r % 2) (sym one.object) in
    absurd (omega (arith, parity))
not_next s few o cells are q p within false named = refl

module _ {L O R : Type 0} (s : Joined L O R) (locked : AreLocked s) where
  pub draw_keeps : (c o : ℕ) (cells : List ℕ) (entry : Entry O R) → AreOfRow s o cells
      → AreLocked (record s { turns = turns.effect s.turns (Draw c cells entry); kept = kept_drawn s c false })
  draw_keeps c o cells entry are =
      let drawing = change_caller (caller_drawn entry) s.turns c in
      lives_left s (turns.effect s.turns (Draw c cells entry)) (kept_drawn s c false) locked (record {
        callers = ap length (callers-change_cells (cell_told entry) drawing cells) ∙ length-set s.turns.callers c _;
        cells = length-change_cells (cell_told entry) drawing cells;
        kept = length-set s.kept c _;
        lives = λ n. told_lives entry drawing cells n;
        next = λ q p named within. let n = cell_of q (incarnation s q + 1) p in
            ap (λ x. x.history) (cell_at-else (cell_told entry) drawing cells n (not_next s locked.many.few_procs o cells are q p within (names cells n) refl));
        held = λ n d lock. locked.held n d (sym (kept_locks (cell_told entry) (λ x. refl) drawing cells n) ∙ lock);
      })
