-- The cells that a call needs: taken one after the other, or left to another caller.
use Rattle.std.proofs.Common.{◌≡◌, ◌≢◌, ℕ, ◌+◌, ◌-◌, ◌<◌, ◌≤◌, Bool, true, false, not, ◌||◌, cond, eqb, List, [], ◌∷◌, ◌++◌, None, refl, sym, ap, ◌∙◌, subst, arith}
use Rattle.std.proofs.lemmas.Bool.{eqb-true}
use Rattle.std.proofs.lemmas.Bool.Decides.{nat_tests}
use Rattle.k42_limits.specs.declared.TheConstants.{PROCESSORS}
use Rattle.turn_core.specs.Events.{caller_locked}
use Rattle.turn_core.specs.Names.{names, names_once}
use Rattle.k42_stamp.specs.Laws.{AreLaws}
use Rattle.k42_stamp.specs.Layouts.{Layouts}
use Rattle.k42_joined.specs.Numbers.{cell_of, row_cells}
use Rattle.k42_joined.proofs.CellNumbers.{named_in_row}
use Rattle.k42_board.specs.Cells.{cells_noted}
use Rattle.k42_board.specs.Drawing.{numbers_of}
use Rattle.k42_board.specs.Log.{ComesTo, Meets, step_at, took, with_log}
use Rattle.k42_board.specs.Seen.{PassSeen, IsSamePass}
use Rattle.k42_board.specs.Taking.{CELLS, AreRowsNoted, LockFound, locked_view, taken_view}
use Rattle.k42_board.specs.Words.{lock_word}
use Rattle.k42_board.specs.declared.cell.Content.{Content}
use Rattle.k42_board.specs.declared.view.PassView.{PassView}
use Rattle.k42_board.specs.declared.view.StepName.TheVariants as steps
use Rattle.k42_board.specs.declared.view.Taken.{Taken}
use Rattle.k42_board.proofs.Gained.{meets_one, meets_as, meets_on}
use Rattle.k42_board.proofs.Noted.{each_named}
use Rattle.k42_board.proofs.RowCells.{row_once}
use Rattle.k42_rule.proofs.HandedNotes.{numbers_more}
use Rattle.k42_mediator.specs.Taken.{released, AreTaken}
use Rattle.k42_mediator.proofs.GivenBack.{held_due, released_taken}
use Rattle.k42_mediator.proofs.NotesTold.{taken_more}
use Rattle.k42_mediator.proofs.RowTaken.{IsTaking, takes_none, takes_next}
use Rattle.k42_runtime.specs.Calls.{WasHeld}
use Rattle.k42_runtime.specs.Reaching.{HasTakenNext, WasRefused, HasTaken, WasStopped, MayGiveBack}

-- the cells of a row are numbers of cells
pub row_small : (place o i n : ℕ) → place ≤ 8 → o < 16 → names (row_cells place o i) n ≡ true → n < CELLS
row_small place o i n few object named =
    let is = named_in_row place o i n named in let high = is.high in let same = is.same in omega (arith, high, same, few, object)

-- such a cell too
pub cell_small : (o i p n : ℕ) → n ≡ cell_of o i p → p < 8 → o < 16 → n < CELLS
cell_small o i p n is there object = omega (arith, is, there, object)

not_none : (n : ℕ) → eqb (n + 1) 0 ≡ false
not_none n = grind (arith, nat_tests)

-- a lock that another caller has is what a step met
pub meets_lock : (word holder : ℕ) (log : List Taken) → Meets (step_at steps.Lock word (holder + 1)) log (step_at steps.Lock word (holder + 1) ∷ log)
meets_lock word holder log =
    let lock = step_at steps.Lock word (holder + 1) in
    meets_one lock log (ap (λ b. cond (not b) (lock ∷ []) []) (not_none holder))

kept_waiting : {P O R : Type 0} (n found : ℕ) (v : PassView P O R) → (found ≡ 0 → ⊥)
    → took steps.Lock (lock_word n) found (locked_view n found v) ≡ took steps.Lock (lock_word n) (found - 1 + 1) v
kept_waiting n found v other =
    let taken : eqb found 0 ≡ false = grind (arith, nat_tests, other) in
    ap (λ b. took steps.Lock (lock_word n) found (record v { taker = cond b (caller_locked n v.taker) v.taker })) taken
    ∙ ap (λ h. took steps.Lock (lock_word n) h v) (omega (arith, other))

module _ {S L P O R : Type 0} (F : Layouts S L P O R) (declared : List L) where
  pub was_refused : (n found : ℕ) (v w : PassView P O R) (cells : List (Content P O R)) → (found ≡ 0 → ⊥) → w ≡ took steps.Lock (lock_word n) found (locked_view n found v)
      → LockFound n v found → WasRefused F declared (found - 1) n v w cells cells
  was_refused n found v w cells other knows is =
      let back : found ≡ found - 1 + 1 = omega (arith, other) in
      let small : found ≤ 16 = is.small in
      record {
        same = refl;
        another = λ e. is.another (back ∙ ap (λ h. h + 1) e);
        caller = omega (arith, other, small);
        knows = knows ∙ kept_waiting n found v other;
      }

  -- one cell more
  pub has_taken_next : (n : ℕ) (v w : PassView P O R) (cell : Content P O R) (cells news : List (Content P O R)) → ComesTo v (taken_view cell (locked_view n 0 v)) w
      → cell.number ≡ n → v.taker.held ≡ numbers_of cells → names (numbers_of cells) n ≡ false → AreTaken v.notes cells
      → names (cells_noted v.notes) n ≡ false → AreRowsNoted F declared w → news ≡ cells ++ cell ∷ [] → HasTakenNext F declared n v w cells news
  has_taken_next n v w cell cells news comes number held another taken unnoted rows are =
      let numbers : numbers_of news ≡ numbers_of cells ++ n ∷ [] =
      ap numbers_of are ∙ numbers_more cells (cell ∷ []) ∙ ap (λ m. numbers_of cells ++ m ∷ []) number in
      record {
        numbers = numbers;
        held = ap (λ (x : PassView P O R). x.taker.held) comes.knows ∙ ap (λ ns. ns ++ n ∷ []) held ∙ sym numbers;
        taken =
            subst (AreTaken w.notes) (sym are)
            (subst (λ ns. AreTaken ns (cells ++ cell ∷ [])) (sym (ap (λ (x : PassView P O R). x.notes) comes.knows))
            (taken_more cell v.notes cells (ap (names (numbers_of cells)) number ∙ another) taken));
        back = ap (λ (x : PassView P O R). x.out) comes.knows;
        released_is =
            (λ i. released (numbers i) (comes.knows i))
            ∙ ap (with_log w.log) (released_taken (numbers_of cells) n cell v number (ap (λ ns. names ns n) held ∙ another) unnoted);
        log = comes.log;
        rows = rows;
      }

  -- cells that were taken may be put back
  pub may_give : AreLaws F → (id : ℕ) (v : PassView P O R) (contents : List (Content P O R)) → names_once (numbers_of contents) ≡ true → v.out ≡ None
      → v.taker.held ≡ numbers_of contents → AreTaken v.notes contents → ((n : ℕ) → names (numbers_of contents) n ≡ true → n < CELLS)
      → MayGiveBack F declared id v contents
  may_give laws id v contents once back held taken few = record {
    once = once;
    back = back;
    ready = λ k content at. record {
      cell = few content.number (each_named contents k content at);
      holds = ap (λ ns. names ns content.number) held ∙ each_named contents k content at;
      held = (taken k content at).held;
      due = λ w alike there e. held_due F laws declared id content.number content.part w there (e ∙ sym (taken k content at).part);
    };
  }

  -- so may those of a pass that was refused another
  pub may_give_stopped : AreLaws F → (id holder n : ℕ) (v w : PassView P O R) (contents : List (Content P O R)) → w ≡ took steps.Lock (lock_word n) (holder + 1) v
      → names_once (numbers_of contents) ≡ true → v.out ≡ None → v.taker.held ≡ numbers_of contents → AreTaken v.notes contents
      → ((n : ℕ) → names (numbers_of contents) n ≡ true → n < CELLS) → MayGiveBack F declared id w contents
  may_give_stopped laws id holder n v w contents e once back held taken few =
      subst (λ x. MayGiveBack F declared id x contents) (sym e)
      (may_give laws id (took steps.Lock (lock_word n) (holder + 1) v) contents once back held taken few)

-- so many cells of the row are taken
pub record IsTakingRow
    {S L P O R : Type 0} (F : Layouts S L P O R) (declared : List L) (o i place : ℕ) (first now : PassSeen P O R)
    (cells : List (Content P O R)) (len room_before room : ℕ)
    : Type 0 where
  pub taking : IsTaking F declared o i place first now [] cells 0 len room_before room
  pub back : now.view.out ≡ None

module _ {S L P O R : Type 0} (F : Layouts S L P O R) (declared : List L) (o i : ℕ) (first : PassSeen P O R) (room_before : ℕ) where
  pub row_none : (cells : List (Content P O R)) (len : ℕ) → cells ≡ [] → len ≡ 0 → first.view.taker.held ≡ [] → first.view.out ≡ None
      → IsTakingRow F declared o i 0 first first cells len room_before room_before
  row_none cells len none zero held back =
      subst (λ (z : List (Content P O R) × ℕ). IsTakingRow F declared o i 0 first first z.0 z.1 room_before room_before) (λ j. (sym none j, sym zero j))
      (record { taking = takes_none F declared o i first [] 0 room_before held (λ k content at. absurd (cc)); back = back })

  module _ (place : ℕ) (now : PassSeen P O R) (cells : List (Content P O R)) (len room : ℕ) (is : IsTakingRow F declared o i place first now cells len room_before room) where
    pub row_stopped : (holder n : ℕ) (new : PassSeen P O R) (contents : List (Content P O R)) → n ≡ cell_of o i place → place < PROCESSORS
        → WasRefused F declared holder n now.view new.view cells contents → WasStopped F declared holder o first.view new.view contents
    row_stopped holder n new contents named there was =
        let word = lock_word (cell_of o i place) in let lock = step_at steps.Lock word (holder + 1) in
        let knows : new.view ≡ took steps.Lock word (holder + 1) now.view = was.knows ∙ ap (λ m. took steps.Lock (lock_word m) (holder + 1) now.view) named in
        let log = ap (λ (v : PassView P O R). v.log) knows in
        let number : now.view.number ≡ first.view.number = ap (λ (v : PassView P O R). v.number) is.taking.released_is in
        record {
          released_is =
              (λ j. released (numbers_of (was.same j)) (knows j)) ∙ ap (with_log (lock ∷ now.view.log)) is.taking.released_is
              ∙ ap (λ l. with_log l (released [] first.view)) (sym log);
          was = record {
            incarnation = i;
            place = place;
            there = there;
            another = subst (λ c. holder ≢ c) number was.another;
            caller = was.caller;
            met = meets_on is.taking.log (meets_as log (meets_lock word holder now.view.log));
          };
        }

    pub row_may_give : AreLaws F → place ≤ 8 → o < 16 → (holder n : ℕ) (id : ℕ) (w : PassView P O R) (contents : List (Content P O R)) → contents ≡ cells
        → w ≡ took steps.Lock (lock_word n) (holder + 1) now.view → MayGiveBack F declared id w contents
    row_may_give laws few object holder n id w contents same e =
        subst (MayGiveBack F declared id w) (sym same)
        (may_give_stopped F declared laws id holder n now.view w cells e (ap names_once is.taking.numbers ∙ row_once place o i few) is.back is.taking.held is.taking.taken
        (λ m named. row_small place o i m few object (ap (λ ns. names ns m) (sym is.taking.numbers) ∙ named)))

    pub row_next : (new : PassSeen P O R) (more : List (Content P O R)) (len' room' n : ℕ) → n ≡ cell_of o i place
        → IsSamePass now new → room' ≡ room → len' ≡ len + 1 → HasTakenNext F declared n now.view new.view cells more
        → IsTakingRow F declared o i (place + 1) first new more len' room_before room'
    row_next new more len' room' n named same room_is long next = record {
      taking =
          takes_next F declared o i first [] 0 room_before place now new cells more len len' room room' n is.taking named same room_is long next.numbers next.back next.held next.taken
          next.released_is next.log next.rows;
      back = next.back;
    }

    -- all of them
    pub row_taken : 0 < place → HasTaken F declared (row_cells place o i) first.view now.view cells
    row_taken some = record {
      numbers = is.taking.numbers;
      held = is.taking.held ∙ is.taking.numbers;
      taken = is.taking.taken;
      released_is = ap (λ ns. released ns now.view) (sym is.taking.numbers) ∙ is.taking.released_is;
      log = is.taking.log;
      rows = (is.taking.last some).0;
    }

    pub row_may : AreLaws F → place ≤ 8 → o < 16 → (id : ℕ) → MayGiveBack F declared id now.view cells
    row_may laws few object id =
        may_give F declared laws id now.view cells (ap names_once is.taking.numbers ∙ row_once place o i few) is.back is.taking.held is.taking.taken
        (λ n named. row_small place o i n few object (ap (λ ns. names ns n) (sym is.taking.numbers) ∙ named))

-- the one cell of a call that needs one

or_left : (b : Bool) → b || false ≡ true → b ≡ true
or_left true e = refl
or_left false e = absurd (cc)

pub named_only : (n m : ℕ) → names (n ∷ []) m ≡ true → n ≡ m
named_only n m e = eqb-true n m (or_left (eqb n m) e)

module _ {S L P O R : Type 0} (F : Layouts S L P O R) (declared : List L) where
  -- it was taken
  pub taken_alone : (n : ℕ) (old new : PassView P O R) (news : List (Content P O R)) → HasTakenNext F declared n old new [] news → HasTaken F declared (n ∷ []) old new news
  taken_alone n old new news next = record {
    numbers = next.numbers;
    held = next.held ∙ next.numbers;
    taken = next.taken;
    released_is = ap (λ ns. released ns new) (sym next.numbers) ∙ next.released_is;
    log = next.log;
    rows = next.rows;
  }

  -- another caller has it
  pub refused_alone : (o i p n holder : ℕ) (old new : PassView P O R) → n ≡ cell_of o i p → p < PROCESSORS → WasRefused F declared holder n old new [] []
      → (new ≡ with_log new.log old) × WasHeld o holder old new
  refused_alone o i p n holder old new named there was =
      let log = ap (λ (v : PassView P O R). v.log) was.knows in let word = lock_word n in (
        was.knows ∙ ap (λ l. with_log l old) (sym log),
        record {
          incarnation = i;
          place = p;
          there = there;
          another = was.another;
          caller = was.caller;
          met =
              subst (λ (m : ℕ). Meets (step_at steps.Lock (lock_word m) (holder + 1)) old.log new.log) named
              (meets_as log (meets_lock word holder old.log));
        },
      )
