-- The cells of a row, taken one after the other.
use Rattle.std.proofs.Common.{◌≡◌, ℕ, zero, suc, ◌+◌, ◌<◌, Bool, true, false, ◌||◌, List, [], ◌∷◌, ◌++◌, None, refl, sym, ap, ◌∙◌, arith}
use Rattle.std.proofs.lemmas.List.{append_assoc, append-nil}
use Rattle.k42_kinds.specs.Rows.{made_from}
use Rattle.turn_core.specs.Names.{names}
use Rattle.k42_stamp.specs.Layouts.{Layouts}
use Rattle.k42_joined.specs.Numbers.{cell_of, row_cells}
use Rattle.k42_joined.proofs.CellNumbers.{named_in_row}
use Rattle.k42_board.specs.Drawing.{numbers_of}
use Rattle.k42_board.specs.Log.{Extends, with_log}
use Rattle.k42_board.specs.Seen.{PassSeen, IsSamePass}
use Rattle.k42_board.specs.Taking.{AreRowsNoted}
use Rattle.k42_board.specs.declared.cell.Content.{Content}
use Rattle.k42_board.proofs.Gained.{extends_same, extends_on}
use Rattle.k42_mediator.specs.Taken.{released, AreTaken}
use Rattle.k42_mediator.proofs.Remaining.{names_more}

pub made_more : {A : Type 0} (f : ℕ → A) (first many : ℕ) → made_from f first (suc many) ≡ made_from f first many ++ f (first + many) ∷ []
made_more f first zero = ap (λ k. f k ∷ []) (omega arith)
made_more f first (suc many) = ap (λ rest. f first ∷ rest) (made_more f (suc first) many ∙ ap (λ k. made_from f (suc first) many ++ f k ∷ []) (omega arith))

after : (place : ℕ) → suc place ≡ place + 1
after place = omega arith

-- a cell of a row is not among those before it
pub row_apart : (place o i : ℕ) → names (row_cells place o i) (cell_of o i place) ≡ false
row_apart place o i = by_test (names (row_cells place o i) (cell_of o i place)) refl where
  by_test : (b : Bool) → names (row_cells place o i) (cell_of o i place) ≡ b → b ≡ false
  by_test false e = refl
  by_test true e = let is = named_in_row place o i (cell_of o i place) e in let high = is.high in let same = is.same in absurd (omega (arith, high, same))

pub next_apart : (numbers held : List ℕ) (o i place : ℕ) → numbers ≡ held ++ row_cells place o i → names held (cell_of o i place) ≡ false
    → names numbers (cell_of o i place) ≡ false
next_apart numbers held o i place are none =
    ap (λ ns. names ns (cell_of o i place)) are ∙ names_more held (row_cells place o i) (cell_of o i place)
    ∙ (λ j. none j || row_apart place o i j)

-- so many cells of the row are taken, behind those that were taken before
pub record IsTaking
    {S L P O R : Type 0} (F : Layouts S L P O R) (declared : List L) (o i place : ℕ) (first now : PassSeen P O R)
    (before cells : List (Content P O R)) (len_before len room_before room : ℕ)
    : Type 0 where
  pub same : IsSamePass first now
  pub room_is : room ≡ room_before
  pub len_is : len ≡ len_before + place
  pub numbers : numbers_of cells ≡ numbers_of before ++ row_cells place o i
  pub held : now.view.taker.held ≡ numbers_of cells
  pub taken : AreTaken now.view.notes cells
  pub released_is : released (numbers_of cells) now.view ≡ with_log now.view.log (released (numbers_of before) first.view)
  pub log : Extends first.view.log now.view.log
  pub last : 0 < place → AreRowsNoted F declared now.view × (now.view.out ≡ None)

module _ {S L P O R : Type 0} (F : Layouts S L P O R) (declared : List L) (o i : ℕ) (first : PassSeen P O R) (before : List (Content P O R)) (len_before room_before : ℕ) where
  pub takes_none : first.view.taker.held ≡ numbers_of before → AreTaken first.view.notes before
      → IsTaking F declared o i 0 first first before before len_before len_before room_before room_before
  takes_none held taken = record {
    same = record { table = refl; seat = refl; keep = refl; room = refl; row_room = refl; queue = refl; pushed = refl; popped = refl };
    room_is = refl;
    len_is = omega arith;
    numbers = sym (append-nil (numbers_of before));
    held = held;
    taken = taken;
    released_is = refl;
    log = extends_same first.view.log;
    last = λ some. absurd (omega (arith, some));
  }

  pub takes_next : (place : ℕ) (now new : PassSeen P O R) (cells more : List (Content P O R)) (len len' room room' n : ℕ)
      → IsTaking F declared o i place first now before cells len_before len room_before room
      → n ≡ cell_of o i place → IsSamePass now new → room' ≡ room → len' ≡ len + 1 → numbers_of more ≡ numbers_of cells ++ n ∷ []
      → new.view.out ≡ None → new.view.taker.held ≡ numbers_of more → AreTaken new.view.notes more
      → released (numbers_of more) new.view ≡ with_log new.view.log (released (numbers_of cells) now.view)
      → Extends now.view.log new.view.log → AreRowsNoted F declared new.view → IsTaking F declared o i (place + 1) first new before more len_before len' room_before room'
  takes_next place now new cells more len len' room room' n is named same room_is len_is numbers back held taken released_is log rows = record {
    same = record {
      table = same.table ∙ is.same.table;
      seat = same.seat ∙ is.same.seat;
      keep = same.keep ∙ is.same.keep;
      room = same.room ∙ is.same.room;
      row_room = same.row_room ∙ is.same.row_room;
      queue = same.queue ∙ is.same.queue;
      pushed = same.pushed ∙ is.same.pushed;
      popped = same.popped ∙ is.same.popped;
    };
    room_is = room_is ∙ is.room_is;
    len_is = let was = is.len_is in omega (arith, len_is, was);
    numbers =
        numbers ∙ (λ j. is.numbers j ++ named j ∷ []) ∙ append_assoc (numbers_of before) (row_cells place o i) (cell_of o i place ∷ [])
        ∙ ap (λ ns. numbers_of before ++ ns) (sym (made_more (cell_of o i) 0 place ∙ ap (λ k. row_cells place o i ++ cell_of o i k ∷ []) (omega arith)))
        ∙ ap (λ k. numbers_of before ++ row_cells k o i) (after place);
    held = held;
    taken = taken;
    released_is = released_is ∙ ap (with_log new.view.log) is.released_is;
    log = extends_on is.log log;
    last = λ some. (rows, back);
  }
