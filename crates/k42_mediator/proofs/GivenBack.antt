-- Cells that a pass takes, and gives back as it found them.
use Rattle.std.proofs.Common.{◌≡◌, ℕ, ◌<◌, Bool, true, false, ◌||◌, eqb, List, [], ◌∷◌, ◌++◌, None, refl, sym, ap, ◌∙◌, subst}
use Rattle.std.proofs.lemmas.Bool.{eq-eqb}
use Rattle.std.specs.Prelude.{map}
use Rattle.k42_kinds.specs.declared.entry.Entry.{Entry}
use Rattle.turn_core.specs.Events.{caller_drawn}
use Rattle.turn_core.specs.Names.{names}
use Rattle.k42_stamp.specs.Laws.{AreLaws}
use Rattle.k42_stamp.specs.Layouts.{Layouts}
use Rattle.std.proofs.Common.{Option}
use Rattle.k42_board.specs.Cells.{cells_noted}
use Rattle.k42_board.specs.Drawing.{part_noted, part_in, numbers_of, drawn_at, told_note}
use Rattle.k42_board.specs.Parts.{IsPart}
use Rattle.k42_board.specs.Steps.{Always}
use Rattle.k42_board.specs.Log.{ComesTo, step_at, put_at, took, logs, with_log}
use Rattle.k42_board.specs.Taking.{CELLS, HoldsHome, noted, locked_view, lifted_view, gave_back, taken_view, reaching_view, put_view, unlocked_view}
use Rattle.k42_board.specs.Words.{lock_word}
use Rattle.k42_board.specs.declared.cell.Content.{Content}
use Rattle.k42_board.specs.declared.view.Note.{Note}
use Rattle.k42_board.specs.declared.view.PassView.{PassView}
use Rattle.k42_board.specs.declared.view.StepName.TheVariants as steps
use Rattle.k42_board.specs.declared.view.Taken.{Taken}
use Rattle.k42_board.proofs.Gained.{extends_by}
use Rattle.k42_board.proofs.PartLaws.{noted_always}
use Rattle.k42_rule.proofs.PartsDue.{first_note}
use Rattle.k42_mediator.specs.Taken.{released}
use Rattle.k42_mediator.proofs.Logs.{comes_by}
use Rattle.k42_mediator.proofs.NotesTold.{cell_same, other_same}
use Rattle.k42_mediator.proofs.Remaining.{remaining_all, remaining_twice, remaining_same, remaining_head, remaining_last, remaining_one, remaining_mapped}

abbrev pub cell_in : {P O R : Type 0} → Note P O R → ℕ
cell_in note = note.cell

map_same : (xs : List ℕ) → map (λ n. n) xs ≡ xs
map_same [] = refl
map_same (x ∷ xs) = ap (λ rest. x ∷ rest) (map_same xs)

pub holds_last : (held : List ℕ) (n : ℕ) → names (held ++ n ∷ []) n ≡ true
holds_last [] n = ap (λ b. b || false) (eq-eqb n n refl)
holds_last (m ∷ held) n = ap (λ b. eqb m n || b) (holds_last held n) ∙ or_last (eqb m n) where
  or_last : (b : Bool) → b || true ≡ true
  or_last true = refl
  or_last false = refl

-- the steps by which a cell is taken, and put back, with a part or without
abbrev pub steps_taken : ℕ → List Taken
steps_taken n = step_at steps.GiveBack (lock_word n) 0 ∷ step_at steps.Lift (lock_word n) 0 ∷ step_at steps.Lock (lock_word n) 0 ∷ []

abbrev pub steps_back : ℕ → Bool → List Taken
steps_back n full = step_at steps.Unlock (lock_word n) 0 ∷ put_at (lock_word n) full ∷ step_at steps.Reach (lock_word n) 0 ∷ []

module _ {P : Type 0} where
  -- one cell put back and unlocked
  pub given_one : {O R : Type 0} (n : ℕ) (v : PassView P O R) → unlocked_view n (put_view n v) ≡ released (n ∷ []) v
  given_one n v = λ i. record v {
    taker = record v.taker { held = remaining_one (λ m. m) n v.taker.held i };
    notes = remaining_one cell_in n v.notes i;
    out = None;
  }

  -- by these steps
  pub comes_back : {O R : Type 0} (n : ℕ) (full : Bool) (v w new : PassView P O R)
      → w ≡ logs (put_at (lock_word n) full) (put_view n (took steps.Reach (lock_word n) 0 (reaching_view n v)))
      → new ≡ took steps.Unlock (lock_word n) 0 (unlocked_view n w) → ComesTo v (released (n ∷ []) v) new
  comes_back {O} {R} n full v w new put left =
      comes_by v (released (n ∷ []) v) new (steps_back n full ++ v.log)
      (left ∙ ap (λ (u : PassView _ O R). took steps.Unlock (lock_word n) 0 (unlocked_view n u)) put
      ∙ ap (with_log (steps_back n full ++ v.log)) (given_one n v))
      (extends_by (steps_back n full) refl refl)

  -- some cells after the other
  pub released_twice : {O R : Type 0} (cells others : List ℕ) (v : PassView P O R) → released cells (released others v) ≡ released (cells ++ others) v
  released_twice cells others v = λ i. record v {
    taker = record v.taker { held = remaining_twice (λ m. m) cells others v.taker.held i };
    notes = remaining_twice cell_in cells others v.notes i;
    out = None;
  }

  -- none
  pub released_none : {O R : Type 0} (v : PassView P O R) → v.out ≡ None → released [] v ≡ v
  released_none v settled = λ i. record v {
    taker = record v.taker { held = remaining_all (λ m. m) v.taker.held i };
    notes = remaining_all cell_in v.notes i;
    out = sym settled i;
  }

  -- one whose lock was free is taken by these
  pub comes_taken : {O R : Type 0} (n found : ℕ) (content : Content P O R) (v v1 v2 : PassView P O R) → found ≡ 0
      → v1 ≡ took steps.Lock (lock_word n) found (locked_view n found v)
      → v2 ≡ gave_back (lock_word n) (took steps.Lift (lock_word n) 0 (lifted_view content v1))
      → ComesTo v (taken_view content (locked_view n 0 v)) v2
  comes_taken {O} {R} n found content v v1 v2 free locked taken =
      comes_by v (taken_view content (locked_view n 0 v)) v2 (steps_taken n ++ v.log)
      (taken ∙ ap (λ (u : PassView _ O R). gave_back (lock_word n) (took steps.Lift (lock_word n) 0 (lifted_view content u)))
      (locked ∙ ap (λ h. took steps.Lock (lock_word n) h (locked_view n h v)) free))
      (extends_by (steps_taken n) refl refl)

  pub locked_home : {O R : Type 0} (n found : ℕ) (v v1 : PassView P O R) → n < CELLS → found ≡ 0
      → v1 ≡ took steps.Lock (lock_word n) found (locked_view n found v) → names (cells_noted v.notes) n ≡ false → HoldsHome n v1
  locked_home {O} {R} n found v v1 few free locked unnoted = record {
    cell = few;
    held =
        ap (λ (u : PassView _ O R). names u.taker.held n) (locked ∙ ap (λ h. took steps.Lock (lock_word n) h (locked_view n h v)) free)
        ∙ holds_last v.taker.held n;
    home = ap (λ (u : PassView _ O R). names (cells_noted u.notes) n) locked ∙ unnoted;
  }

  -- one that was just taken
  pub released_taken : {O R : Type 0} (cells : List ℕ) (n : ℕ) (content : Content P O R) (v : PassView P O R) → content.number ≡ n
      → names v.taker.held n ≡ false → names (cells_noted v.notes) n ≡ false
      → released (cells ++ n ∷ []) (taken_view content (locked_view n 0 v)) ≡ released cells v
  released_taken cells n content v number unheld unnoted =
      let held : names (map (λ m. m) v.taker.held) n ≡ false = ap (λ xs. names xs n) (map_same v.taker.held) ∙ unheld in
      λ i. record v {
        taker = record v.taker { held = (remaining_last (λ m. m) cells n n v.taker.held refl ∙ remaining_same (λ m. m) cells n v.taker.held held) i };
        notes = (remaining_head cell_in cells n (noted content) v.notes number ∙ remaining_same cell_in cells n v.notes unnoted) i;
        out = None;
      }

  -- a draw at cells that are given back
  pub released_drawn : {O R : Type 0} (contents : List (Content P O R)) (entry : Entry O R) (v : PassView P O R)
      → released (numbers_of contents) (drawn_at contents entry v)
      ≡ record (released (numbers_of contents) v) {
        taker = caller_drawn entry (released (numbers_of contents) v).taker;
        found = None;
        untold = [];
      }
  released_drawn contents entry v =
      let cells = numbers_of contents in let fresh = part_in contents in
      λ i. record (released cells v) {
        taker = caller_drawn entry (released cells v).taker;
        found = None;
        untold = [];
        notes = remaining_mapped cell_in cells (told_note cells entry fresh) (cell_same cells entry fresh) (other_same cells entry fresh) v.notes i;
      }

-- the part that is noted of a cell is due
pub held_due : {S L P O R : Type 0} (F : Layouts S L P O R) → AreLaws F → (declared : List L) (id n : ℕ) (part : Option P) (w : PassView P O R)
    → names (cells_noted w.notes) n ≡ true → part_noted w.notes n ≡ part → Always F declared id w (λ s. IsPart F declared s n part)
held_due F laws declared id n part w there e table r at =
    let first = first_note w.notes n there in
    subst (λ p. IsPart F declared r.state n p) (sym first.part ∙ e)
    (subst (λ m. IsPart F declared r.state m first.note.part) first.named
    (noted_always F laws declared id w first.place first.note first.there table r at))
