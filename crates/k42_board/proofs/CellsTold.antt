-- The seat of a pass may be parted from what a cell is told of an entry that was drawn at it.
use Rattle.std.proofs.Common.{◌≡◌, ℕ, zero, suc, Bool, List, [], ◌∷◌, ◌++◌, Some, length, set, sym, refl, ap, ◌∙◌, subst, ⊎_elim}
use Rattle.std.specs.List.{slice_get}
use Rattle.std.specs.Prelude.{take, drop}
use Rattle.std.proofs.Math.Seq.{take-append_seam}
use Rattle.std.proofs.lemmas.Option.{same_Some}
use mathlib.Core.Option.{some}
use lib.ListN.{get_elem?}
use Rattle.atomic_table.specs.Table.{State, Splits}
use Rattle.atomic_table.proofs.Lists.{at_set}
use Rattle.turn_core.specs.Names.{names}
use Rattle.k42_stamp.specs.Layouts.{Layouts}
use Rattle.k42_joined.specs.State.{many_callers}
use Rattle.k42_board.specs.Cells.{Slot, cells_noted}
use Rattle.k42_board.specs.Drawing.{IsTold, AreTold, untold_view, history_noted, closed_noted}
use Rattle.k42_board.specs.Receipts.{telling, first_told, receipt, after_first, IsDue}
use Rattle.k42_board.specs.Rule.{KnowsPass, Knows, Rule, Ruled}
use Rattle.k42_board.specs.Seats.{told_by}
use Rattle.k42_board.specs.Seats as seats
use Rattle.k42_board.specs.Seen.{IsSeatOf}
use Rattle.k42_board.specs.Steps.{Seated}
use Rattle.k42_board.specs.declared.cell.Content.{Content}
use Rattle.k42_board.specs.declared.view.Note.{Note}
use Rattle.k42_board.specs.declared.view.PassView.{PassView}
use Rattle.k42_board.specs.declared.view.View.{View}
use Rattle.k42_board.specs.declared.view.View.TheVariants.{Crew, Kept}
use Rattle.k42_board.proofs.Dealing.{at_end}
use Rattle.k42_board.proofs.Drawers.{untold_known}
use Rattle.k42_board.proofs.OnePass.{known, apart_alone}

module _ {S L P O R : Type 0} (F : Layouts S L P O R) (declared : List L) (id : ℕ) (v : PassView P O R) where
  abbrev left : View P O R
  left = Crew (untold_view (after_first v.untold) v ∷ [])

  abbrev right : View P O R
  right = first_told v.notes v.untold

  parted : (table : State (Slot P O R) (View P O R)) → get_elem? table.views id ≡ some (Crew (v ∷ [])) → (r : Rule F declared table)
      → (after : Rule F declared (record { words = table.words; homes = table.homes; views = set table.views id left ++ right ∷ [] })) × (after.state ≡ r.state)
  parted table at r = (
    record {
      state = r.state;
      sound = r.sound;
      beside = r.beside;
      shows = record {
        many_words = r.shows.many_words;
        many_slots = r.shows.many_slots;
        few_objects = r.shows.few_objects;
        few_entries = r.shows.few_entries;
        generations = r.shows.generations;
        objects = r.shows.objects;
        cells = r.shows.cells;
      };
      parts = r.parts;
      seats = λ j view e.
          ⊎_elim
          (λ new. subst (Knows F.tag_of r.state r.beside j) new.1 (told j v.untold))
          (λ old.
          ⊎_elim
          (λ here. subst (λ (z : ℕ × View P O R). Knows F.tag_of r.state r.beside z.0 z.1) (λ i. (sym here.0 i, here.1 i)) (apart_alone (untold_view (after_first v.untold) v), own))
          (λ else. r.seats j view else.1)
          (at_set table.views id j left view old))
          (at_end (set table.views id left) right view j e);
    },
    refl,
  ) where
    told : (j : ℕ) (cells : List ℕ) → Knows F.tag_of r.state r.beside j (first_told v.notes cells)
    told j [] = tt
    told j (n ∷ cells) = tt

    own : (place : ℕ) (x : PassView P O R) → slice_get (untold_view (after_first v.untold) v ∷ []) place ≡ Some x → KnowsPass F.tag_of r.state r.beside id x
    own zero x e =
        subst (KnowsPass F.tag_of r.state r.beside id) (same_Some (untold_view (after_first v.untold) v) x e)
        (untold_known F.tag_of r.state r.beside id v (known F declared table r id v at) (after_first v.untold))
    own (suc place) x e = absurd (cc)

  pub receipt_splits : (callers : ℕ) (view : View P O R) → view ≡ Crew (v ∷ []) → Splits (Ruled F declared callers) id view (telling view) (receipt view)
  receipt_splits callers view same =
      subst (λ (z : View P O R). Splits (Ruled F declared callers) id z (telling z) (receipt z)) (sym same)
      (λ table r at. let after = parted table at r.rule in record { rule = after.0; many = ap many_callers after.1 ∙ r.many })

-- what the cell is told is whole
pub told_whole : {P O R : Type 0} (v : PassView P O R) (n : ℕ) (closed : Bool) (last : ℕ) (views : List (View P O R)) → v.untold ≡ n ∷ after_first v.untold
    → IsDue v.notes n closed last → (me : Seated P O R) → IsSeatOf me v → views ≡ receipt me.0 ∷ [] → seats.IsTold closed last views
told_whole v n closed last views first due me is e =
    let there : views ≡ Kept (record { history = history_noted v.notes n; closed = closed_noted v.notes n }) ∷ [] =
    e ∙ (λ i. receipt (is i).0 ∷ []) ∙ (λ i. first_told v.notes (first i) ∷ []) in
    subst (seats.IsTold closed last) (sym there) (record { closed = due.closed; last = due.last; small = due.small })

pub told_held : {P O R : Type 0} (v : PassView P O R) (old new : Content P O R) (closed : Bool) (last : ℕ) → v.untold ≡ old.number ∷ after_first v.untold
    → IsDue v.notes old.number closed last → (me : Seated P O R) → IsSeatOf me v → new.badge.views ≡ receipt me.0 ∷ []
    → new.number ≡ old.number → new.part ≡ old.part → IsTold v.notes old new
told_held v old new closed last first due me is e number part =
    let there : new.badge.views ≡ Kept (record { history = history_noted v.notes old.number; closed = closed_noted v.notes old.number }) ∷ [] =
    e ∙ (λ i. receipt (is i).0 ∷ []) ∙ (λ i. first_told v.notes (first i) ∷ []) in
    record {
      number = number;
      part = part;
      held = record {
        noted = ap (names (cells_noted v.notes)) number ∙ due.noted;
        history = ap (λ views. (told_by views).history) there ∙ ap (history_noted v.notes) (sym number);
        closed = ap (λ views. (told_by views).closed) there ∙ ap (closed_noted v.notes) (sym number);
      };
    }

pub none_told : {P O R : Type 0} (notes : List (Note P O R)) (now : List (Content P O R)) → now ≡ [] → AreTold notes [] now
none_told notes now e = subst (AreTold notes []) (sym e) (refl, λ i x y at at'. absurd (cc))

pub more_told : {P O R : Type 0} (notes : List (Note P O R)) (x y : Content P O R) (xs ys : List (Content P O R)) → IsTold notes x y → AreTold notes xs ys → AreTold notes (x ∷ xs) (y ∷ ys)
more_told {O} {R} notes x y xs ys one more = (ap suc more.0, pairs) where
  pairs : (i : ℕ) (a b : Content _ O R) → slice_get (x ∷ xs) i ≡ Some a → slice_get (y ∷ ys) i ≡ Some b → IsTold notes a b
  pairs zero a b e f = subst (λ (z : Content _ O R × Content _ O R). IsTold notes z.0 z.1) (λ i. (same_Some x a e i, same_Some y b f i)) one
  pairs (suc i) a b e f = more.1 i a b e f

-- a list that was written back in the place of another one
pub told_back : {P O R : Type 0} (notes : List (Note P O R)) (xs ys : List (Content P O R)) (n : ℕ) → n ≡ length xs → AreTold notes xs ys → AreTold notes xs (take n (ys ++ drop (length ys) xs))
told_back notes xs ys n long told =
    subst (AreTold notes xs) (sym (ap (λ m. take m (ys ++ drop (length ys) xs)) (long ∙ sym told.0) ∙ take-append_seam ys (drop (length ys) xs))) told
