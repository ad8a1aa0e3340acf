-- One pass moved: what a step of one seat owes to the rule.
use Rattle.std.proofs.Common.{◌≡◌, ◌≢◌, ℕ, zero, suc, ◌<◌, true, List, [], ◌∷◌, Some, length, set, sym, refl, ap, ◌∙◌, subst, ⊎_elim}
use Rattle.std.specs.List.{slice_get}
use Rattle.std.proofs.lemmas.Option.{same_Some}
use mathlib.Core.Option.{some}
use mathlib.Core.Option as maybe
use lib.ListN.{get_elem?}
use Rattle.atomic_table.specs.Table.{State}
use Rattle.atomic_table.proofs.Lists.{at_set}
use Rattle.turn_core.specs.Events.{is_known}
use Rattle.k42_stamp.specs.Layouts.{Layouts}
use Rattle.k42_joined.specs.Plain.{Joined}
use Rattle.k42_joined.specs.Sound.{IsSound}
use Rattle.k42_board.specs.Cells.{Slot}
use Rattle.k42_board.specs.Parts.{IsPart}
use Rattle.k42_board.specs.Phases.{IsOld}
use Rattle.k42_board.specs.Rule.{Beside, AreApart, KnowsPass, Knows, Shows, Rule}
use Rattle.k42_board.specs.declared.view.PassView.{PassView}
use Rattle.k42_board.specs.declared.view.Row.{Row}
use Rattle.k42_board.specs.declared.view.View.{View}
use Rattle.k42_board.specs.declared.view.View.TheVariants.{Crew, Kept, Named, Drew, Spent}

-- a table whose words and slots are others, and where the seat has another pass
abbrev pub with_pass :
    {P O R : Type 0} → State (Slot P O R) (View P O R) → List ℕ → List (maybe.Option (Slot P O R)) → ℕ → PassView P O R
    → State (Slot P O R) (View P O R)
with_pass table words homes id w =
    record { words = words; homes = homes; views = set table.views id (Crew (w ∷ [])) }

pub apart_alone : {P O R : Type 0} (w : PassView P O R) → AreApart (w ∷ [])
apart_alone w zero zero v x e f same = refl
apart_alone w zero (suc j) v x e f same = absurd (cc)
apart_alone w (suc i) j v x e f same = absurd (cc)

module _ {S L P O R : Type 0} (F : Layouts S L P O R) (declared : List L)
    (table : State (Slot P O R) (View P O R)) (r : Rule F declared table) (id : ℕ) (v : PassView P O R)
    (at : get_elem? table.views id ≡ some (Crew (v ∷ []))) where
  pub known : KnowsPass F.tag_of r.state r.beside id v
  known = (r.seats id (Crew (v ∷ [])) at).1 0 v refl

  -- what the seats other than this one know stays
  pub record LeavesOthers (t : Joined L O R) (beside : Beside P) : Type 0 where
    pub passes :
        (j : ℕ) (x : PassView P O R) → x.number ≢ v.number → KnowsPass F.tag_of r.state r.beside j x
        → KnowsPass F.tag_of t beside j x
    -- and what is named keeps its name
    pub named :
        (j : ℕ) (row : Row) → j ≢ id → IsOld r.state.phases row → r.beside.row_seat row ≡ j
        → IsOld t.phases row × (beside.row_seat row ≡ j)
    -- and what was drawn stays known
    pub drawn : (stamp : ℕ) → is_known r.state.turns stamp ≡ true → is_known t.turns stamp ≡ true

  module _ (t : Joined L O R) (beside : Beside P) (words : List ℕ) (homes : List (maybe.Option (Slot P O R)))
      (w : PassView P O R) (leaves : LeavesOthers t beside) where
    other : (j : ℕ) (view : View P O R) → j ≢ id → Knows F.tag_of r.state r.beside j view → Knows F.tag_of t beside j view
    other j (Crew passes) not knows = (
      knows.0,
      λ place x here.
          let k = knows.1 place x here in
          leaves.passes j x (λ e. not (sym k.seat ∙ ap r.beside.seat e ∙ known.seat)) k,
    )
    other j (Kept told) not knows = tt
    other j (Named row) not knows = leaves.named j row not knows.0 knows.1
    other j (Drew stamp) not knows = leaves.drawn stamp knows
    other j Spent not knows = tt

    own : KnowsPass F.tag_of t beside id w → (place : ℕ) (x : PassView P O R) → slice_get (w ∷ []) place ≡ Some x
        → KnowsPass F.tag_of t beside id x
    own mine zero x e = subst (KnowsPass F.tag_of t beside id) (same_Some w x e) mine
    own mine (suc place) x e = absurd (cc)

    pub moved : IsSound F declared t → Shows t beside (with_pass table words homes id w)
        → ((n : ℕ) → n < length t.turns.cells → IsPart F declared t n (beside.contents.part n))
        → KnowsPass F.tag_of t beside id w
        → (after : Rule F declared (with_pass table words homes id w)) × (after.state ≡ t)
    moved sound shows parts mine = (
      record {
        state = t;
        sound = sound;
        beside = beside;
        shows = shows;
        parts = parts;
        seats = λ j view e.
            ⊎_elim
            (λ here.
            subst (λ (z : ℕ × View P O R). Knows F.tag_of t beside z.0 z.1) (λ i. (sym here.0 i, here.1 i)) (apart_alone w, own mine))
            (λ old. other j view old.0 (r.seats j view old.1))
            (at_set table.views id j (Crew (w ∷ [])) view e);
      },
      refl,
    )
