-- Seats are gathered one pass after the other, and slots emptied one after the other.
use Rattle.std.proofs.Common.{◌≡◌, ◌≢◌, ℕ, zero, suc, ◌+◌, ◌<◌, Bool, false, List, [], ◌∷◌, ◌++◌, get_or, set, sym, refl, ap, ◌∙◌, subst, ⊎_elim, arith, append_assoc, get_or-set_other}
use Rattle.std.specs.Slots.Ownership.{Filled}
use Rattle.std.proofs.lemmas.Bool.{cases_eq}
use Rattle.atomic_table.specs.Seated.{TableId}
use Rattle.atomic_table.specs.Table.{Joins}
use Rattle.atomic_table.specs.declared.shared.Seat.{Seat}
use Rattle.k42_stamp.specs.Layouts.{Layouts}
use Rattle.k42_board.specs.Cells.{Slot}
use Rattle.k42_board.specs.Dealing.{crew_in, IsCrew, both_crews}
use Rattle.k42_rule.specs.Finishing.{views_of, IsGathering}
use Rattle.k42_board.specs.Rule.{Ruled}
use Rattle.k42_board.specs.Seen.{PassSeen, IsSeatOf}
use Rattle.k42_board.specs.Steps.{Seated}
use Rattle.k42_board.specs.Views.{pass_in}
use Rattle.k42_board.specs.declared.view.PassView.{PassView}
use Rattle.k42_board.specs.declared.view.View.{View}
use Rattle.k42_board.specs.declared.view.View.TheVariants.{Crew, Spent}
use Rattle.k42_rule.proofs.Joining.{joins}

-- the seat of a crew may take in that of a pass
pub joins_pass : {S L P O R : Type 0} (F : Layouts S L P O R) (declared : List L) (callers id other : ℕ) (me own : Seated P O R) → IsCrew me → IsSeatOf own (pass_in own.0)
    → Joins (Ruled F declared callers) id me.0 other own.0 (both_crews me.0 own.0) Spent
joins_pass {S} {L} {P} {O} {R} F declared callers id other me own crew seat =
    subst (λ (z : Seated P O R × Seated P O R). Joins (Ruled F declared callers) id z.0.0 other z.1.0 (both_crews z.0.0 z.1.0) Spent)
    (λ i. (sym crew i, sym seat i)) (joins F declared callers id other (crew_in me.0) (pass_in own.0 ∷ []))

module _ {P O R : Type 0} (table : TableId) (first seat seat' : Seat (Slot P O R) (View P O R)) (all rest : List (PassSeen P O R))
    (pass : PassSeen P O R) (own : Seated P O R) (own_is : IsSeatOf own (pass_in own.0)) (same : pass_in own.0 ≡ pass.view)
    (h : IsGathering table first seat all (pass ∷ rest)) where
  own_crew : crew_in own.0 ≡ pass.view ∷ []
  own_crew = ap (λ (m : Seated P O R). crew_in m.0) own_is ∙ ap (λ (v : PassView P O R). v ∷ []) same

  pub gathers_more : (seat'.table_id ≡ seat.table_id) × (seat'.id ≡ seat.id) × (seat'.me ≡ (both_crews seat.me.0 own.0, seat.me.1))
      → IsGathering table first seat' all rest
  gathers_more is = record {
    ours = is.0 ∙ h.ours;
    same = is.1 ∙ h.same;
    crew = subst IsCrew (sym now) refl;
    views =
        ap (λ (m : Seated P O R). crew_in m.0 ++ views_of rest) now
        ∙ append_assoc (crew_in seat.me.0) (pass.view ∷ []) (views_of rest) ∙ h.views;
    theirs = λ c other e. h.theirs (suc c) other e;
  } where
    now : seat'.me ≡ (Crew (crew_in seat.me.0 ++ pass.view ∷ []), [])
    now =
        is.2
        ∙ (let none = ap (λ (m : Seated P O R). m.1) h.crew in λ i. (Crew (crew_in seat.me.0 ++ own_crew i), none i))

cleared : (fs : List Bool) (i : ℕ) → get_or (set fs i false) i false ≡ false
cleared [] i = refl
cleared (x ∷ xs) zero = refl
cleared (x ∷ xs) (suc i) = cleared xs i

pub one_more_empty : (old new : List Bool) (i many many' : ℕ) → new ≡ set old i false → many' ≡ many
    → Filled old i many × ((k : ℕ) → k < i → get_or old k false ≡ false)
    → Filled new (i + 1) many' × ((k : ℕ) → k < i + 1 → get_or new k false ≡ false)
one_more_empty old new i many many' is same before = (
  (λ k low high. ap (λ fs. get_or fs k false) is ∙ get_or-set_other old i k false false (λ e. omega (arith, low, e)) ∙ before.0 k (omega (arith, low)) (omega (arith, high, same))),
  λ k low.
      ap (λ fs. get_or fs k false) is
      ∙ ⊎_elim
      (λ (here : k ≡ i). ap (λ n. get_or (set old i false) n false) here ∙ cleared old i)
      (λ (not : k ≢ i). get_or-set_other old i k false false not ∙ before.1 k (omega (arith, low, not)))
      (cases_eq k i),
)
