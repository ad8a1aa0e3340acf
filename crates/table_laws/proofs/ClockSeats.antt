-- Seats that tell of a clock: split off, and taken in.
use Rattle.std.proofs.Common.{ℕ, List, [], ◌∷◌, ◌++◌, set}
use Rattle.turn_core.specs.declared.event.TurnEvent.TheVariants.{Skip}
use Rattle.k42_stamp.specs.Laws.{AreLaws}
use Rattle.k42_stamp.specs.Layouts.{Layouts}
use Rattle.k42_joined.specs.Event.{AtCells}
use Rattle.k42_board.specs.Rule.{Knows}
use Rattle.k42_board.specs.Skipping.{skipped_view}
use Rattle.k42_board.specs.declared.view.PassView.{PassView}
use Rattle.k42_board.specs.declared.view.View.TheVariants.{Crew, Drew}
use Rattle.k42_board.proofs.Skips.{clock_known, skip_shown}
use Rattle.table_laws.specs.Seating.{JoinIs, SplitStays}
use Rattle.table_laws.proofs.Views.{each_after_split}
use Rattle.table_laws.proofs.Seated.{still}

module _ {S L P O R : Type 0} (F : Layouts S L P O R) (declared : List L) (id : ℕ) (v : PassView P O R) where
  pub clock_told_off : SplitStays F declared id (Crew (v ∷ [])) (Crew (v ∷ [])) (Drew v.taker.clock)
  clock_told_off table r at =
      still F declared table r r.beside.seat r.beside.row_seat (set table.views id (Crew (v ∷ [])) ++ Drew v.taker.clock ∷ [])
      (each_after_split (Knows F.tag_of r.state r.beside) table.views id (Crew (v ∷ [])) (Drew v.taker.clock) (r.seats id (Crew (v ∷ [])) at)
      (clock_known F declared 0 id v table r at) (λ j view not e. r.seats j view e))

  pub clock_taken_in : AreLaws F → (other stamp : ℕ) → JoinIs F declared (AtCells (Skip v.number stamp)) id (Crew (v ∷ [])) other (Drew stamp) (Crew (skipped_view stamp v ∷ []))
  clock_taken_in laws other stamp table r at apart there =
      let shown = skip_shown F laws declared 0 id other stamp v table r at there in record { possible = shown.2; after = shown.0; state = shown.1 }
