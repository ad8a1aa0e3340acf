-- What a swap that is given up leaves.
use Rattle.std.proofs.Common.{◌≡◌, ⊎_elim, ℕ, false, List, [], ◌∷◌, refl, sym, ap, ◌∙◌, arith}
use mathlib.Core.Option.{some}
use lib.ListN.{get_elem?}
use Rattle.atomic_table.specs.Table.{State}
use Rattle.k42_shapes.specs.declared.shape.Shape.{Shape}
use Rattle.k42_places.specs.Places.{EachPlace}
use Rattle.phase_core.specs.Objects.{IsTagged}
use Rattle.phase_core.specs.Plain.{Object, Phases}
use Rattle.phase_core.specs.Stages.{named_by}
use Rattle.phase_core.specs.State.{object_at, visitor_at}
use Rattle.phase_core.specs.declared.caller.SwapAt.TheVariants.{Opened}
use Rattle.phase_core.specs.declared.object.LocalEntry.{LocalEntry}
use Rattle.phase_core.proofs.InSound.{object_known, visitor_known}
use Rattle.k42_stamp.specs.Layouts.{Layouts}
use Rattle.k42_board.specs.Cells.{Slot}
use Rattle.k42_board.specs.Rule.{KnowsPass, Rule}
use Rattle.k42_board.specs.Values.{incarnation_in}
use Rattle.k42_board.specs.Views.{word_begun}
use Rattle.k42_board.specs.declared.view.PassView.{PassView}
use Rattle.k42_board.specs.declared.view.View.{View}
use Rattle.k42_board.specs.declared.view.View.TheVariants.{Crew}
use Rattle.k42_board.proofs.OnePass.{known}
use Rattle.k42_board.proofs.Restored.{clear_finds}
use Rattle.k42_mediator.specs.Swaps.{staged, LeadsToRow, LeavesOpen}

leads_to : (shapes : List Shape) (layout p i : ℕ) (e : LocalEntry) → IsTagged shapes layout p e → e.incarnation ≡ i → LeadsToRow i e
leads_to shapes layout p i e tagged same =
    ⊎_elim (λ (is : (e.tag ≡ 0) × (e.layout ≡ 0) × (e.cell ≡ 0)). let tag = is.0 in record { incarnation = same; tag = omega (arith, tag) })
    (λ is. let tag = is.0 in record { incarnation = same; tag = omega (arith, tag) }) tagged

module _ {S L P O R : Type 0} (F : Layouts S L P O R) (declared : List L) (id o : ℕ) (w : PassView P O R) (unturned : w.turned ≡ false)
    (table : State (Slot P O R) (View P O R)) (r : Rule F declared table) (at : get_elem? table.views id ≡ some (Crew (staged (Opened o) w ∷ []))) where
  abbrev v : PassView P O R
  v = staged (Opened o) w

  abbrev s : Phases
  s = r.state.phases

  abbrev k : Object
  k = object_at s o

  knows : KnowsPass F.tag_of r.state r.beside id v
  knows = known F declared table r id v at

  own : (visitor_at s v.number).swap ≡ Opened o
  own = ap (λ x. x.swap) knows.phases.visitor

  entries : EachPlace (λ p e. LeadsToRow (incarnation_in (word_begun v.last)) e) k.entries
  entries p e is =
      let answers = (r.sound.answers v.number knows.there).kept in let there = answers.there o (answers.begun o (ap named_by own)) in
      let stage = ((visitor_known s r.sound.phases v.number knows.there).swap_alone.owned o (ap named_by own)).1 ∙ own in
      let known' = object_known s r.sound.phases o there in
      let open' = rw stage at (known'.entries_follow p e is) in
      leads_to k.shapes k.layout p (incarnation_in (word_begun v.last)) e open'.tagged
      (open'.number ∙ sym known'.bits_follow.incarnation ∙ sym (knows.phases.swap.begun o refl unturned))

pub leaves_open : {S L P O R : Type 0} (F : Layouts S L P O R) (declared : List L) (id o : ℕ) (w : PassView P O R) → w.turned ≡ false → LeavesOpen F declared id (staged (Opened o) w)
leaves_open F declared id o w unturned table r at =
    (clear_finds F declared id (staged (Opened o) w) table r at refl unturned, entries F declared id o w unturned table r at)
