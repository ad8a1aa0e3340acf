-- What a swap that is given up leaves at the word of its object.
use Rattle.std.proofs.Common.{◌≡◌, ⊎_elim, ℕ, ◌+◌, ◌*◌, ◌^◌, ◌<◌, ◌≤◌, false, eqb, List, [], ◌∷◌, length, get_or, sym, ap, ◌∙◌, subst, arith}
use Rattle.std.proofs.lemmas.Option.{slice_get-get_or}
use Rattle.std.specs.Prelude.{◌/◌, ◌%◌}
use mathlib.Core.Option.{some}
use lib.ListN.{get_elem?}
use Rattle.atomic_table.specs.Table.{State}
use Rattle.phase_core.specs.Effects.{cleared}
use Rattle.phase_core.specs.Objects.{AreClear, bits_of}
use Rattle.phase_core.specs.Plain.{Object, Phases}
use Rattle.phase_core.specs.Stages.{named_by}
use Rattle.phase_core.specs.State.{object_at, visitor_at, fresh_object}
use Rattle.phase_core.specs.declared.caller.SwapAt.{SwapAt}
use Rattle.phase_core.specs.declared.caller.SwapAt.TheVariants.{Opened}
use Rattle.phase_core.proofs.InSound.{object_known, visitor_known}
use Rattle.k42_stamp.specs.Layouts.{Layouts}
use Rattle.k42_joined.specs.Answers.{is_turned}
use Rattle.k42_board.specs.Cells.{Slot}
use Rattle.k42_board.specs.Rule.{KnowsPass, Rule}
use Rattle.k42_board.specs.Swapping.{object_swapped, clears, ClearFound, IsRestored}
use Rattle.k42_board.specs.Values.{bit, object_value, layout_in, incarnation_in}
use Rattle.k42_board.specs.Views.{word_begun}
use Rattle.k42_board.specs.Words.{object_word}
use Rattle.k42_board.specs.declared.view.PassView.{PassView}
use Rattle.k42_board.specs.declared.view.View.{View}
use Rattle.k42_board.specs.declared.view.View.TheVariants.{Crew}
use Rattle.k42_board.proofs.Fields.{Fits, object_fits, object_read, cleared_value}
use Rattle.k42_board.proofs.Moves.{Finds}
use Rattle.k42_board.proofs.OnePass.{known}

-- the word of an object without the bits of a swap
free_word : (k : Object) (word begun : ℕ) → Fits k → AreClear (bits_of k) → word ≡ object_value (cleared k)
    → layout_in begun ≡ k.layout → incarnation_in begun ≡ k.incarnation → IsRestored begun word
free_word k word begun fits clear is layout incarnation =
    let l = cleared k in
    let fits' : Fits l = record { count = fits.count; layout = fits.layout; incarnation = fits.incarnation } in
    let read = object_read l word fits' is in
    record {
      layout = read.layout ∙ sym layout;
      incarnation = read.incarnation ∙ sym incarnation;
      swap = read.swap;
      block = read.block ∙ clear.0;
      moving = ap (λ z. eqb z 1) (unmoved (is ∙ ap (λ b. k.count + 2 ^ 24 * (bit false + 2 * bit b + 4 * bit k.moving + 8 * bit false) + 2 ^ 28 * k.layout + 2 ^ 32 * k.incarnation) clear.0 ∙ ap (λ b. k.count + 2 ^ 24 * (bit false + 2 * bit false + 4 * bit b + 8 * bit false) + 2 ^ 28 * k.layout + 2 ^ 32 * k.incarnation) clear.1) fits.count);
      complete = read.complete;
    }
  where
    unmoved : word ≡ k.count + 2 ^ 24 * (0 + 2 * 0 + 4 * 0 + 8 * 0) + 2 ^ 28 * k.layout + 2 ^ 32 * k.incarnation → k.count ≤ 16 → word / 2 ^ 26 % 2 ≡ 0
    unmoved same few = omega (arith, same, few)

module _ {S L P O R : Type 0} (F : Layouts S L P O R) (declared : List L) (id : ℕ) (v : PassView P O R)
    (table : State (Slot P O R) (View P O R)) (r : Rule F declared table) (at : get_elem? table.views id ≡ some (Crew (v ∷ [])))
    (opened : v.visitor.swap ≡ Opened (object_swapped v)) (unturned : v.turned ≡ false) where
  abbrev s : Phases
  s = r.state.phases

  abbrev o : ℕ
  o = object_swapped v

  abbrev k : Object
  k = object_at s o

  knows : KnowsPass F.tag_of r.state r.beside id v
  knows = known F declared table r id v at

  own : (visitor_at s v.number).swap ≡ Opened o
  own = ap (λ x. x.swap) knows.phases.visitor ∙ opened

  there : o < length s.objects
  there = let is = (r.sound.answers v.number knows.there).kept in is.there o (is.begun o (ap named_by own))

  incomplete : k.complete ≡ false
  incomplete =
      sym (knows.phases.swap.turned ∙ ap (λ (swap : SwapAt). is_turned swap k) opened) ∙ unturned

  clear : AreClear (bits_of k)
  clear =
      let stage = ((visitor_known s r.sound.phases v.number knows.there).swap_alone.owned o (ap named_by own)).1 ∙ own in
      ⊎_elim (λ (is : AreClear (bits_of k)). is) (λ is. absurd (let done = is.0.2 in let not = incomplete in cc))
      (rw stage at (object_known s r.sound.phases o there).bits_follow.bits)

  restored : IsRestored (word_begun v.last) (clears (Opened o) (get_or table.words (object_word o) 0))
  restored =
      let fits = object_fits s r.sound.phases o there in
      free_word k (clears (Opened o) (get_or table.words (object_word o) 0)) (word_begun v.last) fits clear
      (cleared_value k (get_or table.words (object_word o) 0) fits (r.shows.objects o k (slice_get-get_or s.objects o fresh_object there)).word)
      (knows.phases.swap.layout_begun o (ap named_by opened) unturned) (knows.phases.swap.begun o (ap named_by opened) unturned)

pub clear_finds : {S L P O R : Type 0} (F : Layouts S L P O R) (declared : List L) (id : ℕ) (v : PassView P O R)
    → Finds F declared (object_word (object_swapped v)) ClearFound id v
clear_finds F declared id v table r at opened unturned =
    subst (λ (swap : SwapAt). IsRestored (word_begun v.last) (clears swap (get_or table.words (object_word (object_swapped v)) 0)))
    (sym opened) (restored F declared id v table r at opened unturned)
