-- Asking for the generation of the processors is allowed to a pass that is about to flip the first.
use Rattle.std.proofs.Common.{◌≡◌, ◌≢◌, ℕ, false, ltb, List, [], ◌∷◌, Some, get_or, set, sym, refl, ap, ◌∙◌, subst, arith, le_refl}
use Rattle.std.specs.List.{slice_get}
use Rattle.std.proofs.lemmas.Bool.{le-ltb}
use Rattle.std.proofs.lemmas.Option.{slice_get-get_or, same_Some}
use mathlib.Core.Option.{some}
use lib.ListN.{get_elem?}
use Rattle.atomic_table.specs.Table.{State}
use Rattle.gen_core.specs.Sound.{generation_of, is_flipped}
use Rattle.gen_core.specs.State.{proc_at, fresh_proc}
use Rattle.gen_core.specs.declared.state.GenProc.{GenProc}
use Rattle.gen_core.specs.declared.state.GraceAt.{GraceAt}
use Rattle.gen_core.specs.declared.state.GraceAt.TheVariants.{Idle}
use Rattle.gen_core.proofs.Ranges.{next_fits}
use Rattle.k42_stamp.specs.Layouts.{Layouts}
use Rattle.k42_board.specs.Cells.{Slot}
use Rattle.k42_board.specs.Gracing.{MayAskGeneration, asked_view, GenerationFound}
use Rattle.k42_board.specs.Log.{took}
use Rattle.k42_board.specs.Rule.{Rule}
use Rattle.k42_board.specs.Values.{generation_in}
use Rattle.k42_board.specs.Words.{generation_word}
use Rattle.k42_board.specs.declared.view.PassView.{PassView}
use Rattle.k42_board.specs.declared.view.StepName.TheVariants as steps
use Rattle.k42_board.specs.declared.view.View.{View}
use Rattle.k42_board.specs.declared.view.View.TheVariants.{Crew}
use Rattle.k42_board.proofs.Holding.{s, knows, sound, there, turn, procs_some, in_step}
use Rattle.k42_board.proofs.Logged.{logged_stays_at}
use Rattle.k42_board.proofs.Moves.{Stays, Finds}
use Rattle.k42_board.proofs.OnePass.{with_pass}
use Rattle.k42_board.proofs.Turning.{own_goes, rows_kept, same_swap, stayed}

module _ {S L P O R : Type 0} (F : Layouts S L P O R) (declared : List L)
    (table : State (Slot P O R) (View P O R)) (r : Rule F declared table) (id : ℕ) (v : PassView P O R)
    (at : get_elem? table.views id ≡ some (Crew (v ∷ []))) (may : MayAskGeneration v) where
  abbrev k : GenProc
  k = proc_at (s F declared table r id v at) 0

  abbrev found : ℕ
  found = get_or table.words (generation_word 0) 0

  at_first : slice_get (s F declared table r id v at).procs 0 ≡ Some k
  at_first = slice_get-get_or (s F declared table r id v at).procs 0 fresh_proc (procs_some F declared table r id v at)

  asked : generation_in found ≡ k.generation
  asked =
      let is = (r.shows.generations.procs 0 k at_first).generation in
      let fits = r.sound.phases.in_scene.in_course.no_generation_passes_its_field 0 k at_first in
      omega (arith, is, fits)

  asked_base : (b : ℕ) → Some (generation_in found) ≡ Some b → (p : ℕ) (l : GenProc) → slice_get (s F declared table r id v at).procs p ≡ Some l
      → l.generation ≡ generation_of b (is_flipped v.turn.grace p)
  asked_base b is p l e =
      let busy : v.turn.grace ≢ Idle = λ idle. absurd (let grace = may in cc) in
      let first = in_step F declared table r id v at busy 0 k at_first in
      let here = in_step F declared table r id v at busy p l e in
      let base : ℕ = (sound F declared table r id v at).course.base in
      let at_first_flip = λ (q : ℕ). ap (λ (grace : GraceAt). generation_of base (is_flipped grace q)) may in
      let same : base ≡ b = sym (first ∙ at_first_flip 0) ∙ sym asked ∙ same_Some (generation_in found) b is in
      let none : ltb p 0 ≡ false = le-ltb p 0 (omega arith) in
      here ∙ at_first_flip p ∙ ap (generation_of base) none ∙ same ∙ ap (generation_of b) (sym none) ∙ ap (λ (grace : GraceAt). generation_of b (is_flipped grace p)) (sym may)

  pub asks : (after : Rule F declared (with_pass table (set table.words (generation_word 0) found) table.homes id (asked_view found v)))
      × (after.state ≡ r.state)
  asks =
      let old = knows F declared table r id v at in
      stayed F declared table r id v at (generation_word 0) (asked_view found v)
      (own_goes r.state r.state.phases.turns r.state.phases.callers v v.turn v.visitor v.graces (Some (generation_in found)) v.rows v.granted
      F.tag_of r.beside r.beside.counts id old
      (record {
        many = refl;
        rises = λ p. le_refl (proc_at r.state.phases.turns p).generation;
        generations = record {
          turn = old.generations.turn;
          graces = old.generations.graces;
          base = λ b e busy p l here. asked_base b e p l here;
        };
        visitor_is = old.phases.visitor;
        place = refl;
        swap = same_swap v.visitor.swap;
        proc = refl;
        names = old.names;
        rows_known =
            rows_kept r.state r.state.phases.turns [] v v.turn v.visitor v.graces (Some (generation_in found)) v.rows v.granted
            refl refl refl refl old.phases.rows;
      }))

  pub generation_found : GenerationFound v found
  generation_found =
      let grace = ap (λ z. z.grace) (turn F declared table r id v at) ∙ may in
      let fits = next_fits (s F declared table r id v at) v.number (sound F declared table r id v at) (there F declared table r id v at) 0 grace in
      let is = asked in omega (arith, fits, is)

pub ask_stays : {S L P O R : Type 0} (F : Layouts S L P O R) (declared : List L) (id i : ℕ) (v : PassView P O R) → MayAskGeneration v → i ≡ generation_word 0
    → Stays F declared i (λ word. word) (λ found v. took steps.AskGeneration i found (asked_view found v)) id v
ask_stays {S} {L} {P} F declared id i v may same = logged_stays_at steps.AskGeneration (λ n. n) (λ found o before is. is) same goes where
  goes : Stays F declared (generation_word 0) (λ word. word) asked_view id v
  goes = record { from = λ table r at. asks F declared table r id v at may }

pub ask_finds : {S L P O R : Type 0} (F : Layouts S L P O R) (declared : List L) (id i : ℕ) (v : PassView P O R) → MayAskGeneration v → i ≡ generation_word 0
    → Finds F declared i GenerationFound id v
ask_finds F declared id i v may same table r at =
    subst (λ (j : ℕ). GenerationFound v (get_or table.words j 0)) (sym same) (generation_found F declared table r id v at may)
