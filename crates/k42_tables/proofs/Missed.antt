-- The handler of a miss, from one step to the next.
use Rattle.std.proofs.Common.{◌≡◌, ℕ, ◌<◌, Bool, true, false, not, cond, eqb, List, [], ◌∷◌, ◌++◌, Some, get_or, refl, sym, ap, ◌∙◌, subst}
use Rattle.std.specs.List.{filter}
use Rattle.std.proofs.lemmas.Bool.{eq-eqb}
use Rattle.k42_shapes.specs.declared.shape.Shape.{Shape}
use Rattle.k42_shapes.specs.Shapes.{cell_called, shape_at}
use Rattle.phase_core.specs.Effects.{root_of}
use Rattle.phase_core.specs.Stages.{row_of}
use Rattle.phase_core.specs.State.{empty_entry}
use Rattle.phase_core.specs.declared.caller.Place.TheVariants.{Direct}
use Rattle.turn_core.specs.Events.{caller_locked, caller_unlocked}
use Rattle.turn_core.specs.Plain.{Caller}
use Rattle.k42_stamp.specs.Layouts.{Layouts}
use Rattle.k42_joined.specs.Numbers.{cell_of}
use Rattle.k42_joined.specs.Swapping.{holds_none}
use Rattle.k42_board.specs.Log.{took, step_at, steps_through}
use Rattle.k42_board.specs.Protocol as protocol
use Rattle.k42_board.specs.Stepping.{Takes}
use Rattle.k42_board.specs.Steps.{Always}
use Rattle.k42_board.specs.Tabling.{RootFound, rooted_view, installed_view}
use Rattle.k42_board.specs.Taking.{locked_view}
use Rattle.k42_board.specs.Values.{layout_in, incarnation_in, local_value}
use Rattle.k42_board.specs.Views.{shapes_at}
use Rattle.k42_board.specs.Words.{local_word, lock_word, object_word}
use Rattle.k42_board.specs.declared.view.PassView.{PassView}
use Rattle.k42_board.specs.declared.view.StepName.TheVariants as steps
use Rattle.k42_tables.specs.Entries.{IfInstalled}
use Rattle.k42_tables.specs.Filling.{handled_view}
use Rattle.k42_tables.specs.Missing.{place_named, tried_cell, tried_view, filled_in, HasFilled}
use Rattle.k42_tables.specs.Serving.{IsServed}
use Rattle.k42_tables.specs.declared.answers.Filled.{Filled}
use Rattle.k42_tables.specs.declared.answers.Filled.TheVariants.{Installed, Elsewhere}
use Rattle.k42_tables.proofs.ServedCells.{ArePresent, AreOpen, direct_served}

-- a lock that was taken and left again
locked_back : {O R : Type 0} (x : Caller O R) (n : ℕ) → holds_none x.held ≡ true → caller_unlocked n (caller_locked n x) ≡ x
locked_back x n none = go x.held refl none where
  go : (held : List ℕ) → x.held ≡ held → holds_none held ≡ true → caller_unlocked n (caller_locked n x) ≡ x
  go [] is free =
      let same = eq-eqb n n refl in
      let left : filter (λ m. not (eqb m n)) (n ∷ []) ≡ [] = rw same refl in
      ap (λ h. record x { held = filter (λ m. not (eqb m n)) (h ++ n ∷ []) }) is ∙ (λ k. record x { held = (left ∙ sym is) k })
  go (m ∷ held) is free = absurd (cc)

-- a try that has left its cell again: of which row and at which place the cell is, and what the pass knows
pub record IsTried {P O R : Type 0} (o root row place : ℕ) (v x : PassView P O R) : Type 0 where
  pub facts : RootFound o v root
  pub row_is : row ≡ row_of v.visitor.place
  pub place_is : place ≡ place_named o (rooted_view root v)
  pub view : x ≡ tried_view o root true v

pub tried_at : {P O R : Type 0} (o root row home place n holder : ℕ) (shape : Shape) (v u w x : PassView P O R) → RootFound o v root
    → u ≡ took steps.LoadRoot (object_word o) root (rooted_view root v)
    → row ≡ incarnation_in root → shape ≡ shape_at (shapes_at v o) (layout_in root) → home ≡ u.turn.proc → place ≡ cell_called shape home → n ≡ cell_of o row place
    → w ≡ took steps.Lock (lock_word n) holder (locked_view n holder u) → holder ≡ 0 → holds_none v.taker.held ≡ true → x ≡ handled_view n true w
    → IsTried o root row place v x
tried_at {O} {R} o root row home place n holder shape v u w x facts rooted row_is shape_is home_is place_is cell_is locked none free handled =
    let row_there : row ≡ row_of v.visitor.place = row_is ∙ facts.row in
    let home_there : home ≡ v.turn.proc = home_is ∙ ap (λ (z : PassView _ O R). z.turn.proc) rooted in
    let named : place ≡ place_named o (rooted_view root v) = place_is ∙ (λ k. cell_called (shape_is k) (home_there k)) in
    let cell : n ≡ tried_cell o root v = cell_is ∙ (λ k. cell_of o (row_there k) (named k)) in
    record {
      facts = facts;
      row_is = row_there;
      place_is = named;
      view =
          handled ∙ ap (handled_view n true) (locked ∙ (λ k. took steps.Lock (lock_word n) (none k) (locked_view n (none k) (rooted k))))
          ∙ (λ k. record v {
            taker = locked_back v.taker n free k;
            layout = Some (layout_in root);
            log = steps_through (cell k) true ++ step_at steps.Lock (lock_word (cell k)) 0 ∷ step_at steps.LoadRoot (object_word o) root ∷ v.log;
          });
    }

module _ {S L P O R : Type 0} (F : Layouts S L P O R) (declared : List L) (id o root row place : ℕ) (v x w : PassView P O R) (tried : IsTried o root row place v x) (found : ℕ) where
  pub has_filled : (seat : ℕ) → seat ≡ id → (answer : Filled) → Takes F declared (protocol.install o place) seat x found w → answer ≡ filled_in row place found
      → HasFilled F declared id o v w answer
  has_filled seat same answer takes told = record {
    root = root;
    rooted = tried.facts;
    found = found;
    installed =
        subst (λ (z : ℕ × (ℕ × PassView P O R)). Takes F declared (protocol.install o z.0) z.1.0 z.1.1 found w)
        (λ k. (tried.place_is k, (same k, tried.view k))) takes;
    answered = told ∙ (λ k. filled_in (tried.row_is k) (tried.place_is k) found);
  }

  pub installed_served : ArePresent F declared → AreOpen F declared → v.turn.proc < F.procs → w ≡ took steps.Install (local_word x.turn.proc o) found (installed_view o found x)
      → IfInstalled (filled_in row place found) (λ cell. Always F declared id w (IsServed o cell w))
  installed_served present opened home knows = go (eqb found (local_value (empty_entry row))) refl where
    u : PassView P O R
    u = tried_view o root true v

    is : w ≡ took steps.Install (local_word u.turn.proc o) found (installed_view o found u)
    is = knows ∙ ap (λ (z : PassView P O R). took steps.Install (local_word z.turn.proc o) found (installed_view o found z)) tried.view

    go : (b : Bool) → eqb found (local_value (empty_entry row)) ≡ b → IfInstalled (cond b (Installed place) (Elsewhere found)) (λ cell. Always F declared id w (IsServed o cell w))
    go false e = tt
    go true e =
        let here : eqb found (local_value (empty_entry (row_of u.visitor.place))) ≡ true = ap (λ i. eqb found (local_value (empty_entry i))) (sym tried.row_is) ∙ e in
        let direct : (installed_view o found u).visitor.place ≡ Direct o (row_of u.visitor.place) = rw here refl in
        let layout : (installed_view o found u).layout ≡ Some (layout_in root) = rw here refl in
        let same_home : (installed_view o found u).turn.proc ≡ u.turn.proc = rw here refl in
        let same_shapes : (installed_view o found u).shapes ≡ u.shapes = rw here refl in
        let told : w.shapes ≡ u.shapes = ap (λ (z : PassView P O R). z.shapes) is ∙ same_shapes in
        let stays : w.turn.proc ≡ u.turn.proc = ap (λ (z : PassView P O R). z.turn.proc) is ∙ same_home in
        direct_served F declared present opened id o (row_of u.visitor.place) (layout_in root) place w (subst (λ p. p < F.procs) (sym stays) home)
        (ap (λ (z : PassView P O R). z.visitor.place) is ∙ direct) (ap (λ (z : PassView P O R). z.layout) is ∙ layout)
        (tried.place_is ∙ (λ k. root_of (get_or (sym told k) o []) (layout_in root) (sym stays k)))
