-- A call that seeks its row: whether it is there, or what has held it up.
use Rattle.std.proofs.Common.{◌≡◌, ℕ, ◌+◌, ◌<◌, Bool, true, false, cond, eqb, List, [], ◌∷◌, ◌++◌, Some, None, Result, Ok, Err, refl, sym, ap, ◌∙◌, subst}
use Rattle.std.specs.Prelude.{is_some, OnErr}
use Rattle.k42_shapes.proofs.ShapeLaws.{cell_few}
use Rattle.k42_shapes.specs.Shapes.{shape_at}
use Rattle.phase_core.specs.Effects.{knocked}
use Rattle.phase_core.specs.Stages.{is_out, object_of, row_of}
use Rattle.phase_core.specs.State.{empty_entry}
use Rattle.k42_stamp.specs.Layouts.{Layouts}
use Rattle.k42_board.specs.Log.{Extends, EndsWith, step_at, steps_through, took}
use Rattle.k42_board.specs.Phases.{is_served}
use Rattle.k42_board.specs.Tabling.{direct_view, ended_view, layout_learned, rooted_view}
use Rattle.k42_board.specs.Values.{has_bit, incarnation_in, layout_in, local_value}
use Rattle.k42_board.specs.Views.{shapes_at}
use Rattle.k42_board.specs.Words.{local_word, lock_word, object_word}
use Rattle.k42_board.specs.declared.view.PassView.{PassView}
use Rattle.k42_board.specs.declared.view.StepName.TheVariants as steps
use Rattle.k42_board.specs.declared.view.Taken.{Taken}
use Rattle.k42_board.proofs.Gained.{extends_one, extends_as, meets_one, meets_on, meets_then, meets_as}
use Rattle.k42_mediator.specs.Knocks.{GoesThrough, IsKnock}
use Rattle.k42_mediator.specs.declared.answers.Knocked.TheVariants.{Admitted, Blocked}
use Rattle.k42_tables.specs.Entries.{EndsAt, IfFilled, IfHeld}
use Rattle.k42_tables.specs.Missing.{place_named, tried_cell, tried_view, HasFilled, HasFoundHeld, HasGivenUp}
use Rattle.k42_tables.specs.declared.answers.Filled as filleds
use Rattle.k42_tables.specs.declared.answers.Filled.TheVariants.{Installed, Elsewhere}
use Rattle.k42_tables.specs.declared.answers.Tried as tries
use Rattle.k42_tables.specs.declared.answers.Tried.TheVariants as tried
use Rattle.k42_runtime.specs.Calls.{WasBlocked, WasHeld}
use Rattle.k42_runtime.specs.Serving.{IsServing, GoesOut}
use Rattle.k42_runtime.proofs.CallTaken.{meets_lock}

-- what the bit of a word says by its answer
blocked_bit : (i : ℕ) (b : Bool) → Blocked ≡ cond b Blocked (Admitted i) → b ≡ true
blocked_bit i true e = refl
blocked_bit i false e = absurd (cc)

open_bit : (i j : ℕ) (b : Bool) → Admitted j ≡ cond b Blocked (Admitted i) → b ≡ false
open_bit i j true e = absurd (cc)
open_bit i j false e = refl

module _ {S L P O R : Type 0} (F : Layouts S L P O R) (declared : List L) (id o : ℕ) (old new : PassView P O R) where
  -- who was blocked is inside no call
  pub kept_out : IsKnock F declared id o old new Blocked → (is_out new.visitor.place ≡ true) × WasBlocked o old.log new.log
  kept_out is =
      let shut = blocked_bit (incarnation_in is.found) (has_bit is.found 25) is.answer_is in
      let out = subst (λ b. GoesThrough o is.found b old new) shut is.through in
      let knock = step_at steps.Knock (object_word o) is.found in let left = step_at steps.StepOut (object_word o) out.0 in (
        ap (λ (v : PassView P O R). is_out v.visitor.place) out.1,
        record {
          found = is.found;
          blocked = shut;
          met =
              meets_as (ap (λ (v : PassView P O R). v.log) out.1)
              (meets_then (meets_one knock old.log (ap (λ b. cond b (knock ∷ []) []) shut)) (extends_one left (knock ∷ old.log) refl));
        },
      )

  -- who was let in is served
  pub let_inside : (i : ℕ) → IsKnock F declared id o old new (Admitted i) → IsServing o new × Extends old.log new.log
  let_inside i is =
      let open' = open_bit (incarnation_in is.found) i (has_bit is.found 25) is.answer_is in
      let through = subst (λ b. GoesThrough o is.found b old new) open' is.through in
      let knock = step_at steps.Knock (object_word o) is.found in (
        record {
          served =
              ap (λ (v : PassView P O R). is_served v.visitor.place) through
              ∙ ap (λ b. is_served (knocked old.visitor o (incarnation_in is.found) b).place) open';
          of =
              ap (λ (v : PassView P O R). object_of v.visitor.place) through
              ∙ ap (λ b. object_of (knocked old.visitor o (incarnation_in is.found) b).place) open';
          known =
              ap (λ (v : PassView P O R). is_some v.layout) through
              ∙ ap (λ b. is_some (cond b None (Some (layout_in is.found)))) open';
        },
        extends_as (ap (λ (v : PassView P O R). v.log) through) (extends_one knock old.log (ap (λ b. cond b (knock ∷ []) []) open')),
      )

  -- the steps of a try before it installs
  abbrev steps_filling : ℕ → List Taken
  steps_filling root =
      steps_through (tried_cell o root old) true
      ++ step_at steps.Lock (lock_word (tried_cell o root old)) 0 ∷ step_at steps.LoadRoot (object_word o) root ∷ []

  -- an install that found the empty entry leads to its row
  pub led_inside : (place : ℕ) → HasFilled F declared id o old new (Installed place) → (is_served new.visitor.place ≡ true) × (object_of new.visitor.place ≡ o)
      → IsServing o new × Extends old.log new.log
  led_inside place is there = go (eqb is.found (local_value (empty_entry (row_of old.visitor.place)))) is.answered is.installed.knows where
    x : PassView P O R
    x = tried_view o is.root true old

    word : ℕ
    word = local_word old.turn.proc o

    go : (b : Bool) → Installed place ≡ cond b (Installed (place_named o (rooted_view is.root old))) (Elsewhere is.found)
        → new ≡ took steps.Install word is.found (cond b (direct_view o x) (ended_view x)) → IsServing o new × Extends old.log new.log
    go true e knows = (
      record { served = there.0; of = there.1; known = ap (λ (v : PassView P O R). is_some v.layout) knows },
      record { gained = step_at steps.Install word is.found ∷ steps_filling is.root; log = ap (λ (v : PassView P O R). v.log) knows; meets_none = refl },
    )
    go false e knows = absurd (cc)

  -- another word that it found is what has held it up
  ended_elsewhere : (word : ℕ) → HasFilled F declared id o old new (Elsewhere word) → EndsWith (step_at steps.Install (local_word old.turn.proc o) word) old.log new.log
  ended_elsewhere word is = go (eqb is.found (local_value (empty_entry (row_of old.visitor.place)))) is.answered is.installed.knows where
    x : PassView P O R
    x = tried_view o is.root true old

    at : ℕ
    at = local_word old.turn.proc o

    go : (b : Bool) → Elsewhere word ≡ cond b (Installed (place_named o (rooted_view is.root old))) (Elsewhere is.found)
        → new ≡ took steps.Install at is.found (cond b (direct_view o x) (ended_view x)) → EndsWith (step_at steps.Install at word) old.log new.log
    go true e knows = absurd (cc)
    go false e knows =
        let same : word ≡ is.found = cc in
        record {
          gained = steps_filling is.root;
          log = ap (λ (v : PassView P O R). v.log) knows ∙ ap (λ found. step_at steps.Install at found ∷ steps_filling is.root ++ old.log) (sym same);
          meets_none = refl;
        }

  pub led_elsewhere : (answer : tries.Tried) (filled : filleds.Filled) (word : ℕ) → answer ≡ tried.Filled filled → filled ≡ Elsewhere word
      → IfFilled answer (HasFilled F declared id o old new) → IfFilled answer (λ given. EndsAt given o new.visitor.place)
      → (is_out new.visitor.place ≡ true) × EndsWith (step_at steps.Install (local_word old.turn.proc o) word) old.log new.log
  led_elsewhere answer filled word is is' has ends =
      let whole : answer ≡ tried.Filled (Elsewhere word) = is ∙ ap tried.Filled is' in
      let filled : HasFilled F declared id o old new (Elsewhere word) = subst (λ a. IfFilled a (HasFilled F declared id o old new)) whole has in
      (subst (λ a. IfFilled a (λ given. EndsAt given o new.visitor.place)) whole ends, ended_elsewhere word filled)

  pub led_there : (answer : tries.Tried) (filled : filleds.Filled) (place : ℕ) → answer ≡ tried.Filled filled → filled ≡ Installed place
      → IfFilled answer (HasFilled F declared id o old new) → IfFilled answer (λ given. EndsAt given o new.visitor.place)
      → IsServing o new × Extends old.log new.log
  led_there answer filled place is is' has ends =
      let whole : answer ≡ tried.Filled (Installed place) = is ∙ ap tried.Filled is' in
      led_inside place (subst (λ a. IfFilled a (HasFilled F declared id o old new)) whole has)
      (subst (λ a. IfFilled a (λ given. EndsAt given o new.visitor.place)) whole ends)

-- so is a lock of another caller
pub found_held : {P O R : Type 0} (o : ℕ) (old new : PassView P O R) (answer : tries.Tried) (holder : ℕ) → old.turn.proc < 8 → answer ≡ tried.Held holder
    → IfHeld answer (HasFoundHeld o old new) → (is_out new.visitor.place ≡ true) × WasHeld o holder old new
found_held {O = O} {R = R} o old new answer holder there is has' =
    let has : HasFoundHeld o old new holder = subst (λ a. IfHeld a (HasFoundHeld o old new)) is has' in
    let rooted = rooted_view has.root old in let n : ℕ = tried_cell o has.root old in
    let root = step_at steps.LoadRoot (object_word o) has.root in let lock = step_at steps.Lock (lock_word n) (holder + 1) in (
      ap (λ (v : PassView _ O R). is_out v.visitor.place) has.knows,
      record {
        incarnation = row_of old.visitor.place;
        place = place_named o rooted;
        there = cell_few (shape_at (shapes_at rooted o) (layout_learned rooted)) old.turn.proc 8 there;
        another = has.another;
        caller = has.caller;
        met =
            meets_as (ap (λ (v : PassView _ O R). v.log) has.knows)
            (meets_then (meets_on (extends_one root old.log refl) (meets_lock (lock_word n) holder (root ∷ old.log)))
            (extends_one (step_at steps.EndCall (local_word old.turn.proc o) has.ended) (lock ∷ root ∷ old.log) refl));
      },
    )

-- for want of memory it has given its call up, and nothing has held it up
pub gave_way : {P O R : Type 0} (o : ℕ) (old new : PassView P O R) → HasGivenUp o old new → GoesOut old new
gave_way {O = O} {R = R} o old new is =
    let n : ℕ = tried_cell o is.root old in (
      ap (λ (v : PassView _ O R). is_out v.visitor.place) is.knows,
      record {
        gained =
            step_at steps.EndCall (local_word old.turn.proc o) is.ended ∷ steps_through n false
            ++ step_at steps.Lock (lock_word n) 0 ∷ step_at steps.LoadRoot (object_word o) is.root ∷ [];
        log = ap (λ (v : PassView _ O R). v.log) is.knows;
        meets_none = refl;
      },
    )

pub on_err : {A E X : Type 0} (result : Result A E) → X → OnErr result X
on_err (Ok value) is = tt
on_err (Err error) is = is
