-- A grace that is stepped again and again.
use Rattle.std.proofs.Common.{◌≡◌, ℕ, ◌+◌, true, List, [], ◌∷◌, Option, Some, None, refl, sym, ap, ◌∙◌, subst, arith}
use Rattle.gen_core.specs.Events.{is_looking}
use Rattle.k42_stamp.specs.Layouts.{Layouts}
use Rattle.k42_board.specs.Gracing.{MayTakeRole}
use Rattle.k42_board.specs.Log.{logs, step_at}
use Rattle.k42_board.specs.Protocol.{take_role}
use Rattle.k42_board.specs.Stepping.{Takes}
use Rattle.k42_board.specs.Words.{role_word}
use Rattle.k42_board.specs.declared.view.PassView.{PassView}
use Rattle.k42_board.specs.declared.view.StepName.TheVariants as steps
use Rattle.k42_quiesce.specs.Gracing.{MayStep, with_role, has_role, GoesOn, IsLeft, TakesRole, HasGraced, refused_by}
use Rattle.k42_quiesce.specs.declared.steps.GraceStep.{GraceStep}
use Rattle.k42_quiesce.specs.declared.steps.GraceStep.TheVariants.{Again, Quiet}
use Rattle.k42_quiesce.specs.declared.steps.Held.TheVariants.{Left, RoleHeld}
use Rattle.k42_quiesce.proofs.GoingOn.{goes_through, not_taken}
use Rattle.k42_quiesce.proofs.PastFlips.{looks_not_quiet}

module _ {S L P O R : Type 0} (F : Layouts S L P O R) (declared : List L) (id : ℕ) (first : PassView P O R) where
  -- since the first try it has only tried, or it has taken the role
  abbrev pub Tried : Option ℕ → PassView P O R → Type 0
  Tried None w = (holders : List ℕ) × (w ≡ refused_by holders first)
  Tried (Some holder) w = HasGraced F declared id first w

  pub record IsTried (w : PassView P O R) (grace : Option ℕ) : Type 0 where
    pub may : MayStep grace w
    pub tried : Tried grace w

  pub untried : (grace : Option ℕ) → grace ≡ None → MayTakeRole first → IsTried first grace
  untried grace none may = subst (IsTried first) (sym none) (record { may = may; tried = ([], refl) })

  -- with the pass on the same seat
  module _ (here : ℕ) (seat : here ≡ id) (v w : PassView P O R) where
    pub goes_from : (grace : Option ℕ) → IsTried v grace → (grace ≡ None → TakesRole F declared here v) → GoesOn (with_role grace v) w
        → HasGraced F declared id first w
    goes_from None is takes goes = record {
      holders = is.tried.0;
      takes = subst (λ i. TakesRole F declared i (refused_by is.tried.0 first)) seat (subst (TakesRole F declared here) is.tried.1 (takes refl));
      goes = subst (λ (u : PassView P O R). GoesOn (with_role None u) w) is.tried.1 goes;
    }
    goes_from (Some holder) is takes goes = record {
      holders = is.tried.holders;
      takes = is.tried.takes;
      goes = goes_through (with_role None (refused_by is.tried.holders first)) v w is.tried.goes (looks_not_quiet v.turn.grace is.may.looking) goes;
    }

    pub again : (grace next : Option ℕ) (answer : GraceStep) → IsTried v grace
        → (answer ≡ Quiet → ⊥)
        → ((proc left : ℕ) → answer ≡ Again (Left proc left) → IsLeft proc left v w)
        → ((holder : ℕ) → answer ≡ Again (RoleHeld holder) → Takes F declared take_role here v (holder + 1) w × (grace ≡ None) × (next ≡ None))
        → (has_role answer ≡ true → GoesOn (with_role grace v) w × (next ≡ Some w.number))
        → (grace ≡ None → has_role answer ≡ true → TakesRole F declared here v)
        → IsTried w next
    again grace next Quiet is not left held goes takes = absurd (not refl)
    again grace next (Again (Left proc n)) is not left held goes takes =
        subst (IsTried w) (sym (goes refl).1)
        (record {
          may = record { own = refl; looking = ap is_looking (left proc n refl).at };
          tried = goes_from grace is (λ none. takes none refl) (goes refl).0;
        })
    again grace next (Again (RoleHeld holder)) is not left held goes takes =
        let told = held holder refl in
        let may : MayTakeRole v = subst (λ g. MayStep g v) told.1 is.may in
        let tried = subst (λ g. Tried g v) told.1 is.tried in
        let knows = not_taken v w (holder + 1) told.0.knows (omega arith) in
        subst (IsTried w) (sym told.2)
        (record {
          may = subst MayTakeRole (sym knows) (record { free = may.free; swap = may.swap; few = may.few });
          tried = (holder ∷ tried.0, knows ∙ ap (λ (u : PassView P O R). logs (step_at steps.TakeRole role_word (holder + 1)) u) tried.1);
        })
