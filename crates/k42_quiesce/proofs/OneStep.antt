-- What one step of a grace makes of its pass.
use Rattle.std.proofs.Common.{◌≡◌, ℕ, Bool, true, false, not, Option, Some, None, sym, ap, ◌∙◌, subst}
use Rattle.std.specs.Prelude.{is_some}
use Rattle.gen_core.specs.Events.{is_looking}
use Rattle.k42_board.specs.declared.view.PassView.{PassView}
use Rattle.k42_board.proofs.Gained.{extends_on}
use Rattle.k42_quiesce.specs.Gracing.{MayStep, with_role, GoesOn, IsLeft, IsLeftOf}
use Rattle.k42_quiesce.specs.declared.steps.Held.TheVariants.{Left}
use Rattle.k42_quiesce.proofs.GoingOn.{goes_nowhere, goes_through, role_extends, left_later}
use Rattle.k42_quiesce.proofs.PastFlips.{looks_not_quiet}

-- who has the role, as the grace is known by its holder
pub none_of : (own holder : Option ℕ) (b : Bool) → is_some own ≡ not b → b ≡ true → own ≡ holder → holder ≡ None
none_of None holder b e free same = sym same
none_of (Some c) holder b e free same = absurd (let no : not b ≡ false = ap not free in cc)

pub some_of : (own holder : Option ℕ) (b : Bool) → is_some own ≡ not b → b ≡ false → own ≡ holder → is_some holder ≡ true
some_of own holder b e held same = sym (ap is_some same) ∙ e ∙ ap not held

pub not_none : (holder : Option ℕ) → is_some holder ≡ true → holder ≡ None → ⊥
not_none None some none = absurd (cc)
not_none (Some c) some none = absurd (cc)

module _ {P : Type 0} where
  -- the pass has the role, and looks at the processors
  pub record HasRole {O R : Type 0} (holder : Option ℕ) (v w : PassView P O R) : Type 0 where
    pub goes : GoesOn (with_role holder v) w
    pub looking : is_looking w.turn.grace ≡ true

  pub role_begun : {O R : Type 0} (holder : Option ℕ) (v w : PassView P O R) → holder ≡ None → GoesOn (with_role None v) w → is_looking w.turn.grace ≡ true
      → HasRole holder v w
  role_begun holder v w none goes looking = subst (λ h. HasRole h v w) (sym none) (record { goes = goes; looking = looking })

  pub role_kept : {O R : Type 0} (holder : Option ℕ) (v : PassView P O R) → is_some holder ≡ true → MayStep holder v → HasRole holder v v
  role_kept None v some may = absurd (cc)
  role_kept (Some c) v some may = record { goes = goes_nowhere v (looks_not_quiet v.turn.grace may.looking); looking = may.looking }

  module _ {O R : Type 0} (holder : Option ℕ) (v w x : PassView P O R) (has : HasRole holder v w) where
    pub role_goes : GoesOn w x → GoesOn (with_role holder v) x
    role_goes goes = goes_through (with_role holder v) w x has.goes (looks_not_quiet w.turn.grace has.looking) goes

    pub role_left : (p left : ℕ) → IsLeftOf (Left p left) w x → IsLeft p left v x
    role_left p left is = left_later (Left p left) v w x (extends_on (role_extends holder v) has.goes.log) is
