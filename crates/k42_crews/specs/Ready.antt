-- Passes between two of their calls.
use Rattle.std.specs.Prelude.{◌≡◌, ℕ, ⊤, List, [], ◌∷◌, length, map}
use Rattle.std.specs.List.{range_with_len}
use Rattle.k42_board.specs.declared.keep.Keep.TheVariants.{Sections}
use Rattle.k42_rule.specs.Sections.{AreEven}
use Rattle.k42_board.specs.Seen.{PassSeen}
use Rattle.k42_runtime.specs.Systems.{SystemSeen, IsPassHere, IsAtRest, IsAtWork}

-- the pass is one of the system, and has nothing under way
pub record IsFree {L P O R : Type 0} (system : SystemSeen L) (pass : PassSeen P O R) : Type 0 where
  pub here : IsPassHere system pass
  pub rests : IsAtRest pass.view

-- so are all of them
abbrev pub AreFree : {L P O R : Type 0} → SystemSeen L → List (PassSeen P O R) → Type 0
AreFree system [] = ⊤
AreFree system (pass ∷ passes) = IsFree system pass × AreFree system passes

-- the pass is one of the system, and is in an activity and nothing else
pub record IsIn {L P O R : Type 0} (system : SystemSeen L) (pass : PassSeen P O R) : Type 0 where
  pub here : IsPassHere system pass
  pub works : IsAtWork pass.view

-- it is free, that of the same caller, and has given nothing more to a section
pub record StaysFree {L P O R : Type 0} (system : SystemSeen L) (old new : PassSeen P O R) : Type 0 where
  pub free : IsFree system new
  pub caller : new.view.number ≡ old.view.number
  pub keep : new.keep ≡ old.keep

-- whose passes they are
abbrev pub callers_of : {P O R : Type 0} → List (PassSeen P O R) → List ℕ
callers_of passes = map (λ pass. pass.view.number) passes

-- they are those of all callers of the system, in order
abbrev pub AreAll : {L P O R : Type 0} → SystemSeen L → List (PassSeen P O R) → Type 0
AreAll system passes = callers_of passes ≡ range_with_len 0 (length system.plan.callers)

-- they are all, of a system that keeps sections, and the last section was one of them all
pub record MayGive {L P O R : Type 0} (system : SystemSeen L) (passes : List (PassSeen P O R)) : Type 0 where
  pub all : AreAll system passes
  pub keeps : system.plan.keep ≡ Sections
  pub even : AreEven passes
