-- The state as contracts see it: the fields of the code, with plain lists.
use Rattle.std.specs.Prelude.{ℕ, Bool, List, Option}
use Rattle.k42_shapes.specs.declared.shape.Shape.{Shape}
use Rattle.gen_core.specs.Plain.{Generations}
use Rattle.phase_core.specs.declared.caller.Place.{Place}
use Rattle.phase_core.specs.declared.caller.SwapAt.{SwapAt}
use Rattle.phase_core.specs.declared.object.LocalEntry.{LocalEntry}

-- what an object starts with: the shapes of its live layouts, and one of its layouts
pub record ObjectPlan : Type 0 where
  pub shapes : List Shape
  pub layout : ℕ

pub record Object : Type 0 where
  -- those of its live layouts; they stay
  pub shapes : List Shape
  pub count : ℕ
  pub swap : Bool
  pub block : Bool
  pub moving : Bool
  pub complete : Bool
  pub layout : ℕ
  pub incarnation : ℕ
  pub entries : List LocalEntry
  pub freed : ℕ

-- the phases of one caller; its rows are pairs of an object and an incarnation
pub record Visitor : Type 0 where
  pub place : Place
  pub read : List (ℕ × ℕ)
  pub noted : List (Option ℕ)
  pub freeing : List (ℕ × ℕ)
  pub swap : SwapAt

pub record Phases : Type 0 where
  pub turns : Generations
  pub objects : List Object
  pub callers : List Visitor
