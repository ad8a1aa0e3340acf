-- A layout of one kind, seen as one of all kinds: its states and its parts stand among those of all.
use Rattle.std.specs.Prelude.{◌≡◌, ℕ, List, map}
use Rattle.k42_kinds.specs.declared.states.AnyState.{AnyState}
use Rattle.k42_kinds.specs.Rows.{Ways}
use Rattle.co_any.specs.declared.part.AnyPart.{AnyPart}
use Rattle.k42_kinds.specs.declared.operation.Op.{Op}
use Rattle.k42_kinds.specs.declared.operation.Reply.{Reply}

-- where the states and the parts of one layout stand, and what is its own of any
pub record Standing (S P : Type 0) : Type 0 where
  pub state_of : S → AnyState
  pub own_state : AnyState → S
  pub part_of : P → AnyPart
  pub own_part : AnyPart → P

-- what the layout does with its parts, where they stand among those of all
abbrev pub lifted : {S P : Type 0} → Standing S P → Ways S P Op Reply → Ways AnyState AnyPart Op Reply
lifted standing ways = record {
  reach = ways.reach;
  empty = λ procs cell. standing.part_of (ways.empty procs cell);
  part_after = λ part op. standing.part_of (ways.part_after (standing.own_part part) op);
  part_reply = λ part op. ways.part_reply (standing.own_part part) op;
  row_after = λ parts op. map standing.part_of (ways.row_after (map standing.own_part parts) op);
  row_reply = λ parts op. ways.row_reply (map standing.own_part parts) op;
  combine = λ parts. standing.state_of (ways.combine (map standing.own_part parts));
  imported = λ procs state. map standing.part_of (ways.imported procs (standing.own_state state));
}

-- all parts are the layout's own, and are one of its whole rows
pub record LiftedWhole
    {S P : Type 0} (standing : Standing S P) (Whole : ℕ → List P → Type 0) (procs : ℕ)
    (parts : List AnyPart)
    : Type 0 where
  pub own : parts ≡ map standing.part_of (map standing.own_part parts)
  pub whole : Whole procs (map standing.own_part parts)
