-- The parts and states of one layout where they stand among others.
use Rattle.std.specs.Prelude.{◌≡◌, ℕ, List, [], ◌∷◌, map, Option, Some, None, option_map}
use Rattle.k42_kinds.specs.Rows.{Ways}

-- where the layout's own parts stand among others, and which of these are its own
pub record Side (P Q : Type 0) : Type 0 where
  pub part_of : P → Q
  pub own_part : Q → Option P

-- and the same of its states
pub record States (S T : Type 0) : Type 0 where
  pub state_of : S → T
  pub own_state : T → Option S

-- where all states are its own
abbrev pub same_states : {S : Type 0} → States S S
same_states = record { state_of = λ state. state; own_state = Some }

abbrev pub and_own : {P : Type 0} → Option P → List P → List P
and_own (Some part) parts = part ∷ parts
and_own None parts = parts

-- the parts that are the layout's own
abbrev pub own_parts : {P Q : Type 0} → Side P Q → List Q → List P
own_parts side [] = []
own_parts side (part ∷ row) = and_own (side.own_part part) (own_parts side row)

-- a part of the layout's own that was stepped, and any other as it was
abbrev pub standing_or : {P Q : Type 0} → Side P Q → Q → Option P → Q
standing_or side part (Some own) = side.part_of own
standing_or side part None = part

abbrev pub reply_or : {R : Type 0} → R → Option R → R
reply_or gone (Some reply) = reply
reply_or gone None = gone

abbrev pub made_of : {S P Q O R : Type 0} → Side P Q → Ways S P O R → ℕ → Option S → List Q
made_of side ways procs (Some state) = map side.part_of (ways.imported procs state)
made_of side ways procs None = []

-- what the layout does with its parts, where they stand among others; a part that is not its own stays, and is gone
abbrev pub lifted : {S P T Q O R : Type 0} → Side P Q → States S T → R → Ways S P O R → Ways T Q O R
lifted side states gone ways = record {
  reach = ways.reach;
  empty = λ procs cell. side.part_of (ways.empty procs cell);
  part_after = λ part op. standing_or side part (option_map (λ own. ways.part_after own op) (side.own_part part));
  part_reply = λ part op. reply_or gone (option_map (λ own. ways.part_reply own op) (side.own_part part));
  row_after = λ row op. map side.part_of (ways.row_after (own_parts side row) op);
  row_reply = λ row op. ways.row_reply (own_parts side row) op;
  combine = λ row. states.state_of (ways.combine (own_parts side row));
  imported = λ procs state. made_of side ways procs (states.own_state state);
}

-- all parts are the layout's own, and are one of its whole rows
pub record IsOwnRow {P Q : Type 0} (side : Side P Q) (Whole : ℕ → List P → Type 0) (procs : ℕ) (row : List Q)
    : Type 0 where
  pub own : row ≡ map side.part_of (own_parts side row)
  pub whole : Whole procs (own_parts side row)
