-- Objects that live and then are dead, and what their layouts do with the parts of a row.
use Rattle.std.specs.Prelude.{◌≡◌, ℕ, Bool, true, false, List, [], ◌∷◌, length, Option, Some, None, ⊤}
use Rattle.k42_shapes.specs.declared.shape.Shape.{Shape}
use Rattle.k42_shapes.specs.Shapes.{IsLiveTag}
use Rattle.k42_kinds.specs.declared.entry.Act.{Act}
use Rattle.k42_kinds.specs.declared.entry.Act.TheVariants.{Swap}
use Rattle.k42_kinds.specs.declared.entry.Reach.TheVariants.{One}
use Rattle.k42_kinds.specs.declared.entry.To.{To}
use Rattle.k42_kinds.specs.declared.entry.To.TheVariants as tos
use Rattle.k42_kinds.specs.OneThread.{OneThread, ends_as}
use Rattle.k42_kinds.specs.Rows.{Ways}
use Rattle.k42_choice.specs.Lifting.{Side, States, lifted, IsOwnRow}
use Rattle.k42_choice.specs.declared.mortal.MortalPart.{MortalPart}
use Rattle.k42_choice.specs.declared.mortal.MortalPart.TheVariants as parts
use Rattle.k42_choice.specs.declared.mortal.MortalState.{MortalState}
use Rattle.k42_choice.specs.declared.mortal.MortalState.TheVariants.{Alive, Dead}

abbrev pub is_dead : {S : Type 0} → MortalState S → Bool
is_dead (Alive state) = false
is_dead Dead = true

abbrev pub mortal_after : {S O R : Type 0} → OneThread S O R → MortalState S → O → MortalState S
mortal_after object (Alive state) op = Alive (object.after state op)
mortal_after object Dead op = Dead

abbrev pub mortal_reply : {S O R : Type 0} → R → OneThread S O R → MortalState S → O → R
mortal_reply gone object (Alive state) op = object.reply state op
mortal_reply gone object Dead op = gone

-- alive it does what the object does; a destroy ends it, and then every call is replied so
abbrev pub mortal_object : {S O R : Type 0} → R → OneThread S O R → OneThread (MortalState S) O R
mortal_object gone object = record {
  start = Alive object.start;
  takes = object.takes;
  after = mortal_after object;
  reply = mortal_reply gone object;
  swapped = ends_as Dead;
  is_ended = is_dead;
}

abbrev pub alive_part : {P : Type 0} → MortalPart P → Option P
alive_part (parts.Alive part) = Some part
alive_part parts.Dead = None

abbrev pub alive_state : {S : Type 0} → MortalState S → Option S
alive_state (Alive state) = Some state
alive_state Dead = None

abbrev pub alive_parts : {P : Type 0} → Side P (MortalPart P)
alive_parts = record { part_of = parts.Alive; own_part = alive_part }

abbrev pub alive_states : {S : Type 0} → States S (MortalState S)
alive_states = record { state_of = Alive; own_state = alive_state }

-- a dead object has one part with nothing in it, and every operation is replied so there
abbrev pub dead_ways : {S P O R : Type 0} → R → Ways (MortalState S) (MortalPart P) O R
dead_ways gone = record {
  reach = λ procs op proc. One 0;
  empty = λ procs cell. parts.Dead;
  part_after = λ part op. part;
  part_reply = λ part op. gone;
  row_after = λ row op. row;
  row_reply = λ row op. gone;
  combine = λ row. Dead;
  imported = λ procs state. parts.Dead ∷ [];
}

abbrev pub mortal_ways : {S P O R : Type 0} → Bool → R → Ways S P O R → Ways (MortalState S) (MortalPart P) O R
mortal_ways true gone ways = dead_ways gone
mortal_ways false gone ways = lifted alive_parts alive_states gone ways

abbrev pub MortalRow : {P : Type 0} → Bool → (ℕ → List P → Type 0) → ℕ → List (MortalPart P) → Type 0
MortalRow true Whole procs row = row ≡ parts.Dead ∷ []
MortalRow false Whole procs row = IsOwnRow alive_parts Whole procs row

-- the dead layout serves the dead state alone, and the others all but that
abbrev pub ServesMortal : {S : Type 0} → Bool → (S → Type 0) → MortalState S → Type 0
ServesMortal false Serves (Alive state) = Serves state
ServesMortal true Serves Dead = ⊤
ServesMortal dead Serves state = ⊥

abbrev pub admitted_mortal : {S : Type 0} → Bool → MortalState S → MortalState S
admitted_mortal true state = Dead
admitted_mortal false state = state

-- the number of the dead one is the next after the last
abbrev pub mortal_tag : Bool → List Shape → ℕ → ℕ
mortal_tag true shapes tag = length shapes
mortal_tag false shapes tag = tag

abbrev pub mortal_act : {O : Type 0} → Bool → ℕ → Act O
mortal_act true tag = Swap tos.Dead
mortal_act false tag = Swap (tos.Layout tag)

-- a swap leads to a live layout, or to the dead one
abbrev pub LeadsMortal : List Shape → To → Type 0
LeadsMortal shapes (tos.Layout number) = IsLiveTag shapes number
LeadsMortal shapes tos.Dead = ⊤
LeadsMortal shapes to = ⊥
