-- Objects of two kinds: each is of the first or of the second for good.
use Rattle.std.specs.Prelude.{false, Option, Some, None, option_map, unwrap_or}
use Rattle.k42_kinds.specs.OneThread.{OneThread}
use Rattle.k42_choice.specs.Lifting.{States}
use Rattle.k42_either.specs.declared.either.Either.{Either}
use Rattle.k42_either.specs.declared.either.Either.TheVariants.{First, Second}

abbrev pub own_first : {A B : Type 0} → Either A B → Option A
own_first (First value) = Some value
own_first (Second value) = None

abbrev pub own_second : {A B : Type 0} → Either A B → Option B
own_second (First value) = None
own_second (Second value) = Some value

-- what the one or the other tells
abbrev pub by_kind : {A B X : Type 0} → (A → X) → (B → X) → Either A B → X
by_kind first second (First value) = first value
by_kind first second (Second value) = second value

-- how the operations and replies of one kind stand among those of both
pub record Calls (O R U V : Type 0) : Type 0 where
  pub own_op : U → Option O
  pub reply_of : R → V

abbrev pub first_calls : {O U R V : Type 0} → Calls O R (Either O U) (Either R V)
first_calls = record { own_op = own_first; reply_of = First }

abbrev pub second_calls : {O U R V : Type 0} → Calls U V (Either O U) (Either R V)
second_calls = record { own_op = own_second; reply_of = Second }

abbrev pub first_states : {S T : Type 0} → States S (Either S T)
first_states = record { state_of = First; own_state = own_first }

abbrev pub second_states : {S T : Type 0} → States T (Either S T)
second_states = record { state_of = Second; own_state = own_second }

-- the object, asked in the operations of both kinds: it takes its own alone, and any other leaves it and is gone
abbrev pub asked_object : {S O R U V : Type 0} → Calls O R U V → V → OneThread S O R → OneThread S U V
asked_object calls gone object = record {
  start = object.start;
  takes = λ op. unwrap_or (option_map object.takes (calls.own_op op)) false;
  after = λ state op. unwrap_or (option_map (object.after state) (calls.own_op op)) state;
  reply = λ state op. unwrap_or (option_map (λ own. calls.reply_of (object.reply state own)) (calls.own_op op)) gone;
  swapped = object.swapped;
  is_ended = object.is_ended;
}

-- the object, in the states of both kinds: one that is not its own stays, and is gone
abbrev pub standing_object : {S T O R : Type 0} → States S T → R → OneThread S O R → OneThread T O R
standing_object states gone object = record {
  start = states.state_of object.start;
  takes = object.takes;
  after = λ state op. unwrap_or (option_map (λ own. states.state_of (object.after own op)) (states.own_state state)) state;
  reply = λ state op. unwrap_or (option_map (λ own. object.reply own op) (states.own_state state)) gone;
  swapped = λ state to. unwrap_or (option_map (λ own. states.state_of (object.swapped own to)) (states.own_state state)) state;
  is_ended = λ state. unwrap_or (option_map object.is_ended (states.own_state state)) false;
}

abbrev pub object_among : {S T O R U V : Type 0} → States S T → Calls O R U V → V → OneThread S O R → OneThread T U V
object_among states calls gone object = standing_object states gone (asked_object calls gone object)

abbrev pub either_object : {A B S T O U R V : Type 0} → Either R V → (A → OneThread S O R) → (B → OneThread T U V)
    → Either A B → OneThread (Either S T) (Either O U) (Either R V)
either_object gone first second (First layout) = object_among first_states first_calls gone (first layout)
either_object gone first second (Second layout) = object_among second_states second_calls gone (second layout)
