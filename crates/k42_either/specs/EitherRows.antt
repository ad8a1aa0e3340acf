-- What a layout of one kind does with its parts, where they stand among those of two.
use Rattle.std.specs.Prelude.{ℕ, List, Option, Some, None, option_map, unwrap_or}
use Rattle.k42_kinds.specs.declared.entry.Act.{Act}
use Rattle.k42_kinds.specs.declared.entry.Act.TheVariants.{Call, Swap}
use Rattle.k42_kinds.specs.declared.entry.Reach.TheVariants.{One}
use Rattle.k42_kinds.specs.declared.entry.To.{To}
use Rattle.k42_kinds.specs.Rows.{Ways}
use Rattle.k42_choice.specs.Lifting.{Side, States, lifted, IsOwnRow}
use Rattle.k42_either.specs.Eithers.{Calls, own_first, own_second, first_calls, second_calls, first_states, second_states}
use Rattle.k42_either.specs.declared.either.Either.{Either}
use Rattle.k42_either.specs.declared.either.Either.TheVariants.{First, Second}

abbrev pub first_parts : {P Q : Type 0} → Side P (Either P Q)
first_parts = record { part_of = First; own_part = own_first }

abbrev pub second_parts : {P Q : Type 0} → Side Q (Either P Q)
second_parts = record { part_of = Second; own_part = own_second }

-- the layout, asked in the operations of both kinds: one that is not its own needs one cell, leaves it, and is gone
abbrev pub asked : {S P O R U V : Type 0} → Calls O R U V → V → Ways S P O R → Ways S P U V
asked calls gone ways = record {
  reach = λ procs op proc. unwrap_or (option_map (λ own. ways.reach procs own proc) (calls.own_op op)) (One 0);
  empty = ways.empty;
  part_after = λ part op. unwrap_or (option_map (ways.part_after part) (calls.own_op op)) part;
  part_reply = λ part op. unwrap_or (option_map (λ own. calls.reply_of (ways.part_reply part own)) (calls.own_op op)) gone;
  row_after = λ row op. unwrap_or (option_map (ways.row_after row) (calls.own_op op)) row;
  row_reply = λ row op. unwrap_or (option_map (λ own. calls.reply_of (ways.row_reply row own)) (calls.own_op op)) gone;
  combine = ways.combine;
  imported = ways.imported;
}

abbrev pub ways_among : {S P O R T Q U V : Type 0} → Side P Q → States S T → Calls O R U V → V → Ways S P O R → Ways T Q U V
ways_among parts states calls gone ways = lifted parts states gone (asked calls gone ways)

abbrev pub either_ways : {A B S T P Q O U R V : Type 0} → Either R V → (A → Ways S P O R) → (B → Ways T Q U V)
    → Either A B → Ways (Either S T) (Either P Q) (Either O U) (Either R V)
either_ways gone first second (First layout) = ways_among first_parts first_states first_calls gone (first layout)
either_ways gone first second (Second layout) = ways_among second_parts second_states second_calls gone (second layout)

-- a row of one kind's layout has parts of that kind alone
abbrev pub EitherRow : {A B P Q : Type 0} → (A → ℕ → List P → Type 0) → (B → ℕ → List Q → Type 0)
    → Either A B → ℕ → List (Either P Q) → Type 0
EitherRow FirstWhole SecondWhole (First layout) = IsOwnRow first_parts (FirstWhole layout)
EitherRow FirstWhole SecondWhole (Second layout) = IsOwnRow second_parts (SecondWhole layout)

-- no other's state is kept
abbrev pub IsServed : {S : Type 0} → (S → Type 0) → Option S → Type 0
IsServed Serves (Some state) = Serves state
IsServed Serves None = ⊥

abbrev pub ServesEither : {A B S T : Type 0} → (A → S → Type 0) → (B → T → Type 0) → Either A B → Either S T → Type 0
ServesEither FirstServes SecondServes (First layout) state = IsServed (FirstServes layout) (own_first state)
ServesEither FirstServes SecondServes (Second layout) state = IsServed (SecondServes layout) (own_second state)

abbrev pub admitted_either : {A B S T : Type 0} → (A → S → S) → (B → T → T) → Either A B → Either S T → Either S T
admitted_either first second (First layout) (First state) = First (first layout state)
admitted_either first second (Second layout) (Second state) = Second (second layout state)
admitted_either first second layout state = state

-- a swap is the same of whichever kind
abbrev pub own_act : {O U : Type 0} → (O → U) → Act O → Act U
own_act op_of (Call op) = Call (op_of op)
own_act op_of (Swap to) = Swap to

abbrev pub either_act : {A B O U : Type 0} → (A → Act O) → (B → Act U) → Either A B → Act (Either O U)
either_act first second (First layout) = own_act First (first layout)
either_act first second (Second layout) = own_act Second (second layout)

abbrev pub LeadsEither : {A B : Type 0} → (A → To → Type 0) → (B → To → Type 0) → Either A B → To → Type 0
LeadsEither FirstLeads SecondLeads (First layout) = FirstLeads layout
LeadsEither FirstLeads SecondLeads (Second layout) = SecondLeads layout
