-- Layouts of two kinds side by side keep the laws of layouts.
use Rattle.std.specs.Prelude.{◌≡◌, ℕ, Bool, false, IsTrue, List, Option, Some, None, option_map, unwrap_or, refl, ⊤}
use Rattle.std.proofs.Common.{ap, sym, subst, ◌∙◌}
use Rattle.k42_shapes.specs.declared.shape.Shape.{Shape}
use Rattle.k42_shapes.specs.Shapes.{shape_at}
use Rattle.k42_kinds.specs.declared.entry.Act.{Act}
use Rattle.k42_kinds.specs.declared.entry.Act.TheVariants.{Call, Swap}
use Rattle.k42_kinds.specs.declared.entry.Reach.{Reach}
use Rattle.k42_kinds.specs.declared.entry.Reach.TheVariants.{One, All}
use Rattle.k42_kinds.specs.declared.entry.Answer.TheVariants.{Swapped}
use Rattle.k42_kinds.specs.Histories.{is_call, state_moved}
use Rattle.k42_kinds.specs.OneThread.{OneThread}
use Rattle.k42_kinds.specs.Rows.{Ways, IsWithin, part_at, empty_row}
use Rattle.k42_kinds.specs.LayoutLaws.{StepsRow, StandsFor, Begins, Imports, Agree}
use Rattle.k42_choice.specs.Lifting.{Side, States, own_parts, IsOwnRow}
use Rattle.k42_choice.specs.LiftedLaws.{Follows, lifted_steps, lifted_stands, lifted_begins, lifted_imports, lifted_agree}
use Rattle.k42_either.specs.Eithers.{Calls, own_first, own_second, first_calls, second_calls, first_states, second_states, asked_object, object_among}
use Rattle.k42_either.specs.EitherRows.{first_parts, second_parts, asked, ways_among, IsServed, own_act}
use Rattle.k42_either.specs.declared.either.Either.{Either}
use Rattle.k42_either.specs.declared.either.Either.TheVariants.{First, Second}

-- how one kind stands among both
pub record Among (S P O R T Q U V : Type 0) : Type 0 where
  pub parts : Side P Q
  pub states : States S T
  pub calls : Calls O R U V
  pub part_back : (part : P) → parts.own_part (parts.part_of part) ≡ Some part
  pub state_back : (state : S) → states.own_state (states.state_of state) ≡ Some state

abbrev pub the_first : {S T P Q O U R V : Type 0} → Among S P O R (Either S T) (Either P Q) (Either O U) (Either R V)
the_first = record { parts = first_parts; states = first_states; calls = first_calls; part_back = λ part. refl; state_back = λ state. refl }

abbrev pub the_second : {S T P Q O U R V : Type 0} → Among T Q U V (Either S T) (Either P Q) (Either O U) (Either R V)
the_second = record { parts = second_parts; states = second_states; calls = second_calls; part_back = λ part. refl; state_back = λ state. refl }

abbrev pub kind_object : {S P O R T Q U V : Type 0} → Among S P O R T Q U V → V → OneThread S O R → OneThread T U V
kind_object kind gone object = object_among kind.states kind.calls gone object

abbrev pub kind_ways : {S P O R T Q U V : Type 0} → Among S P O R T Q U V → V → Ways S P O R → Ways T Q U V
kind_ways kind gone ways = ways_among kind.parts kind.states kind.calls gone ways

mapped : {X Y Z : Type 0} (outer : Y → Z) (inner : X → Y) (may : Option X) → option_map (λ one. outer (inner one)) may ≡ option_map outer (option_map inner may)
mapped outer inner None = refl
mapped outer inner (Some one) = refl

-- the kind's operation, whatever is asked
abbrev always : {O R U V : Type 0} → Calls O R U V → Option O → Calls O R U V
always calls may = record { own_op = λ op. may; reply_of = calls.reply_of }

-- an operation asked of a layout is a step of the object that is asked it
module _ {S P O R U V : Type 0} (calls : Calls O R U V) (gone : V) (object : OneThread S O R) (ways : Ways S P O R) (Whole : List P → Type 0) (row : List P) (op : U) where
  step_asked : (own : O) (reach : Reach) → StepsRow object ways Whole row own reach
      → StepsRow (asked_object (always calls (Some own)) gone object) (asked (always calls (Some own)) gone ways) Whole row op reach
  step_asked own (One cell) steps = record {
    whole = steps.whole;
    moved = steps.moved;
    replied = mapped calls.reply_of (λ part. ways.part_reply part own) (part_at row cell) ∙ ap (option_map calls.reply_of) steps.replied;
  }
  step_asked own All steps = record { whole = steps.whole; moved = steps.moved; replied = ap (option_map calls.reply_of) steps.replied }

  step_as_asked : (reach : Reach)
      → StepsRow (asked_object (always calls (calls.own_op op)) gone object) (asked (always calls (calls.own_op op)) gone ways) Whole row op reach
      → StepsRow (asked_object calls gone object) (asked calls gone ways) Whole row op reach
  step_as_asked (One cell) steps = record { whole = steps.whole; moved = steps.moved; replied = steps.replied }
  step_as_asked All steps = record { whole = steps.whole; moved = steps.moved; replied = steps.replied }

  step_where_needed : (reach : O → Reach) (may : Option O) → IsTrue (unwrap_or (option_map object.takes may) false)
      → ((own : O) → IsTrue (object.takes own) → StepsRow object ways Whole row own (reach own))
      → StepsRow (asked_object (always calls may) gone object) (asked (always calls may) gone ways) Whole row op (unwrap_or (option_map reach may) (One 0))
  step_where_needed reach (Some own) takes steps = step_asked own (reach own) (steps own takes)
  step_where_needed reach None takes steps = absurd (cc takes)

  step_at_all : (may : Option O) → IsTrue (unwrap_or (option_map object.takes may) false)
      → ((own : O) → IsTrue (object.takes own) → StepsRow object ways Whole row own All)
      → StepsRow (asked_object (always calls may) gone object) (asked (always calls may) gone ways) Whole row op All
  step_at_all (Some own) takes steps = step_asked own All (steps own takes)
  step_at_all None takes steps = absurd (cc takes)

-- the cells that are needed are in the row
pub within_where_needed : {O : Type 0} (takes : O → Bool) (reach : O → Reach) (cells : ℕ) (may : Option O) → IsTrue (unwrap_or (option_map takes may) false)
    → ((own : O) → IsTrue (takes own) → IsWithin cells (reach own)) → IsWithin cells (unwrap_or (option_map reach may) (One 0))
within_where_needed takes reach cells (Some own) taken within = within own taken
within_where_needed takes reach cells None taken within = absurd (cc taken)

-- what holds of the states that are kept holds where one is
pub ended_where_served : {S : Type 0} (Serves : S → Type 0) (is_ended : S → Bool) (is : Bool) (may : Option S) → IsServed Serves may
    → ((own : S) → Serves own → is_ended own ≡ is) → unwrap_or (option_map is_ended may) false ≡ is
ended_where_served Serves is_ended is (Some own) served ended = ended own served
ended_where_served Serves is_ended is None served ended = absurd served

still_served : {S : Type 0} (Serves Served : S → Type 0) → ((state : S) → Serves state → Served state) → (may : Option S) → IsServed Serves may → IsServed Served may
still_served Serves Served keeps (Some state) served = keeps state served
still_served Serves Served keeps None served = absurd served

follows : {S P O R T Q U V : Type 0} (kind : Among S P O R T Q U V) (gone : V) (object : OneThread S O R)
    → Follows kind.states.state_of (kind_object kind gone object) (asked_object kind.calls gone object)
follows {S} kind gone object = record {
  start = refl;
  after = λ state op. ap (λ (may : Option S). unwrap_or (option_map (λ own. kind.states.state_of ((asked_object kind.calls gone object).after own op)) may) (kind.states.state_of state))
      (kind.state_back state);
  reply = λ state op. ap (λ (may : Option S). unwrap_or (option_map (λ own. (asked_object kind.calls gone object).reply own op) may) gone) (kind.state_back state);
}

-- the laws of a layout of one kind hold where its parts stand among those of both
module _ {S P O R T Q U V : Type 0} (kind : Among S P O R T Q U V) (gone : V) (object : OneThread S O R) (ways : Ways S P O R) (Whole : ℕ → List P → Type 0) where
  pub among_steps : (procs proc : ℕ) (row : List Q) (op : U) → IsTrue ((kind_object kind gone object).takes op) → IsOwnRow kind.parts Whole procs row
      → ((own : O) → IsTrue (object.takes own) → StepsRow object ways (Whole procs) (own_parts kind.parts row) own (ways.reach procs own proc))
      → StepsRow (kind_object kind gone object) (kind_ways kind gone ways) (IsOwnRow kind.parts Whole procs) row op
      ((kind_ways kind gone ways).reach procs op proc)
  among_steps procs proc row op takes kept steps =
      let reach = (asked kind.calls gone ways).reach procs op proc in
      lifted_steps kind.parts kind.part_back kind.states gone (asked kind.calls gone ways) Whole
      (kind_object kind gone object) (asked_object kind.calls gone object) (follows kind gone object) procs row op reach kept
      (step_as_asked kind.calls gone object ways (Whole procs) (own_parts kind.parts row) op reach
      (step_where_needed kind.calls gone object ways (Whole procs) (own_parts kind.parts row) op (λ own. ways.reach procs own proc) (kind.calls.own_op op) takes steps))

  pub among_steps_all : (procs : ℕ) (row : List Q) (op : U) → IsTrue ((kind_object kind gone object).takes op) → IsOwnRow kind.parts Whole procs row
      → ((own : O) → IsTrue (object.takes own) → StepsRow object ways (Whole procs) (own_parts kind.parts row) own All)
      → StepsRow (kind_object kind gone object) (kind_ways kind gone ways) (IsOwnRow kind.parts Whole procs) row op All
  among_steps_all procs row op takes kept steps =
      lifted_steps kind.parts kind.part_back kind.states gone (asked kind.calls gone ways) Whole
      (kind_object kind gone object) (asked_object kind.calls gone object) (follows kind gone object) procs row op All kept
      (step_as_asked kind.calls gone object ways (Whole procs) (own_parts kind.parts row) op All
      (step_at_all kind.calls gone object ways (Whole procs) (own_parts kind.parts row) op (kind.calls.own_op op) takes steps))

  pub among_stands : (Serves : S → Type 0) (shape : Shape) (procs : ℕ) (row : List Q) → IsOwnRow kind.parts Whole procs row
      → StandsFor ways Serves shape procs (own_parts kind.parts row)
      → StandsFor (kind_ways kind gone ways) (λ state. IsServed Serves (kind.states.own_state state)) shape procs row
  among_stands Serves shape procs row kept stands =
      lifted_stands kind.parts kind.part_back kind.states gone (asked kind.calls gone ways) Whole Serves (λ state. IsServed Serves (kind.states.own_state state)) shape procs row
      (λ state served. subst (IsServed Serves) (sym (kind.state_back state)) served) kept (record { sized = stands.sized; served = stands.served })

  pub among_begins : (shapes : List Shape) (tag procs : ℕ) → Begins object ways (Whole procs) shapes tag procs
      → Begins (kind_object kind gone object) (kind_ways kind gone ways) (IsOwnRow kind.parts Whole procs) shapes tag procs
  among_begins shapes tag procs begins =
      let row = empty_row ways (shape_at shapes tag) procs in
      let new : OneThread S O R = record object { start = ways.combine row } in
      let lifted = lifted_begins kind.parts kind.part_back kind.states gone (asked kind.calls gone ways) Whole (kind_object kind gone new) (asked_object kind.calls gone new)
      (follows kind gone new) (shape_at shapes tag) procs (record { whole = begins.whole; empty = refl }) in
      record { whole = lifted.whole; empty = λ live. lifted.empty ∙ ap kind.states.state_of (begins.empty live) }

  pub among_imports : (procs : ℕ) (state : S) → Imports ways (Whole procs) procs state
      → Imports (kind_ways kind gone ways) (IsOwnRow kind.parts Whole procs) procs (kind.states.state_of state)
  among_imports procs state imports =
      lifted_imports kind.parts kind.part_back kind.states gone (asked kind.calls gone ways) Whole procs state (kind.state_back state) (record { whole = imports.whole; back = imports.back })

pub among_agree : {S P O R T Q U V : Type 0} (kind : Among S P O R T Q U V) (gone : V) (these those : Ways S P O R) (Whole Other : ℕ → List P → Type 0) (Serves OtherServes : S → Type 0)
    → Agree these those Whole Other Serves OtherServes
    → Agree (kind_ways kind gone these) (kind_ways kind gone those) (IsOwnRow kind.parts Whole) (IsOwnRow kind.parts Other)
    (λ state. IsServed Serves (kind.states.own_state state)) (λ state. IsServed OtherServes (kind.states.own_state state))
among_agree kind gone these those Whole Other Serves OtherServes agree =
    lifted_agree kind.parts kind.states gone (asked kind.calls gone these) (asked kind.calls gone those) Whole Other (λ state. IsServed Serves (kind.states.own_state state))
    (λ state. IsServed OtherServes (kind.states.own_state state)) (ap (asked kind.calls gone) agree.ways) agree.whole
    (λ state. still_served Serves OtherServes agree.served (kind.states.own_state state))

-- what an object among both tells of one of its kind; where it tells nothing of it, it is as this one
abbrev own_object : {S T O R U V : Type 0} → States S T → (O → U) → (V → Option R) → OneThread S O R → OneThread T U V → OneThread S O R
own_object states op_of own_reply none object = record {
  start = unwrap_or (states.own_state object.start) none.start;
  takes = λ op. object.takes (op_of op);
  after = λ state op. unwrap_or (states.own_state (object.after (states.state_of state) (op_of op))) (none.after state op);
  reply = λ state op. unwrap_or (own_reply (object.reply (states.state_of state) (op_of op))) (none.reply state op);
  swapped = λ state to. unwrap_or (states.own_state (object.swapped (states.state_of state) to)) (none.swapped state to);
  is_ended = λ state. object.is_ended (states.state_of state);
}

module _ (S T O U : Type 0) {R V : Type 0} (gone : Either R V) where
  -- objects of one kind are one where those among both are, and no object is of both kinds
  pub same_first : (one other : OneThread S O R)
      → object_among (first_states {T = T}) (first_calls {U = U}) gone one ≡ object_among first_states first_calls gone other → one ≡ other
  same_first one other same = ap (own_object first_states First own_first one) same

  pub same_second : (one other : OneThread T U V)
      → object_among (second_states {S = S}) (second_calls {O = O}) gone one ≡ object_among second_states second_calls gone other → one ≡ other
  same_second one other same = ap (own_object second_states Second own_second one) same

  pub apart : (one : OneThread S O R) (other : OneThread T U V)
      → object_among first_states first_calls gone one ≡ object_among second_states second_calls gone other → ⊥
  apart one other same = subst (λ (object : OneThread (Either S T) (Either O U) (Either R V)). IsServed (λ state. ⊤) (own_first object.start)) same tt

  -- an act of a kind moves a state of that kind as it does alone, and leaves one of the other
  pub first_moved : (object : OneThread S O R) (act : Act O) (state : S) (number : ℕ)
      → state_moved (object_among (first_states {T = T}) (first_calls {U = U}) gone object) (First state) (own_act First act) (Swapped number)
      ≡ First (state_moved object state act (Swapped number))
  first_moved object (Call op) state number = refl
  first_moved object (Swap to) state number = refl

  pub second_stays : (object : OneThread S O R) (act : Act O) (state : T) (number : ℕ)
      → state_moved (object_among first_states (first_calls {U = U}) gone object) (Second state) (own_act First act) (Swapped number) ≡ Second state
  second_stays object (Call op) state number = refl
  second_stays object (Swap to) state number = refl

  pub second_moved : (object : OneThread T U V) (act : Act U) (state : T) (number : ℕ)
      → state_moved (object_among (second_states {S = S}) (second_calls {O = O}) gone object) (Second state) (own_act Second act) (Swapped number)
      ≡ Second (state_moved object state act (Swapped number))
  second_moved object (Call op) state number = refl
  second_moved object (Swap to) state number = refl

  pub first_stays : (object : OneThread T U V) (act : Act U) (state : S) (number : ℕ)
      → state_moved (object_among second_states (second_calls {O = O}) gone object) (First state) (own_act Second act) (Swapped number) ≡ First state
  first_stays object (Call op) state number = refl
  first_stays object (Swap to) state number = refl

pub call-own_act : {O U : Type 0} (op_of : O → U) (act : Act O) → is_call (own_act op_of act) ≡ is_call act
call-own_act op_of (Call op) = refl
call-own_act op_of (Swap to) = refl
