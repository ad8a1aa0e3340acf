-- The shared counter keeps the laws of layouts.
use Rattle.std.specs.Prelude.{◌≡◌, ℕ, ◌+◌, ◌%◌, ◌^◌, ◌<◌, ◌≤◌, IsTrue, List, [], ◌∷◌, refl}
use Rattle.std.proofs.Common.{arith}
use Rattle.std.proofs.lemmas.Grind.{common_steps}
use Rattle.k42_shapes.specs.declared.shape.Shape.TheVariants as shapes
use Rattle.k42_kinds.specs.declared.operation.Op.{Op}
use Rattle.k42_kinds.specs.declared.operation.Op.TheVariants.{Add, Get, Drain, Bind, Find, Unbind, Size, Write, Read, Dirty, Clean, Seen}
use Rattle.k42_kinds.specs.declared.entry.Reach.TheVariants.{One, All}
use Rattle.k42_kinds.specs.Objects.{counter_object, counter_after}
use Rattle.k42_kinds.specs.LayoutLaws.{StepsRow, StandsFor, Imports}
use Rattle.co_counter.specs.Counters.{IsValue, IsOneValue, shared}

value_stays : (value : ℕ) (op : Op) → IsValue value → IsValue (counter_after value op)
value_stays value (Add amount) in_range = grind (arith, common_steps)
value_stays value Get in_range = in_range
value_stays value Drain in_range = grind (arith, common_steps)
value_stays value (Bind key number) in_range = in_range
value_stays value (Find key) in_range = in_range
value_stays value (Unbind key) in_range = in_range
value_stays value Size in_range = in_range
value_stays value (Write page text) in_range = in_range
value_stays value (Read page) in_range = in_range
value_stays value Dirty in_range = in_range
value_stays value Clean in_range = in_range
value_stays value Seen in_range = in_range

pub shared_steps : (procs : ℕ) (values : List ℕ) (op : Op) → IsOneValue procs values → StepsRow counter_object shared (IsOneValue procs) values op (One 0)
shared_steps procs [] op whole = absurd whole
shared_steps procs (value ∷ []) op whole = record { whole = value_stays value op whole; moved = refl; replied = refl }
shared_steps procs (value ∷ other ∷ values) op whole = absurd whole

pub shared_steps_all : (procs : ℕ) (values : List ℕ) (op : Op) → IsOneValue procs values → StepsRow counter_object shared (IsOneValue procs) values op All
shared_steps_all procs [] op whole = absurd whole
shared_steps_all procs (value ∷ []) op whole = record { whole = value_stays value op whole; moved = refl; replied = refl }
shared_steps_all procs (value ∷ other ∷ values) op whole = absurd whole

pub shared_stands : (procs : ℕ) (values : List ℕ) → IsOneValue procs values → StandsFor shared IsValue shapes.One procs values
shared_stands procs [] whole = absurd whole
shared_stands procs (value ∷ []) whole = record { sized = refl; served = whole }
shared_stands procs (value ∷ other ∷ values) whole = absurd whole
