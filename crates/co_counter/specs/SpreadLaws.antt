-- The spread counter keeps the laws of layouts.
use Rattle.std.specs.Prelude.{◌≡◌, ℕ, zero, suc, ◌+◌, ◌%◌, ◌^◌, ◌<◌, ◌≤◌, IsTrue, List, [], ◌∷◌, length, replicate, Some, option_map, refl}
use Rattle.std.proofs.Common.{arith}
use Rattle.std.proofs.lemmas.Grind.{common_steps}
use Rattle.k42_shapes.specs.declared.shape.Shape.TheVariants as shapes
use Rattle.k42_shapes.specs.Shapes.{shared_and_spread}
use Rattle.k42_kinds.specs.declared.operation.Op.{Op}
use Rattle.k42_kinds.specs.declared.operation.Op.TheVariants.{Add, Get, Drain, Bind, Find, Unbind, Size, Write, Read, Dirty, Clean, Seen}
use Rattle.k42_kinds.specs.declared.operation.Reply.TheVariants.{Done}
use Rattle.k42_kinds.specs.declared.entry.Reach.TheVariants.{One, All}
use Rattle.k42_kinds.specs.Objects.{counter_object, counter_after, counter_reply}
use Rattle.k42_kinds.specs.Rows.{changed_at, part_at, made_from, empty_row, IsWithin}
use Rattle.k42_kinds.specs.LayoutLaws.{StepsRow, StandsFor, Begins, Imports}
use Rattle.co_counter.specs.Counters.{IsValue, HasAmounts, total_of, spread_reach, first_amount, spread}

length-changed : (change : ℕ → ℕ) (amounts : List ℕ) (cell : ℕ) → length (changed_at change amounts cell) ≡ length amounts
length-changed change [] cell = refl
length-changed change (own ∷ amounts) zero = refl
length-changed change (own ∷ amounts) (suc cell) = grind (arith, length-changed change amounts cell)

-- what is added to one amount is added to the total
total-added : (amount : ℕ) (amounts : List ℕ) (cell : ℕ) → cell < length amounts → total_of (changed_at (λ own. (own + amount) % 2 ^ 64) amounts cell) ≡ (total_of amounts + amount) % 2 ^ 64
total-added amount [] cell there = absurd (omega arith)
total-added amount (own ∷ amounts) zero there = grind (arith, common_steps)
total-added amount (own ∷ amounts) (suc cell) there = grind (arith, common_steps, total-added amount amounts cell (omega arith))

replied_done : (amount : ℕ) (amounts : List ℕ) (cell : ℕ) → cell < length amounts → option_map (λ own. counter_reply own (Add amount)) (part_at amounts cell) ≡ Some Done
replied_done amount [] cell there = absurd (omega arith)
replied_done amount (own ∷ amounts) zero there = refl
replied_done amount (own ∷ amounts) (suc cell) there = replied_done amount amounts cell (omega arith)

spread_adds : (procs : ℕ) (amounts : List ℕ) (amount cell : ℕ) → cell < procs → HasAmounts procs amounts → StepsRow counter_object spread (HasAmounts procs) amounts (Add amount) (One cell)
spread_adds procs amounts amount cell there whole = record {
  whole = grind (arith, length-changed (λ own. (own + amount) % 2 ^ 64) amounts cell);
  moved = total-added amount amounts cell (omega arith);
  replied = replied_done amount amounts cell (omega arith);
}

pub spread_steps_all : (procs : ℕ) (amounts : List ℕ) (op : Op) → 0 < procs → IsTrue (counter_object.takes op) → HasAmounts procs amounts → StepsRow counter_object spread (HasAmounts procs) amounts op All
spread_steps_all procs amounts (Add amount) some takes whole = record {
  whole = grind (arith, length-changed (λ own. (own + amount) % 2 ^ 64) amounts 0);
  moved = total-added amount amounts 0 (omega arith);
  replied = refl;
}
spread_steps_all procs amounts Get some takes whole = record { whole = whole; moved = refl; replied = refl }
spread_steps_all procs amounts Drain some takes whole = record { whole = grind (arith, common_steps); moved = grind (arith, common_steps); replied = refl }
spread_steps_all procs amounts (Bind key number) some takes whole = cc takes
spread_steps_all procs amounts (Find key) some takes whole = cc takes
spread_steps_all procs amounts (Unbind key) some takes whole = cc takes
spread_steps_all procs amounts Size some takes whole = cc takes
spread_steps_all procs amounts (Write page text) some takes whole = cc takes
spread_steps_all procs amounts (Read page) some takes whole = cc takes
spread_steps_all procs amounts Dirty some takes whole = cc takes
spread_steps_all procs amounts Clean some takes whole = cc takes
spread_steps_all procs amounts Seen some takes whole = cc takes

pub spread_steps : (procs proc : ℕ) (amounts : List ℕ) (op : Op) → proc < procs → IsTrue (counter_object.takes op) → HasAmounts procs amounts → StepsRow counter_object spread (HasAmounts procs) amounts op (spread_reach procs op proc)
spread_steps procs proc amounts (Add amount) there takes whole = spread_adds procs amounts amount proc there whole
spread_steps procs proc amounts Get there takes whole = spread_steps_all procs amounts Get (omega arith) takes whole
spread_steps procs proc amounts Drain there takes whole = spread_steps_all procs amounts Drain (omega arith) takes whole
spread_steps procs proc amounts (Bind key number) there takes whole = cc takes
spread_steps procs proc amounts (Find key) there takes whole = cc takes
spread_steps procs proc amounts (Unbind key) there takes whole = cc takes
spread_steps procs proc amounts Size there takes whole = cc takes
spread_steps procs proc amounts (Write page text) there takes whole = cc takes
spread_steps procs proc amounts (Read page) there takes whole = cc takes
spread_steps procs proc amounts Dirty there takes whole = cc takes
spread_steps procs proc amounts Clean there takes whole = cc takes
spread_steps procs proc amounts Seen there takes whole = cc takes

pub spread_reaches : (procs proc : ℕ) (op : Op) → proc < procs → IsTrue (counter_object.takes op) → IsWithin procs (spread_reach procs op proc)
spread_reaches procs proc (Add amount) there takes = there
spread_reaches procs proc Get there takes = omega arith
spread_reaches procs proc Drain there takes = omega arith
spread_reaches procs proc (Bind key number) there takes = cc takes
spread_reaches procs proc (Find key) there takes = cc takes
spread_reaches procs proc (Unbind key) there takes = cc takes
spread_reaches procs proc Size there takes = cc takes
spread_reaches procs proc (Write page text) there takes = cc takes
spread_reaches procs proc (Read page) there takes = cc takes
spread_reaches procs proc Dirty there takes = cc takes
spread_reaches procs proc Clean there takes = cc takes
spread_reaches procs proc Seen there takes = cc takes

pub spread_stands : (procs : ℕ) (amounts : List ℕ) → HasAmounts procs amounts → StandsFor spread IsValue shapes.Each procs amounts
spread_stands procs amounts whole = record { sized = whole; served = grind (arith, common_steps) }

abbrev no_amount : ℕ → ℕ
no_amount cell = 0

length-zeros : (first many : ℕ) → length (made_from no_amount first many) ≡ many
length-zeros first zero = refl
length-zeros first (suc many) = grind (arith, length-zeros (suc first) many)

total-zeros : (first many : ℕ) → total_of (made_from no_amount first many) ≡ 0
total-zeros first zero = grind (arith, common_steps)
total-zeros first (suc many) = total-zeros (suc first) many

pub spread_begins : (procs : ℕ) → Begins counter_object spread (HasAmounts procs) shared_and_spread 1 procs
spread_begins procs = record { whole = length-zeros 0 procs; empty = λ live. total-zeros 0 procs }

pub spread_imports : (procs value : ℕ) → 0 < procs → IsValue value → Imports spread (HasAmounts procs) procs value
spread_imports zero value some in_range = absurd (omega arith)
spread_imports (suc others) value some in_range = record { whole = grind (arith, common_steps); back = grind (arith, common_steps) }
