-- The spread directory keeps the laws of layouts.
use Rattle.std.specs.Prelude.{◌≡◌, ℕ, zero, suc, ◌<◌, List, [], ◌∷◌, length, map, replicate, Some, refl}
use Rattle.std.proofs.Common.{arith, ap, sym, ◌∙◌}
use Rattle.std.specs.FinMap as finite
use Rattle.k42_shapes.specs.declared.shape.Shape.TheVariants as shapes
use Rattle.k42_shapes.specs.Shapes.{shared_and_spread}
use Rattle.k42_kinds.specs.declared.operation.Op.{Op}
use Rattle.k42_kinds.specs.declared.operation.Op.TheVariants.{Add, Get, Drain, Bind, Find, Unbind, Size, Write, Read, Dirty, Clean, Seen}
use Rattle.k42_kinds.specs.declared.entry.Reach.TheVariants.{One, All}
use Rattle.k42_kinds.specs.Objects.{Directory, directory_object, directory_after}
use Rattle.k42_kinds.specs.Rows.{changed_at, part_at, made_from, IsWithin}
use Rattle.k42_kinds.specs.LayoutLaws.{StepsRow, StandsFor, Begins, Imports}
use Rattle.co_directory.specs.Directories.{first_map, AreCopies, spread_reach, spread}

pub map-replicate : (change : Directory → Directory) (procs : ℕ) (names : Directory) → map change (replicate procs names) ≡ replicate procs (change names)
map-replicate change zero names = refl
map-replicate change (suc others) names = ap (λ copies. change names ∷ copies) (map-replicate change others names)

pub length-copies : (procs : ℕ) (names : Directory) → length (replicate procs names) ≡ procs
length-copies zero names = refl
length-copies (suc others) names = ap suc (length-copies others names)

-- copies of one map stay so where each is changed alike
still_copies : (change : Directory → Directory) (procs : ℕ) (copies : List Directory) → AreCopies procs copies → AreCopies procs (map change copies)
still_copies change procs [] whole = whole
still_copies change procs (names ∷ others) whole = ap (map change) whole ∙ map-replicate change procs names

no_copies : (procs : ℕ) → 0 < procs → [] ≡ replicate procs (first_map []) → ⊥
no_copies procs some whole = let sized = ap length whole ∙ length-copies procs finite.empty in omega (arith, sized, some)

first-changed : (change : Directory → Directory) (procs : ℕ) (copies : List Directory) → 0 < procs → AreCopies procs copies → first_map (map change copies) ≡ change (first_map copies)
first-changed change procs [] some whole = absurd (no_copies procs some whole)
first-changed change procs (names ∷ others) some whole = refl

pub spread_steps_all : (procs : ℕ) (copies : List Directory) (op : Op) → 0 < procs → AreCopies procs copies → StepsRow directory_object spread (AreCopies procs) copies op All
spread_steps_all procs copies op some whole = record {
  whole = still_copies (λ names. directory_after names op) procs copies whole;
  moved = first-changed (λ names. directory_after names op) procs copies some whole;
  replied = refl;
}

changed-at-nothing : (copies : List Directory) (cell : ℕ) → changed_at (λ names. names) copies cell ≡ copies
changed-at-nothing [] cell = refl
changed-at-nothing (names ∷ copies) zero = refl
changed-at-nothing (names ∷ copies) (suc cell) = ap (λ rest. names ∷ rest) (changed-at-nothing copies cell)

part-replicate : (procs cell : ℕ) (names : Directory) → cell < procs → part_at (replicate procs names) cell ≡ Some names
part-replicate zero cell names there = absurd (omega arith)
part-replicate (suc others) zero names there = refl
part-replicate (suc others) (suc cell) names there = part-replicate others cell names (omega arith)

-- each copy is the first one
part-copy : (procs cell : ℕ) (copies : List Directory) → cell < procs → AreCopies procs copies → part_at copies cell ≡ Some (first_map copies)
part-copy procs cell copies there whole = ap (λ row. part_at row cell) whole ∙ part-replicate procs cell (first_map copies) there

spread_finds : (procs proc : ℕ) (copies : List Directory) (key : List ℕ) → proc < procs → AreCopies procs copies → StepsRow directory_object spread (AreCopies procs) copies (Find key) (One proc)
spread_finds procs proc copies key there whole = record {
  whole = rw (changed-at-nothing copies proc) whole;
  moved = ap first_map (changed-at-nothing copies proc);
  replied = rw (part-copy procs proc copies there whole) refl;
}

spread_counts : (procs proc : ℕ) (copies : List Directory) → proc < procs → AreCopies procs copies → StepsRow directory_object spread (AreCopies procs) copies Size (One proc)
spread_counts procs proc copies there whole = record {
  whole = rw (changed-at-nothing copies proc) whole;
  moved = ap first_map (changed-at-nothing copies proc);
  replied = rw (part-copy procs proc copies there whole) refl;
}

pub spread_steps : (procs proc : ℕ) (copies : List Directory) (op : Op) → proc < procs → AreCopies procs copies → StepsRow directory_object spread (AreCopies procs) copies op (spread_reach procs op proc)
spread_steps procs proc copies (Find key) there whole = spread_finds procs proc copies key there whole
spread_steps procs proc copies Size there whole = spread_counts procs proc copies there whole
spread_steps procs proc copies (Add amount) there whole = spread_steps_all procs copies (Add amount) (omega arith) whole
spread_steps procs proc copies Get there whole = spread_steps_all procs copies Get (omega arith) whole
spread_steps procs proc copies Drain there whole = spread_steps_all procs copies Drain (omega arith) whole
spread_steps procs proc copies (Bind key number) there whole = spread_steps_all procs copies (Bind key number) (omega arith) whole
spread_steps procs proc copies (Unbind key) there whole = spread_steps_all procs copies (Unbind key) (omega arith) whole
spread_steps procs proc copies (Write page text) there whole = spread_steps_all procs copies (Write page text) (omega arith) whole
spread_steps procs proc copies (Read page) there whole = spread_steps_all procs copies (Read page) (omega arith) whole
spread_steps procs proc copies Dirty there whole = spread_steps_all procs copies Dirty (omega arith) whole
spread_steps procs proc copies Clean there whole = spread_steps_all procs copies Clean (omega arith) whole
spread_steps procs proc copies Seen there whole = spread_steps_all procs copies Seen (omega arith) whole

pub spread_reaches : (procs proc : ℕ) (op : Op) → proc < procs → IsWithin procs (spread_reach procs op proc)
spread_reaches procs proc (Find key) there = there
spread_reaches procs proc Size there = there
spread_reaches procs proc (Add amount) there = omega arith
spread_reaches procs proc Get there = omega arith
spread_reaches procs proc Drain there = omega arith
spread_reaches procs proc (Bind key number) there = omega arith
spread_reaches procs proc (Unbind key) there = omega arith
spread_reaches procs proc (Write page text) there = omega arith
spread_reaches procs proc (Read page) there = omega arith
spread_reaches procs proc Dirty there = omega arith
spread_reaches procs proc Clean there = omega arith
spread_reaches procs proc Seen there = omega arith

pub spread_stands : (procs : ℕ) (copies : List Directory) → AreCopies procs copies → StandsFor spread (λ names. Unit {0}) shapes.Each procs copies
spread_stands procs copies whole = record { sized = ap length whole ∙ length-copies procs (first_map copies); served = tt }

-- a row that is made of one map
made-replicate : (names : Directory) (first many : ℕ) → made_from (λ cell. names) first many ≡ replicate many names
made-replicate names first zero = refl
made-replicate names first (suc others) = ap (λ rest. names ∷ rest) (made-replicate names (suc first) others)

first-replicate : (procs : ℕ) (names : Directory) → 0 < procs → first_map (replicate procs names) ≡ names
first-replicate zero names some = absurd (omega arith)
first-replicate (suc others) names some = refl

-- it has copies of it
copies_of_one : (procs : ℕ) (names : Directory) → 0 < procs → AreCopies procs (replicate procs names)
copies_of_one procs names some = ap (λ first. replicate procs first) (sym (first-replicate procs names some))

pub spread_begins : (procs : ℕ) → 0 < procs → Begins directory_object spread (AreCopies procs) shared_and_spread 1 procs
spread_begins procs some = record {
  whole = rw (made-replicate finite.empty 0 procs) (copies_of_one procs finite.empty some);
  empty = λ live. ap first_map (made-replicate finite.empty 0 procs) ∙ first-replicate procs finite.empty some;
}

pub spread_imports : (procs : ℕ) (names : Directory) → 0 < procs → Imports spread (AreCopies procs) procs names
spread_imports procs names some = record { whole = copies_of_one procs names some; back = first-replicate procs names some }
