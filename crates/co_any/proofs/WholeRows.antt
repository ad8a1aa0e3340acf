-- What a whole row of a known kind and tag is, and the state for which it stands by its first part.
use Rattle.std.proofs.Common.{◌≡◌, ℕ, zero, suc, ◌<◌, ◌≤◌, List, [], ◌∷◌, length, map, Some, refl, ap, subst, ◌∙◌, arith}
use Rattle.std.specs.Prelude.{slice_index_or}
use Rattle.std.proofs.lemmas.Grind.{common_steps}
use Rattle.k42_kinds.specs.declared.operation.KindName.{KindName}
use Rattle.k42_kinds.specs.declared.operation.KindName.TheVariants as kinds
use Rattle.k42_kinds.specs.declared.states.AnyState.TheVariants as states
use Rattle.k42_kinds.specs.Objects.{Directory, Pages}
use Rattle.k42_kinds.specs.Rows.{part_at}
use Rattle.k42_shapes.specs.Shapes.{cells_of, shape_at, shared_and_spread}
use Rattle.k42_kinds.specs.LayoutLaws.{IsWholeRow}
use Rattle.k42_kinds.proofs.RowSteps.{part_there}
use Rattle.co_counter.specs.Counters.{IsOneValue, value_of, total_of}
use Rattle.co_pages.specs.Places.{CellPlaces}
use Rattle.co_pages.specs.SpreadRows as spread_rows
use Rattle.co_any.specs.declared.part.AnyPart.{AnyPart}
use Rattle.co_any.specs.declared.part.AnyPart.TheVariants as parts
use Rattle.co_any.specs.Layouts.{amounts, indexed, copies, pages, places, amount_of, places_of, ways_of, whole_of}
use Rattle.co_any.specs.AnyLaws.{any_stands}
use Rattle.co_any.proofs.ReachedParts.{own_there, dead_there, not_dead}

pub whole_at : (kind known : KindName) (tag its : ℕ) (row : List AnyPart) → tag ≡ its → kind ≡ known → IsWholeRow (whole_of kind tag) row → IsWholeRow (whole_of known its) row
whole_at kind known tag its row tags same whole = record {
  procs = whole.procs;
  some = whole.some;
  whole = subst (λ (k : KindName). whole_of k its whole.procs row) same (subst (λ (t : ℕ). whole_of kind t whole.procs row) tags whole.whole);
}

some_cells : (tag procs : ℕ) → tag ≤ 2 → 0 < procs → 0 < cells_of (shape_at shared_and_spread tag) procs
some_cells zero procs known some = omega arith
some_cells (suc zero) procs known some = some
some_cells (suc (suc zero)) procs known some = omega arith
some_cells (suc (suc (suc more))) procs known some = absurd (omega arith)

pub some_parts : (kind : KindName) (tag : ℕ) (row : List AnyPart) → tag ≤ 2 → IsWholeRow (whole_of kind tag) row → 0 < length row
some_parts kind tag row known whole = let sized = (any_stands kind tag whole.procs row known whole.some whole.whole).sized in let cells = some_cells tag whole.procs known whole.some in omega (arith, sized, cells)

one_total : (procs : ℕ) (row : List ℕ) → IsOneValue procs row → total_of row ≡ value_of row
one_total procs [] whole = absurd whole
one_total procs (value ∷ []) whole = grind (arith, common_steps)
one_total procs (value ∷ other ∷ row) whole = absurd whole

amount_row : (kind : KindName) (tag procs : ℕ) (row : List AnyPart) (amount : ℕ) → whole_of kind tag procs row → part_at row 0 ≡ Some (parts.Amount amount) → states.Counter (total_of (map amount_of row)) ≡ (ways_of kind tag).combine row
amount_row kinds.Counter zero procs row amount whole there = ap states.Counter (one_total procs (map amount_of row) whole.whole)
amount_row kinds.Counter (suc zero) procs row amount whole there = refl
amount_row kinds.Directory zero procs row amount whole there = absurd (cc (own_there indexed _ _ _ _ _ whole there))
amount_row kinds.Directory (suc zero) procs row amount whole there = absurd (cc (own_there copies _ _ _ _ _ whole there))
amount_row kinds.Pages zero procs row amount whole there = absurd (cc (own_there pages _ _ _ _ _ whole there))
amount_row kinds.Pages (suc zero) procs row amount whole there = absurd (cc (own_there places _ _ _ _ _ whole there))
amount_row kind (suc (suc more)) procs row amount whole there = absurd (not_dead (parts.Amount amount) refl (dead_there procs _ _ _ whole there))

indexed_row : (kind : KindName) (tag procs : ℕ) (row : List AnyPart) (names : Directory) → whole_of kind tag procs row → part_at row 0 ≡ Some (parts.Indexed names) → states.Directory names ≡ (ways_of kind tag).combine row
indexed_row kinds.Directory zero procs [] names whole there = cc there
indexed_row kinds.Directory zero procs (part ∷ row) names whole there = cc there
indexed_row kinds.Directory (suc zero) procs row names whole there = absurd (cc (own_there copies _ _ _ _ _ whole there))
indexed_row kinds.Counter zero procs row names whole there = absurd (cc (own_there amounts _ _ _ _ _ whole there))
indexed_row kinds.Counter (suc zero) procs row names whole there = absurd (cc (own_there amounts _ _ _ _ _ whole there))
indexed_row kinds.Pages zero procs row names whole there = absurd (cc (own_there pages _ _ _ _ _ whole there))
indexed_row kinds.Pages (suc zero) procs row names whole there = absurd (cc (own_there places _ _ _ _ _ whole there))
indexed_row kind (suc (suc more)) procs row names whole there = absurd (not_dead (parts.Indexed names) refl (dead_there procs _ _ _ whole there))

copy_row : (kind : KindName) (tag procs : ℕ) (row : List AnyPart) (names : Directory) → whole_of kind tag procs row → part_at row 0 ≡ Some (parts.Copy names) → states.Directory names ≡ (ways_of kind tag).combine row
copy_row kinds.Directory (suc zero) procs [] names whole there = cc there
copy_row kinds.Directory (suc zero) procs (part ∷ row) names whole there = cc there
copy_row kinds.Directory zero procs row names whole there = absurd (cc (own_there indexed _ _ _ _ _ whole there))
copy_row kinds.Counter zero procs row names whole there = absurd (cc (own_there amounts _ _ _ _ _ whole there))
copy_row kinds.Counter (suc zero) procs row names whole there = absurd (cc (own_there amounts _ _ _ _ _ whole there))
copy_row kinds.Pages zero procs row names whole there = absurd (cc (own_there pages _ _ _ _ _ whole there))
copy_row kinds.Pages (suc zero) procs row names whole there = absurd (cc (own_there places _ _ _ _ _ whole there))
copy_row kind (suc (suc more)) procs row names whole there = absurd (not_dead (parts.Copy names) refl (dead_there procs _ _ _ whole there))

pages_row : (kind : KindName) (tag procs : ℕ) (row : List AnyPart) (kept : Pages) → whole_of kind tag procs row → part_at row 0 ≡ Some (parts.Pages kept) → states.Pages kept ≡ (ways_of kind tag).combine row
pages_row kinds.Pages zero procs [] kept whole there = cc there
pages_row kinds.Pages zero procs (part ∷ row) kept whole there = cc there
pages_row kinds.Pages (suc zero) procs row kept whole there = absurd (cc (own_there places _ _ _ _ _ whole there))
pages_row kinds.Counter zero procs row kept whole there = absurd (cc (own_there amounts _ _ _ _ _ whole there))
pages_row kinds.Counter (suc zero) procs row kept whole there = absurd (cc (own_there amounts _ _ _ _ _ whole there))
pages_row kinds.Directory zero procs row kept whole there = absurd (cc (own_there indexed _ _ _ _ _ whole there))
pages_row kinds.Directory (suc zero) procs row kept whole there = absurd (cc (own_there copies _ _ _ _ _ whole there))
pages_row kind (suc (suc more)) procs row kept whole there = absurd (not_dead (parts.Pages kept) refl (dead_there procs _ _ _ whole there))

places_row : (kind : KindName) (tag procs : ℕ) (row : List AnyPart) (kept : CellPlaces) → whole_of kind tag procs row → part_at row 0 ≡ Some (parts.Places kept) → states.Pages (spread_rows.collected (map places_of row)) ≡ (ways_of kind tag).combine row
places_row kinds.Pages (suc zero) procs row kept whole there = refl
places_row kinds.Pages zero procs row kept whole there = absurd (cc (own_there pages _ _ _ _ _ whole there))
places_row kinds.Counter zero procs row kept whole there = absurd (cc (own_there amounts _ _ _ _ _ whole there))
places_row kinds.Counter (suc zero) procs row kept whole there = absurd (cc (own_there amounts _ _ _ _ _ whole there))
places_row kinds.Directory zero procs row kept whole there = absurd (cc (own_there indexed _ _ _ _ _ whole there))
places_row kinds.Directory (suc zero) procs row kept whole there = absurd (cc (own_there copies _ _ _ _ _ whole there))
places_row kind (suc (suc more)) procs row kept whole there = absurd (not_dead (parts.Places kept) refl (dead_there procs _ _ _ whole there))

dead_row : (kind : KindName) (tag procs : ℕ) (row : List AnyPart) → whole_of kind tag procs row → part_at row 0 ≡ Some parts.Dead → states.Dead ≡ (ways_of kind tag).combine row
dead_row kind (suc (suc more)) procs row whole there = refl
dead_row kinds.Pages zero procs row whole there = absurd (cc (own_there pages _ _ _ _ _ whole there))
dead_row kinds.Pages (suc zero) procs row whole there = absurd (cc (own_there places _ _ _ _ _ whole there))
dead_row kinds.Counter zero procs row whole there = absurd (cc (own_there amounts _ _ _ _ _ whole there))
dead_row kinds.Counter (suc zero) procs row whole there = absurd (cc (own_there amounts _ _ _ _ _ whole there))
dead_row kinds.Directory zero procs row whole there = absurd (cc (own_there indexed _ _ _ _ _ whole there))
dead_row kinds.Directory (suc zero) procs row whole there = absurd (cc (own_there copies _ _ _ _ _ whole there))

-- the state for which a whole row stands, as its first part tells it
module _ (kind : KindName) (tag : ℕ) (row : List AnyPart) (known : tag ≤ 2) (whole : IsWholeRow (whole_of kind tag) row) (part : AnyPart) (first : part ≡ slice_index_or row 0 part) where
  first_part : (is : AnyPart) → part ≡ is → part_at row 0 ≡ Some is
  first_part is same = part_there row 0 part (some_parts kind tag row known whole) first ∙ ap Some same

  pub stands_amounts : (amount : ℕ) → part ≡ parts.Amount amount → states.Counter (total_of (map amount_of row)) ≡ (ways_of kind tag).combine row
  stands_amounts amount is = amount_row kind tag whole.procs row amount whole.whole (first_part _ is)

  pub stands_indexed : (names : Directory) → part ≡ parts.Indexed names → states.Directory names ≡ (ways_of kind tag).combine row
  stands_indexed names is = indexed_row kind tag whole.procs row names whole.whole (first_part _ is)

  pub stands_copies : (names : Directory) → part ≡ parts.Copy names → states.Directory names ≡ (ways_of kind tag).combine row
  stands_copies names is = copy_row kind tag whole.procs row names whole.whole (first_part _ is)

  pub stands_pages : (kept : Pages) → part ≡ parts.Pages kept → states.Pages kept ≡ (ways_of kind tag).combine row
  stands_pages kept is = pages_row kind tag whole.procs row kept whole.whole (first_part _ is)

  pub stands_places : (kept : CellPlaces) → part ≡ parts.Places kept → states.Pages (spread_rows.collected (map places_of row)) ≡ (ways_of kind tag).combine row
  stands_places kept is = places_row kind tag whole.procs row kept whole.whole (first_part _ is)

  pub stands_dead : part ≡ parts.Dead → states.Dead ≡ (ways_of kind tag).combine row
  stands_dead is = dead_row kind tag whole.procs row whole.whole (first_part _ is)
