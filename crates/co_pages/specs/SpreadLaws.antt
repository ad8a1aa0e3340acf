-- The pages that are spread over cells keep the laws of layouts.
use Rattle.std.specs.Prelude.{◌≡◌, ℕ, zero, suc, ◌%◌, ◌<◌, IsTrue, List, [], ◌∷◌, length, fold, Some, option_map, option_and_then, refl}
use Rattle.std.proofs.Common.{arith, sym, ap, subst, ◌∙◌, mod-lt}
use Rattle.std.specs.FinMap as finite
use Rattle.k42_shapes.specs.declared.shape.Shape.TheVariants as shapes
use Rattle.k42_shapes.specs.Shapes.{shared_and_spread}
use Rattle.k42_kinds.specs.declared.operation.Op.{Op}
use Rattle.k42_kinds.specs.declared.operation.Op.TheVariants.{Add, Get, Drain, Bind, Find, Unbind, Size, Write, Read, Dirty, Clean, Seen}
use Rattle.k42_kinds.specs.declared.operation.Reply.TheVariants.{Done, Number}
use Rattle.k42_kinds.specs.declared.entry.Reach.TheVariants.{One, All}
use Rattle.k42_kinds.specs.Pages.{written}
use Rattle.k42_kinds.specs.Objects.{Pages, pages_object, found_text}
use Rattle.k42_kinds.specs.Rows.{part_at, changed_at, IsWithin}
use Rattle.k42_kinds.specs.LayoutLaws.{StepsRow, StandsFor, Begins, Imports}
use Rattle.co_pages.specs.OneMap.{IsAny}
use Rattle.co_pages.specs.PutIn.{put_in}
use Rattle.co_pages.specs.Refilled.{refilled}
use Rattle.co_pages.specs.Places.{CellPlaces, page_in, with_page}
use Rattle.co_pages.specs.SpreadRows.{IsSpread, page_of, collected, no_pages, spread_reach, cell_reply, spread}
use Rattle.co_pages.specs.RowLaws.{length-spread, still_cells, still_spread, clean_cells, no_cells, get-collected, collected-written, collected-clean, count-collected, collected-none, refilled_row, refilled_cells}

replied_done : (row : List CellPlaces) (cell number : ℕ) (text : List ℕ) → cell < length row → option_map (λ here. cell_reply here (Write number text)) (part_at row cell) ≡ Some Done
replied_done [] cell number text within = absurd (omega (arith, within))
replied_done (here ∷ others) zero number text within = refl
replied_done (here ∷ others) (suc cell) number text within = replied_done others cell number text (omega (arith, within))

replied_found : (row : List CellPlaces) (cell number : ℕ) → cell < length row → option_map (λ here. cell_reply here (Read number)) (part_at row cell) ≡ Some (found_text (option_and_then (λ here. page_in here number) (part_at row cell)))
replied_found [] cell number within = absurd (omega (arith, within))
replied_found (here ∷ others) zero number within = refl
replied_found (here ∷ others) (suc cell) number within = replied_found others cell number (omega (arith, within))

unchanged : (row : List CellPlaces) (cell : ℕ) → changed_at (λ here. here) row cell ≡ row
unchanged [] cell = refl
unchanged (here ∷ others) zero = refl
unchanged (here ∷ others) (suc cell) = ap (λ rest. here ∷ rest) (unchanged others cell)

module _ (procs : ℕ) (row : List CellPlaces) (some : 0 < procs) (whole : IsSpread procs row) where
  in_row : (number : ℕ) → number % procs < length row
  in_row number = subst (λ (n : ℕ). number % procs < n) (sym (length-spread procs row whole)) (mod-lt number some)

  found : (number : ℕ) → page_of row number ≡ finite.get (collected row) number
  found number = sym (get-collected procs row number whole)

  spread_writes : (number : ℕ) (text : List ℕ) → StepsRow pages_object spread (IsSpread procs) row (Write number text) (One (number % procs))
  spread_writes number text = record {
    whole = still_cells procs 0 row (number % procs) number (written text) whole;
    moved = ap (λ n. collected (changed_at (λ here. with_page here number (written text)) row (number % n))) (sym (length-spread procs row whole)) ∙ collected-written procs row number (written text) some whole;
    replied = replied_done row (number % procs) number text (in_row number);
  }

  spread_reads : (number : ℕ) → StepsRow pages_object spread (IsSpread procs) row (Read number) (One (number % procs))
  spread_reads number = record {
    whole = subst (IsSpread procs) (sym (unchanged row (number % procs))) whole;
    moved = ap collected (unchanged row (number % procs));
    replied = replied_found row (number % procs) number (in_row number)
        ∙ ap (λ n. Some (found_text (option_and_then (λ here. page_in here number) (part_at row (number % n))))) (sym (length-spread procs row whole))
        ∙ ap (λ page. Some (found_text page)) (found number);
  }

pub spread_steps_all : (procs : ℕ) (row : List CellPlaces) (op : Op) → 0 < procs → IsTrue (pages_object.takes op) → IsSpread procs row → StepsRow pages_object spread (IsSpread procs) row op All
spread_steps_all procs row (Write number text) some takes whole = record {
  whole = still_spread procs row (number, written text) whole;
  moved = collected-written procs row number (written text) some whole;
  replied = refl;
}
spread_steps_all procs row (Read number) some takes whole = record { whole = whole; moved = refl; replied = ap (λ page. Some (found_text page)) (found procs row some whole number) }
spread_steps_all procs row Dirty some takes whole = record { whole = whole; moved = refl; replied = ap (λ n. Some (Number n)) (sym (count-collected procs row whole)) }
spread_steps_all procs row Clean some takes whole = record {
  whole = clean_cells procs 0 row whole;
  moved = collected-clean procs row whole;
  replied = ap (λ n. Some (Number n)) (sym (count-collected procs row whole));
}
spread_steps_all procs row (Add amount) some takes whole = cc takes
spread_steps_all procs row Get some takes whole = cc takes
spread_steps_all procs row Drain some takes whole = cc takes
spread_steps_all procs row (Bind key number) some takes whole = cc takes
spread_steps_all procs row (Find key) some takes whole = cc takes
spread_steps_all procs row (Unbind key) some takes whole = cc takes
spread_steps_all procs row Size some takes whole = cc takes
spread_steps_all procs row Seen some takes whole = cc takes

pub spread_steps : (procs proc : ℕ) (row : List CellPlaces) (op : Op) → proc < procs → IsTrue (pages_object.takes op) → IsSpread procs row → StepsRow pages_object spread (IsSpread procs) row op (spread_reach procs op proc)
spread_steps procs proc row (Write number text) there takes whole = spread_writes procs row (omega (arith, there)) whole number text
spread_steps procs proc row (Read number) there takes whole = spread_reads procs row (omega (arith, there)) whole number
spread_steps procs proc row Dirty there takes whole = spread_steps_all procs row Dirty (omega (arith, there)) takes whole
spread_steps procs proc row Clean there takes whole = spread_steps_all procs row Clean (omega (arith, there)) takes whole
spread_steps procs proc row (Add amount) there takes whole = cc takes
spread_steps procs proc row Get there takes whole = cc takes
spread_steps procs proc row Drain there takes whole = cc takes
spread_steps procs proc row (Bind key number) there takes whole = cc takes
spread_steps procs proc row (Find key) there takes whole = cc takes
spread_steps procs proc row (Unbind key) there takes whole = cc takes
spread_steps procs proc row Size there takes whole = cc takes
spread_steps procs proc row Seen there takes whole = cc takes

pub spread_reaches : (procs proc : ℕ) (op : Op) → proc < procs → IsTrue (pages_object.takes op) → IsWithin procs (spread_reach procs op proc)
spread_reaches procs proc (Write number text) there takes = mod-lt number (omega (arith, there))
spread_reaches procs proc (Read number) there takes = mod-lt number (omega (arith, there))
spread_reaches procs proc Dirty there takes = omega (arith, there)
spread_reaches procs proc Clean there takes = omega (arith, there)
spread_reaches procs proc (Add amount) there takes = cc takes
spread_reaches procs proc Get there takes = cc takes
spread_reaches procs proc Drain there takes = cc takes
spread_reaches procs proc (Bind key number) there takes = cc takes
spread_reaches procs proc (Find key) there takes = cc takes
spread_reaches procs proc (Unbind key) there takes = cc takes
spread_reaches procs proc Size there takes = cc takes
spread_reaches procs proc Seen there takes = cc takes

pub spread_stands : (procs : ℕ) (row : List CellPlaces) → IsSpread procs row → StandsFor spread IsAny shapes.Each procs row
spread_stands procs row whole = record { sized = length-spread procs row whole; served = tt }

pub spread_begins : (procs : ℕ) → Begins pages_object spread (IsSpread procs) shared_and_spread 1 procs
spread_begins procs = record { whole = no_cells procs; empty = λ live. collected-none procs 0 procs finite.empty }

pub spread_imports : (procs : ℕ) (pages : Pages) → 0 < procs → Imports spread (IsSpread procs) procs pages
spread_imports procs pages some =
    record {
      whole = refilled_cells procs (finite.entries pages) (no_pages procs) (no_cells procs);
      back = refilled_row procs (finite.entries pages) (no_pages procs) some (no_cells procs)
          ∙ ap (λ m. fold put_in m (finite.entries pages)) (collected-none procs 0 procs finite.empty)
          ∙ refilled pages;
    }
