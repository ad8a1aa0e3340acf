-- What the pages of one cell bring into a map.
use Rattle.std.specs.Prelude.{◌≡◌, ◌≢◌, ℕ, zero, suc, ◌+◌, ◌*◌, ◌/◌, ◌%◌, ◌<◌, cond, List, [], ◌∷◌, map, fold, count_by, Option, Some, None, option_map, refl}
use Rattle.std.specs.Option.{option_or}
use Rattle.std.proofs.Common.{arith, sym, ap, ◌∙◌, suc-mul, mod-eq_of_lt}
use Rattle.std.proofs.Math.Nat.{add-mul-mod_self_right, mod-add-div'}
use Rattle.std.proofs.lemmas.List.Sums.{sum_by-cons}
use Rattle.std.specs.Cmp.{nat_cmp_total}
use Rattle.std.specs.FinMap as finite
use Rattle.std.specs.FinMap.{nat_cmp-IsAntisymmetric}
use Rattle.k42_kinds.specs.declared.page.Page.{Page}
use Rattle.k42_kinds.specs.Pages.{cleaned, dirty_count}
use Rattle.k42_kinds.specs.Objects.{Pages}
use Rattle.k42_kinds.proofs.FiniteMaps.{insert_changes, count-insert, mark_of}
use Rattle.co_pages.specs.PutIn.{put_in}
use Rattle.co_pages.specs.Places.{CellPlaces, in_place, with_place, page_in, has_dirty, dirty_in, numbered}
use Rattle.co_pages.specs.SpreadRows.{cell_put_in}

pub get-here : (m : Pages) (number : ℕ) (page : Page) → finite.get (put_in m (number, page)) number ≡ Some page
get-here m number page = (insert_changes nat_cmp_total nat_cmp-IsAntisymmetric m number page).here

pub get-elsewhere : (m : Pages) (number : ℕ) (page : Page) (other : ℕ) → other ≢ number → finite.get (put_in m (number, page)) other ≡ finite.get m other
get-elsewhere m number page other apart = (insert_changes nat_cmp_total nat_cmp-IsAntisymmetric m number page).elsewhere other apart

-- ---- places
pub in_place-with_place : (places : List (Option Page)) (place : ℕ) (page : Page) → in_place (with_place places place page) place ≡ Some page
in_place-with_place [] zero page = refl
in_place-with_place [] (suc place) page = in_place-with_place [] place page
in_place-with_place (old ∷ places) zero page = refl
in_place-with_place (old ∷ places) (suc place) page = in_place-with_place places place page

pub in_place-elsewhere : (places : List (Option Page)) (place other : ℕ) (page : Page) → other ≢ place → in_place (with_place places place page) other ≡ in_place places other
in_place-elsewhere [] zero zero page apart = absurd (apart refl)
in_place-elsewhere [] zero (suc other) page apart = refl
in_place-elsewhere [] (suc place) zero page apart = refl
in_place-elsewhere [] (suc place) (suc other) page apart = in_place-elsewhere [] place other page (λ e. apart (ap suc e))
in_place-elsewhere (old ∷ places) zero zero page apart = absurd (apart refl)
in_place-elsewhere (old ∷ places) zero (suc other) page apart = refl
in_place-elsewhere (old ∷ places) (suc place) zero page apart = refl
in_place-elsewhere (old ∷ places) (suc place) (suc other) page apart = in_place-elsewhere places place other page (λ e. apart (ap suc e))

pub in_place-cleaned : (places : List (Option Page)) (place : ℕ) → in_place (map (option_map cleaned) places) place ≡ option_map cleaned (in_place places place)
in_place-cleaned [] place = refl
in_place-cleaned (page ∷ places) zero = refl
in_place-cleaned (page ∷ places) (suc place) = in_place-cleaned places place

-- ---- the numbers of places
further : (step number place : ℕ) → number + step + place * step ≡ number + suc place * step
further step number place = let e : suc place * step ≡ place * step + step = suc-mul place step in omega (arith, e)

-- a number that no place has is found as before
get-missed : (step number : ℕ) (places : List (Option Page)) (m : Pages) (other : ℕ) → ((place : ℕ) → other ≢ number + place * step) → finite.get (fold put_in m (numbered step number places)) other ≡ finite.get m other
get-missed step number [] m other none = refl
get-missed step number (None ∷ places) m other none = get-missed step (number + step) places m other (λ place e. none (suc place) (e ∙ further step number place))
get-missed step number (Some page ∷ places) m other none =
    get-missed step (number + step) places (put_in m (number, page)) other (λ place e. none (suc place) (e ∙ further step number place))
    ∙ get-elsewhere m number page other (λ e. none 0 (omega (arith, e)))

behind : (step number other place : ℕ) → 0 < step → other ≡ number + 0 * step → other ≢ number + step + place * step
behind step number other place some is e = omega (arith, some, is, e)

-- the number of a place is found there, or as before where the place is empty
get-found : (step number place : ℕ) (places : List (Option Page)) (m : Pages) (other : ℕ) → 0 < step → other ≡ number + place * step → finite.get (fold put_in m (numbered step number places)) other ≡ option_or (in_place places place) (finite.get m other)
get-found step number place [] m other some is = refl
get-found step number zero (None ∷ places) m other some is = get-missed step (number + step) places m other (λ place. behind step number other place some is)
get-found step number (suc place) (None ∷ places) m other some is = get-found step (number + step) place places m other some (is ∙ sym (further step number place))
get-found step number zero (Some page ∷ places) m other some is =
    let same : other ≡ number = omega (arith, is) in
    get-missed step (number + step) places (put_in m (number, page)) other (λ place. behind step number other place some is)
    ∙ ap (finite.get (put_in m (number, page))) same
    ∙ get-here m number page
get-found step number (suc place) (Some page ∷ places) m other some is =
    get-found step (number + step) place places (put_in m (number, page)) other some (is ∙ sym (further step number place))
    ∙ ap (option_or (in_place places place)) (get-elsewhere m number page other (λ e. omega (arith, further step number place, e, is, some)))

-- each dirty page counts where its number was not there before
count-numbered : (step number : ℕ) (places : List (Option Page)) (m : Pages) → 0 < step → ((place : ℕ) → finite.get m (number + place * step) ≡ None) → dirty_count (fold put_in m (numbered step number places)) ≡ dirty_count m + count_by has_dirty places
count-numbered step number [] m some new = omega arith
count-numbered step number (None ∷ places) m some new =
    count-numbered step (number + step) places m some (λ place. ap (finite.get m) (further step number place) ∙ new (suc place))
    ∙ omega (arith, sum_by-cons (λ place. cond (has_dirty place) 1 0) None places)
count-numbered step number (Some page ∷ places) m some new =
    let absent : finite.get m number ≡ None = ap (finite.get m) (omega arith) ∙ new 0 in
    let added = count-insert nat_cmp_total (λ page. page.dirty) m number page in
    let alone : dirty_count (put_in m (number, page)) + 0 ≡ dirty_count m + cond page.dirty 1 0 = ap (λ found. dirty_count (put_in m (number, page)) + mark_of (λ page. page.dirty) found) (sym absent) ∙ added in
    let counted = sum_by-cons (λ place. cond (has_dirty place) 1 0) (Some page) places in
    count-numbered step (number + step) places (put_in m (number, page)) some (λ place.
    get-elsewhere m number page (number + step + place * step) (λ e. omega (arith, further step number place, e, some))
    ∙ ap (finite.get m) (further step number place) ∙ new (suc place))
    ∙ omega (arith, alone, counted)

-- ---- cells
-- a cell that is not the number's own one changes nothing there
pub get-other_cell : (procs cell : ℕ) (here : CellPlaces) (m : Pages) (number : ℕ) → here.procs ≡ procs → here.cell ≡ cell → cell < procs → number % procs ≢ cell → finite.get (cell_put_in m here) number ≡ finite.get m number
get-other_cell procs cell here m number cells is within apart =
    get-missed here.procs here.cell here.places m number (λ place e.
    let at : number ≡ cell + place * procs = e ∙ ap (λ c. c + place * here.procs) is ∙ ap (λ p. cell + place * p) cells in
    apart (ap (λ n. n % procs) at ∙ add-mul-mod_self_right cell place procs ∙ mod-eq_of_lt within))

pub get-own_cell : (procs cell : ℕ) (here : CellPlaces) (m : Pages) (number : ℕ) → here.procs ≡ procs → here.cell ≡ cell → cell < procs → number % procs ≡ cell → finite.get (cell_put_in m here) number ≡ option_or (page_in here number) (finite.get m number)
get-own_cell procs cell here m number cells is within at =
    let own : number % here.procs ≡ here.cell = ap (λ p. number % p) cells ∙ at ∙ sym is in
    get-found here.procs here.cell (number / here.procs) here.places m number (omega (arith, cells, within))
    (sym (mod-add-div' number here.procs) ∙ ap (λ c. c + number / here.procs * here.procs) own)

pub count-cell : (procs cell : ℕ) (here : CellPlaces) (m : Pages) → here.procs ≡ procs → here.cell ≡ cell → cell < procs → ((number : ℕ) → number % procs ≡ cell → finite.get m number ≡ None) → dirty_count (cell_put_in m here) ≡ dirty_count m + dirty_in here
count-cell procs cell here m cells is within new =
    count-numbered here.procs here.cell here.places m (omega (arith, cells, within)) (λ place.
    new (here.cell + place * here.procs)
    (ap (λ c. (c + place * here.procs) % procs) is ∙ ap (λ p. (cell + place * p) % procs) cells ∙ add-mul-mod_self_right cell place procs ∙ mod-eq_of_lt within))
