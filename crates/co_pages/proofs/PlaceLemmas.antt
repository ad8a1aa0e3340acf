-- What the code does at the places of a cell.
use Rattle.std.proofs.Common.{◌≡◌, ℕ, zero, suc, ◌+◌, ◌-◌, ◌*◌, ◌/◌, ◌%◌, ◌^◌, ◌<◌, ◌≤◌, max, ◌⊎◌, inl, inr, ⊎_elim, List, [], ◌∷◌, ◌++◌, length, take, set, replicate, get_or, Option, Some, None, OnOk, OnErr, refl, sym, ap, subst, ◌∙◌, arith, append-nil, suc-mul, take_all}
use Rattle.std.proofs.Math.Nat.{mod-add-div'}
use Rattle.std.specs.declared.result.Result.{Result}
use Rattle.std.specs.declared.result.Result.TheVariants.{Ok, Err}
use Rattle.k42_memory.specs.declared.Memory.{Memory}
use Rattle.k42_kinds.specs.declared.page.Page.{Page}
use Rattle.co_pages.specs.Places.{in_place, with_place, HasShortNumbers}

-- ---- a look-up
pub in_place-there : (places : List (Option Page)) (place : ℕ) (otherwise : Option Page) → place < length places → in_place places place ≡ get_or places place otherwise
in_place-there [] place otherwise there = absurd (omega (arith, there))
in_place-there (page ∷ places) zero otherwise there = refl
in_place-there (page ∷ places) (suc place) otherwise there = in_place-there places place otherwise (omega (arith, there))

pub in_place-behind : (places : List (Option Page)) (place : ℕ) → length places ≤ place → in_place places place ≡ None
in_place-behind [] place behind = refl
in_place-behind (page ∷ places) zero behind = absurd (omega (arith, behind))
in_place-behind (page ∷ places) (suc place) behind = in_place-behind places place (omega (arith, behind))

-- ---- a page is put behind empty places
set-empties : (place : ℕ) (page : Page) → set (replicate (suc place) None) place (Some page) ≡ with_place [] place page
set-empties zero page = refl
set-empties (suc place) page = ap (λ rest. None ∷ rest) (set-empties place page)

set-padded : (places : List (Option Page)) (place more : ℕ) (page : Page) → more ≡ (place + 1) - length places → set (places ++ replicate more None) place (Some page) ≡ with_place places place page
set-padded [] place more page is = let one_more : more ≡ suc place = omega (arith, is) in ap (λ n. set (replicate n None) place (Some page)) one_more ∙ set-empties place page
set-padded (old ∷ places) zero more page is =
    let none : more ≡ 0 = omega (arith, is) in
    ap (λ n. Some page ∷ (places ++ replicate n None)) none ∙ ap (λ rest. Some page ∷ rest) (append-nil places)
set-padded (old ∷ places) (suc place) more page is = ap (λ rest. old ∷ rest) (set-padded places place more page (omega (arith, is)))

pub set-grown : (places : List (Option Page)) (place len many : ℕ) (page : Page) → len ≡ length places → many ≡ max len (place + 1) → set (take many places ++ replicate (many - len) None) place (Some page) ≡ with_place places place page
set-grown places place len many page sized is =
    ap (λ front. set (front ++ replicate (many - len) None) place (Some page)) (take_all many places (omega (arith, is, sized)))
    ∙ set-padded places place (many - len) page (omega (arith, is, sized))

-- ---- numbers stay short
length-new : (place : ℕ) (page : Page) → length (with_place [] place page) ≡ place + 1
length-new zero page = omega arith
length-new (suc place) page = omega (arith, length-new place page)

length-with_place : (places : List (Option Page)) (place : ℕ) (page : Page) → (length (with_place places place page) ≡ length places) ⊎ (length (with_place places place page) ≡ place + 1)
length-with_place [] place page = inr (length-new place page)
length-with_place (old ∷ places) zero page = inl refl
length-with_place (old ∷ places) (suc place) page = ⊎_elim (λ same. inl (ap suc same)) (λ more. inr (omega (arith, more))) (length-with_place places place page)

last_short : (procs cell number : ℕ) → number < 2 ^ 16 → number % procs ≡ cell → cell + (number / procs + 1) * procs < 2 ^ 16 + procs
last_short procs cell number short own =
    let whole = mod-add-div' number procs in
    let one_more : (number / procs + 1) * procs ≡ number / procs * procs + procs = grind (arith, suc-mul (number / procs) procs) in
    omega (arith, whole, one_more, own, short)

pub short_after : (procs cell number : ℕ) (places : List (Option Page)) (page : Page) → number < 2 ^ 16 → number % procs ≡ cell → HasShortNumbers procs cell places → HasShortNumbers procs cell (with_place places (number / procs) page)
short_after procs cell number places page short own kept =
    ⊎_elim
    (λ same. subst (λ (n : ℕ). cell + n * procs < 2 ^ 16 + procs) (sym same) kept)
    (λ more. subst (λ (n : ℕ). cell + n * procs < 2 ^ 16 + procs) (sym more) (last_short procs cell number short own))
    (length-with_place places (number / procs) page)

-- whether or not there was memory
pub short_either_way : (procs cell number place : ℕ) (old new : List (Option Page)) (page : Page) (result : Result (Unit {0}) Memory) → number < 2 ^ 16 → number % procs ≡ cell → place ≡ number / procs → HasShortNumbers procs cell old → OnOk result (new ≡ with_place old place page) → OnErr result (new ≡ old) → HasShortNumbers procs cell new
short_either_way procs cell number place old new page (Ok done) short own at kept moved same = subst (HasShortNumbers procs cell) (sym (moved ∙ ap (λ p. with_place old p page) at)) (short_after procs cell number old page short own kept)
short_either_way procs cell number place old new page (Err memory) short own at kept moved same = subst (HasShortNumbers procs cell) (sym same) kept
