-- A map is its pages put into an empty one.
use Rattle.std.specs.Prelude.{◌≡◌, ℕ, Bool, true, false, cond, ◌&&◌, T, List, [], ◌∷◌, fold, Option, Some, None, refl}
use Rattle.std.specs.Option.{option_or}
use Rattle.std.proofs.Common.{sym, ap, subst, ◌∙◌}
use Rattle.std.specs.declared.cmp.Ordering.{Ordering}
use Rattle.std.specs.declared.cmp.Ordering.TheVariants.{Less, Equal, Greater}
use Rattle.std.specs.Ordering.{nat_cmp, is_lt, is_eq, eq_by_cmp}
use Rattle.std.specs.Cmp.{nat_cmp_total}
use Rattle.std.specs.FinMap as finite
use Rattle.std.specs.FinMap.{find, is_sorted, get-insert, get-entries, get-empty, entries_sorted, same_map, nat_cmp-IsAntisymmetric}
use Rattle.std.specs.FinMap.Entries.{below_all, find_tied}
use Rattle.k42_kinds.specs.declared.page.Page.{Page}
use Rattle.k42_kinds.specs.Objects.{Pages}
use Rattle.co_pages.specs.PutIn.{put_in}

first : (a b : Bool) → T (a && b) → T a
first true b p = tt
first false b p = absurd p

second : (a b : Bool) → T (a && b) → T b
second true b p = p
second false b p = absurd p

less : (r : Ordering) → T (is_lt r) → r ≡ Less
less Less p = refl
less Equal p = absurd p
less Greater p = absurd p

equal : (r : Ordering) → is_eq r ≡ true → r ≡ Equal
equal Less p = absurd (subst T (sym p) tt)
equal Equal p = refl
equal Greater p = absurd (subst T (sym p) tt)

find_below : (number : ℕ) (es : List (ℕ × Page)) → T (below_all nat_cmp number es) → find nat_cmp number es ≡ None
find_below number [] below = refl
find_below number (e ∷ es) below = ap (λ r. cond (is_eq r) (Some e.1) (find nat_cmp number es)) (less _ (first _ _ below)) ∙ find_below number es (second _ _ below)

-- the page that is put in first has a number that none of the others has
put_once : (m : Pages) (e : ℕ × Page) (es : List (ℕ × Page)) (number : ℕ) → T (below_all nat_cmp e.0 es) → option_or (find nat_cmp number es) (cond (eq_by_cmp nat_cmp number e.0) (Some e.1) (finite.get m number)) ≡ option_or (find nat_cmp number (e ∷ es)) (finite.get m number)
put_once m e es number below =
    elim (eq_by_cmp nat_cmp number e.0) as (λ b. eq_by_cmp nat_cmp number e.0 ≡ b → option_or (find nat_cmp number es) (cond b (Some e.1) (finite.get m number)) ≡ option_or (cond b (Some e.1) (find nat_cmp number es)) (finite.get m number)) [
      | true ↦ λ tied. ap (λ found. option_or found (Some e.1)) (sym (find_tied nat_cmp nat_cmp_total number e.0 (equal _ tied) es) ∙ find_below e.0 es below)
      | false ↦ λ apart. refl
    ] refl

get-put_in : (m : Pages) (es : List (ℕ × Page)) (number : ℕ) → T (is_sorted nat_cmp es) → finite.get (fold put_in m es) number ≡ option_or (find nat_cmp number es) (finite.get m number)
get-put_in m [] number sorted = refl
get-put_in m (e ∷ es) number sorted =
    get-put_in (put_in m e) es number (second _ _ sorted)
    ∙ ap (option_or (find nat_cmp number es)) (get-insert nat_cmp_total m e.0 e.1 number)
    ∙ put_once m e es number (first _ _ sorted)

or_none : {A : Type 0} (found : Option A) → option_or found None ≡ found
or_none None = refl
or_none (Some x) = refl

pub refilled : (m : Pages) → fold put_in finite.empty (finite.entries m) ≡ m
refilled m = same_map nat_cmp_total nat_cmp-IsAntisymmetric _ _ (λ number.
    get-put_in finite.empty (finite.entries m) number (entries_sorted m)
    ∙ ap (option_or (find nat_cmp number (finite.entries m))) (get-empty nat_cmp number)
    ∙ or_none _
    ∙ sym (get-entries m number))
