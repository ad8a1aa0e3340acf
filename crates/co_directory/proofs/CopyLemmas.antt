-- Copies of one map, of which each is changed alike.
use Rattle.std.proofs.Common.{◌≡◌, ℕ, zero, suc, ◌+◌, ◌<◌, true, false, cond, List, [], ◌∷◌, ◌++◌, length, map, replicate, is_some, Some, None, refl, sym, ap, subst, ◌∙◌, arith}
use Rattle.std.specs.Prelude.{slice_index_or}
use Rattle.std.specs.List.{AllByRecursion}
use Rattle.std.specs.Ordering.{eq_by_cmp}
use Rattle.std.specs.Cmp.{Equal-is}
use Rattle.std.specs.Cmp.Lexicographic.{nat_list_cmp_total}
use Rattle.std.specs.FinMap as finite
use Rattle.std.specs.FinMap.{same_map, get-insert, get-remove}
use Rattle.std.proofs.lemmas.Map.Lookups.{exact_bytes}
use Rattle.k42_kinds.specs.declared.operation.Op.{Op}
use Rattle.k42_kinds.specs.declared.operation.Op.TheVariants.{Bind, Find, Size}
use Rattle.k42_kinds.specs.Objects.{Directory, directory_after}
use Rattle.co_directory.specs.Directories.{first_map, AreCopies}
use Rattle.co_directory.specs.SpreadLaws.{map-replicate, length-copies}
use Rattle.co_directory.proofs.SeenNames.{in_order}

-- a name that was not bound is bound and unbound again
pub remove-inserted : (names : Directory) (name : List ℕ) (number : ℕ) → finite.get names name ≡ None → finite.remove (finite.insert names name number) name ≡ names
remove-inserted names name number none = same_map nat_list_cmp_total exact_bytes _ _ (λ other.
    get-remove nat_list_cmp_total (finite.insert names name number) name other
    ∙ ap (cond (eq_by_cmp in_order other name) None) (get-insert nat_list_cmp_total names name number other)
    ∙ elim (eq_by_cmp in_order other name) as (λ b. eq_by_cmp in_order other name ≡ b → cond b None (cond b (Some number) (finite.get names other)) ≡ finite.get names other) [
      | true ↦ λ tied. sym none ∙ ap (finite.get names) (sym (exact_bytes other name ((Equal-is _).0 tied)))
      | false ↦ λ _. refl
    ] refl)

-- the name is bound in none of them
abbrev pub AreUnbound : List ℕ → List Directory → Type 0
AreUnbound name copies = AllByRecursion (λ (names : Directory). finite.get names name ≡ None) copies

unbound-replicate : (name : List ℕ) (procs : ℕ) (names : Directory) → finite.get names name ≡ None → AreUnbound name (replicate procs names)
unbound-replicate name zero names none = tt
unbound-replicate name (suc others) names none = (none, unbound-replicate name others names none)

pub unbound_copies : (name : List ℕ) (procs : ℕ) (copies : List Directory) → AreCopies procs copies → finite.get (first_map copies) name ≡ None → AreUnbound name copies
unbound_copies name procs copies whole none = subst (AreUnbound name) (sym whole) (unbound-replicate name procs (first_map copies) none)

-- binding a name that is bound leaves each copy
pub taken_copies : (name : List ℕ) (number procs : ℕ) (copies : List Directory) → AreCopies procs copies → is_some (finite.get (first_map copies) name) ≡ true → copies ≡ map (λ names. directory_after names (Bind name number)) copies
taken_copies name number procs copies whole taken =
    let stays : directory_after (first_map copies) (Bind name number) ≡ first_map copies = ap (λ b. cond b (first_map copies) (finite.insert (first_map copies) name number)) taken in
    whole ∙ sym (ap (map (λ names. directory_after names (Bind name number))) whole
    ∙ map-replicate (λ names. directory_after names (Bind name number)) procs (first_map copies)
    ∙ ap (replicate procs) stays)

-- and a name that is not bound is bound in each
pub bound_copies : (name : List ℕ) (number : ℕ) (copies : List Directory) → AreUnbound name copies → map (λ names. finite.insert names name number) copies ≡ map (λ names. directory_after names (Bind name number)) copies
bound_copies name number [] unbound = refl
bound_copies name number (names ∷ copies) unbound =
    let binds : finite.insert names name number ≡ directory_after names (Bind name number) = sym (ap (λ found. cond (is_some found) names (finite.insert names name number)) unbound.0) in
    λ i. binds i ∷ bound_copies name number copies unbound.1 i

some_copies : (procs : ℕ) (copies : List Directory) → 0 < procs → AreCopies procs copies → 0 < length copies
some_copies procs copies some whole = let sized = ap length whole ∙ length-copies procs (first_map copies) in omega (arith, sized, some)

first_of_some : (copies : List Directory) (other : Directory) → 0 < length copies → slice_index_or copies 0 other ≡ first_map copies
first_of_some [] other some = absurd (omega arith)
first_of_some (names ∷ copies) other some = refl

module _ (procs : ℕ) (copies : List Directory) (some : 0 < procs) (whole : AreCopies procs copies) (first : Directory) (there : first ≡ slice_index_or copies 0 first) where
  first_there : first ≡ first_map copies
  first_there = there ∙ first_of_some copies first (some_copies procs copies some whole)

  -- what the first copy binds, all do
  pub taken_row : (op : Op) (name : List ℕ) (number : ℕ) → op ≡ Bind name number → is_some (finite.get first name) ≡ true → copies ≡ map (λ names. directory_after names op) copies
  taken_row op name number is taken =
      taken_copies name number procs copies whole (ap (λ names. is_some (finite.get names name)) (sym first_there) ∙ taken)
      ∙ ap (λ asked. map (λ names. directory_after names asked) copies) (sym is)

  -- and what it does not bind, none does
  pub unbound_row : (name : List ℕ) → finite.get first name ≡ None → AreUnbound name copies
  unbound_row name none = unbound_copies name procs copies whole (ap (λ names. finite.get names name) (sym first_there) ∙ none)

map-same : (copies : List Directory) → copies ≡ map (λ names. names) copies
map-same [] = refl
map-same (names ∷ copies) = ap (λ rest. names ∷ rest) (map-same copies)

pub found_row : (copies : List Directory) (op : Op) (name : List ℕ) → op ≡ Find name → copies ≡ map (λ names. directory_after names op) copies
found_row copies op name is = map-same copies ∙ ap (λ asked. map (λ names. directory_after names asked) copies) (sym is)

pub sized_row : (copies : List Directory) (op : Op) → op ≡ Size → copies ≡ map (λ names. directory_after names op) copies
sized_row copies op is = map-same copies ∙ ap (λ asked. map (λ names. directory_after names asked) copies) (sym is)

replicate_suc : (many : ℕ) (names : Directory) → replicate (suc many) names ≡ replicate many names ++ names ∷ []
replicate_suc zero names = refl
replicate_suc (suc many) names = ap (λ rest. names ∷ rest) (replicate_suc many names)

pub replicate_push : (many : ℕ) (names : Directory) → replicate (many + 1) names ≡ replicate many names ++ names ∷ []
replicate_push many names = let one_more : many + 1 ≡ suc many = omega arith in ap (λ copies. replicate copies names) one_more ∙ replicate_suc many names

-- a name that was bound in the first copy alone is unbound there again
pub undone : (name : List ℕ) (number : ℕ) (copies : List Directory) (first : Directory) (rest : List Directory) (bound unbound : Directory) (others : List Directory) → copies ≡ first ∷ rest → AreUnbound name copies → bound ≡ finite.insert first name number → unbound ≡ finite.remove bound name → others ≡ rest → unbound ∷ others ≡ copies
undone name number copies first rest bound unbound others is none inserted removed same =
    let back = removed ∙ ap (λ names. finite.remove names name) inserted ∙ remove-inserted first name number (subst (AreUnbound name) is none).0 in
    (λ i. back i ∷ same i) ∙ sym is
