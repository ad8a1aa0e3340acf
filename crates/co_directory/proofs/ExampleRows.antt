-- Rows that are copies of one map, rows that are not, and the cells that operations need.
use Rattle.std.proofs.Common.{◌≡◌, ℕ, true≢false, List, [], ◌∷◌, length, is_some, refl, sym, ap, ◌∙◌, arith}
use Rattle.std.specs.Cmp.Lexicographic.{nat_list_cmp_total}
use Rattle.std.specs.FinMap as finite
use Rattle.std.specs.FinMap.{get-empty, get-insert}
use Rattle.k42_kinds.specs.declared.operation.Op.TheVariants.{Bind, Find, Unbind, Size}
use Rattle.k42_kinds.specs.declared.entry.Reach.TheVariants.{One, All}
use Rattle.k42_kinds.specs.Objects.{Directory}
use Rattle.co_directory.specs.Directories.{AreCopies, IsOneMap, spread_reach}
use Rattle.co_directory.proofs.SeenNames.{in_order}

-- the name `x`
abbrev x : List ℕ
x = 120 ∷ []

abbrev nothing : Directory
nothing = finite.empty

abbrev x_bound : Directory
x_bound = finite.insert nothing x 1

two_copies : AreCopies 2 (x_bound ∷ x_bound ∷ [])
two_copies = refl

one_copy_too_few : AreCopies 3 (x_bound ∷ x_bound ∷ []) → ⊥
one_copy_too_few whole = let sized = ap length whole in omega (arith, sized)

abbrev second_of : List Directory → Directory
second_of (first ∷ second ∷ others) = second
second_of _ = nothing

-- the name was bound for the first processor alone
bound_for_one : AreCopies 2 (x_bound ∷ nothing ∷ []) → ⊥
bound_for_one whole =
    let same : nothing ≡ x_bound = ap second_of whole in
    true≢false (sym (ap is_some (get-insert nat_list_cmp_total nothing x 1 x)) ∙ ap (λ names. is_some (finite.get names x)) (sym same) ∙ ap is_some (get-empty in_order x))

shared_row : IsOneMap 8 (x_bound ∷ [])
shared_row = refl

two_maps_shared : IsOneMap 8 (x_bound ∷ x_bound ∷ []) → ⊥
two_maps_shared whole = omega (arith, whole)

find_at_its_own : spread_reach 8 (Find x) 7 ≡ One 7
find_at_its_own = refl

size_at_its_own : spread_reach 8 Size 7 ≡ One 7
size_at_its_own = refl

bind_everywhere : spread_reach 8 (Bind x 1) 7 ≡ All
bind_everywhere = refl

unbind_everywhere : spread_reach 8 (Unbind x) 7 ≡ All
unbind_everywhere = refl

find_at_another : spread_reach 8 (Find x) 7 ≡ One 0 → ⊥
find_at_another same = cc same
