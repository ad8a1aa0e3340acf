-- What may become of three passes, each of which is to grow by one, and what may not.
use Rattle.std.proofs.Common.{◌≡◌, ◌+◌, [], ◌∷◌, refl}
use Rattle.k42_crews.specs.Crews.{EachBecomes}

pub each_grows : EachBecomes (λ old new. new ≡ old + 1) (1 ∷ 5 ∷ 7 ∷ []) (2 ∷ 6 ∷ 8 ∷ [])
each_grows = (refl, (refl, (refl, tt)))

pub the_last_stays : EachBecomes (λ old new. new ≡ old + 1) (1 ∷ 5 ∷ 7 ∷ []) (2 ∷ 6 ∷ 7 ∷ []) → ⊥
the_last_stays each = let last : 7 ≡ 7 + 1 = each.1.1.0 in absurd (cc)

pub the_first_grows_twice : EachBecomes (λ old new. new ≡ old + 1) (1 ∷ 5 ∷ 7 ∷ []) (3 ∷ 6 ∷ 8 ∷ []) → ⊥
the_first_grows_twice each = let first : 3 ≡ 1 + 1 = each.0 in absurd (cc)

pub one_is_lost : EachBecomes (λ old new. new ≡ old + 1) (1 ∷ 5 ∷ 7 ∷ []) (2 ∷ 6 ∷ []) → ⊥
one_is_lost each = each.1.1
