-- What was read and what is left are together as they were once the next entry has moved over.
use Rattle.std.proofs.Common.{◌≡◌, ◌∙◌, List, [], ◌∷◌, ◌++◌, drop, ap, append_assoc}
use Rattle.std.specs.Prelude.{Some, slice_get}
use Rattle.std.proofs.lemmas.Option.{same_Some}

pub moved_over : {A : Type 0} (list rest : List A) (x : A) (more left : List A) → Some x ≡ slice_get rest 0 → more ≡ list ++ x ∷ [] → left ≡ drop 1 rest
    → more ++ left ≡ list ++ rest
moved_over list [] x more left there pushed behind = absurd (cc)
moved_over list (first ∷ rest) x more left there pushed behind =
    (λ i. pushed i ++ behind i) ∙ append_assoc list (x ∷ []) rest ∙ ap (λ z. list ++ z ∷ rest) (same_Some x first there)
