-- Passes that have given their lists away.
use Rattle.std.proofs.Common.{◌≡◌, ℕ, zero, suc, List, [], ◌∷◌, Some, map, refl, ap, ◌∙◌, subst}
use Rattle.std.specs.List.{slice_get}
use Rattle.std.proofs.lemmas.List.{length-map}
use Rattle.std.proofs.lemmas.Option.{same_Some}
use Rattle.k42_places.specs.Places.{EachPlace}
use Rattle.k42_board.specs.Seen.{SysSeen, PassSeen, kept_of}
use Rattle.k42_board.specs.declared.keep.Keep.TheVariants as keeps
use Rattle.k42_rule.specs.Finishing.{AreAtRest, IsPassAtRest, kept_in, lists_in, with_none, with_none_kept}

-- a member of the mapped list is that of one of the list
mapped_at : {A B : Type 0} (f : A → B) (xs : List A) (i : ℕ) (y : B) → slice_get (map f xs) i ≡ Some y → (x : A) × (slice_get xs i ≡ Some x) × (f x ≡ y)
mapped_at f [] i y e = absurd (cc)
mapped_at f (x ∷ xs) zero y e = (x, refl, same_Some (f x) y e)
mapped_at f (x ∷ xs) (suc i) y e = mapped_at f xs i y e

pub given_rest : {L P O R : Type 0} (sys : SysSeen L) (passes : List (PassSeen P O R)) → AreAtRest sys passes → AreAtRest sys (with_none_kept passes)
given_rest {L} {P} sys passes rest = record {
  many = length-map passes _ ∙ rest.many;
  each = λ c pass e.
      let was = mapped_at with_none passes c pass e in
      let is = rest.each c was.0 was.1 in
      subst (IsPassAtRest sys c) was.2 (record { ours = is.ours; number = is.number; rests = is.rests });
}

pub given_lists : {P O R : Type 0} (passes : List (PassSeen P O R)) → lists_in (with_none_kept passes) ≡ lists_in passes
given_lists [] = refl
given_lists (pass ∷ passes) = ap (λ lists. pass.view.taker.mine ∷ lists) (given_lists passes)

-- where each has kept all, those are all lists
pub all_kept : {P O R : Type 0} (passes : List (PassSeen P O R)) → EachPlace (λ c pass. pass.keep.what ≡ keeps.All) passes → kept_in passes ≡ lists_in passes
all_kept [] all = refl
all_kept (pass ∷ passes) all = λ i. kept_of (all 0 pass refl i) pass.keep.given pass.view.taker.mine ∷ all_kept passes (λ c other e. all (suc c) other e) i
