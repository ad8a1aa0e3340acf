-- An object is declared where its name has a place.
use Rattle.std.proofs.Common.{◌≡◌, ℕ, suc, ◌+◌, Bool, true, false, cond, not, ◌||◌, inl, inr, List, [], ◌∷◌, length, nat_lt, refl, sym, ap, ◌∙◌, arith}
use Rattle.std.specs.Prelude.{Option, Some, None, is_some}
use Rattle.std.specs.List.{list_any, position_or_len}
use Rattle.std.specs.Str.{bytes_eq}
use Rattle.std.proofs.lemmas.Bool.{cases_lt}
use Rattle.std.proofs.lemmas.Bool.Decides.{nat_tests}
use Rattle.script_text.specs.Offences.{is_among, place_among}

one_further : (n m : ℕ) → nat_lt (1 + n) (suc m) ≡ nat_lt n m
one_further n m = elim (cases_lt n m) [
  | inl under ↦
      let further : nat_lt (1 + n) (suc m) ≡ true = grind (arith, nat_tests) in
      let here : nat_lt n m ≡ true = grind (arith, nat_tests) in
      further ∙ sym here
  | inr over ↦
      let further : nat_lt (1 + n) (suc m) ≡ false = grind (arith, nat_tests) in
      let here : nat_lt n m ≡ false = grind (arith, nat_tests) in
      further ∙ sym here
]

found_before_end : {X : Type 0} (p : X → Bool) (xs : List X) → nat_lt (position_or_len p xs) (length xs) ≡ list_any p xs
found_before_end p [] = refl
found_before_end p (x ∷ xs) = elim (p x) as (λ b. nat_lt (cond (not b) (1 + position_or_len p xs) 0) (suc (length xs)) ≡ (b || list_any p xs)) [
  | true ↦ grind (arith, nat_tests)
  | false ↦ one_further (position_or_len p xs) (length xs) ∙ found_before_end p xs
]

some_where : (b : Bool) (n : ℕ) → is_some (cond b (Some n) None) ≡ b
some_where true n = refl
some_where false n = refl

is_some-place_among : (names : List (List ℕ)) (name : Option (List ℕ)) → is_some (place_among names name) ≡ is_among names name
is_some-place_among names None = refl
is_some-place_among names (Some name) =
    rw (found_before_end (bytes_eq name) names) (some_where (list_any (bytes_eq name) names) (position_or_len (bytes_eq name) names))

other_way : (b none : Bool) → b ≡ not none → none ≡ not b
other_way b true is = sym (ap not is)
other_way b false is = sym (ap not is)

-- a name is not declared where it has no place
pub undeclared : (names : List (List ℕ)) (name : Option (List ℕ)) (none : Bool) → is_some (place_among names name) ≡ not none → none ≡ not (is_among names name)
undeclared names name none is = other_way (is_among names name) none (sym (is_some-place_among names name) ∙ is)
