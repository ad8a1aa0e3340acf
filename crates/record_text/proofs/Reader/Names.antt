-- The worker or object of a name is the one whose name it is.
use Rattle.std.proofs.Common.{◌≡◌, ℕ, ◌<◌, Bool, true, false, List, length, map, get_or, refl, sym, ap, ◌∙◌, ltb, ltb-true, lt-ltb, arith, inl, inr}
use Rattle.std.specs.Prelude.{Some, option_map, slice_get}
use Rattle.std.specs.List.{position, position_or_len}
use Rattle.std.specs.Str.{bytes_eq}
use Rattle.std.proofs.lemmas.Option.{same_Some, slice_get_cases, slice_get_within, slice_get-get_or, slice_get-map}
use Rattle.std.proofs.lemmas.List.Quantifiers.{position-Some}
use Rattle.std.proofs.lemmas.List.Sums.{position_or_len_is}
use Rattle.script_text.specs.Sound.{AreDistinct}
use Rattle.record_text.proofs.Reader.Parts.{passed, same_word, equal_words}

place_within : {X : Type 0} (test : X → Bool) (xs : List X) (i : ℕ) → position test xs ≡ Some i → i < length xs
place_within test xs i e =
    let this = passed (ltb (position_or_len test xs) (length xs)) (Some (position_or_len test xs)) i e in
    omega (arith, ltb-true (position_or_len test xs) (length xs) this.0, same_Some (position_or_len test xs) i this.1)

-- the element at the place that was found has the name
pub place_takes : {X : Type 0} (named : X → List ℕ) (name : List ℕ) (xs : List X) (i : ℕ) → position (λ x. bytes_eq name (named x)) xs ≡ Some i
    → (x : X) × (slice_get xs i ≡ Some x) × (name ≡ named x)
place_takes named name xs i e =
    elim (slice_get_cases xs i).1 [
      | inl is ↦ (is.0, is.2, same_word name (named is.0) (ap (λ x. bytes_eq name (named x)) (sym is.3) ∙ (position-Some (λ x. bytes_eq name (named x)) xs i is.0 e).1))
      | inr past ↦ absurd (omega (arith, past.0, place_within (λ x. bytes_eq name (named x)) xs i e))
    ]

pub false_unless : (b : Bool) → (b ≡ true → ⊥) → b ≡ false
false_unless true never = absurd (never refl)
false_unless false never = refl

pub get_map : {X Y : Type 0} (f : X → Y) (xs : List X) (i : ℕ) (x : X) → slice_get xs i ≡ Some x → slice_get (map f xs) i ≡ Some (f x)
get_map f xs i x e = slice_get-map f xs i ∙ ap (option_map f) e

-- no element before it has its name
earlier_differs : {X : Type 0} (named : X → List ℕ) (xs : List X) (i k : ℕ) (x : X) → AreDistinct (map named xs) → slice_get xs i ≡ Some x → k < i → bytes_eq (named x) (named (get_or xs k x)) ≡ false
earlier_differs named xs i k x distinct e lt =
    let there : slice_get xs k ≡ Some (get_or xs k x) = slice_get-get_or xs k x (omega (arith, lt, slice_get_within xs i x e)) in
    false_unless (bytes_eq (named x) (named (get_or xs k x))) (λ same.
    let at_k = get_map named xs k (get_or xs k x) there ∙ ap (λ (name : List ℕ). Some name) (sym (same_word (named x) (named (get_or xs k x)) same)) in
    omega (arith, lt, distinct k i (named x) at_k (get_map named xs i x e)))

-- where no name stands twice, the element of a name is found at its place
pub place_again : {X : Type 0} (named : X → List ℕ) (xs : List X) (i : ℕ) (x : X) → AreDistinct (map named xs) → slice_get xs i ≡ Some x → position (λ y. bytes_eq (named x) (named y)) xs ≡ Some i
place_again named xs i x distinct e =
    let within = slice_get_within xs i x e in
    let same : get_or xs i x ≡ x = same_Some (get_or xs i x) x (sym (slice_get-get_or xs i x within) ∙ e) in
    let place = position_or_len_is (λ y. bytes_eq (named x) (named y)) xs i x (omega (arith, within)) (λ k lt. earlier_differs named xs i k x distinct e lt) (λ lt. rw same (equal_words (named x))) in
    rw (place, lt-ltb i (length xs) within) refl
