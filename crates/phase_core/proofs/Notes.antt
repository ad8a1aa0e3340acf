-- What the notes of a new holder give each object.
use Rattle.std.proofs.Common.{◌≡◌, ℕ, zero, suc, ◌+◌, ◌<◌, ◌∙◌, Bool, true, false, cond, eqb, ltb, List, [], ◌∷◌, ◌++◌, Option, Some, None, length, map, get_or, set, drop, sym, refl, ap, arith}
use Rattle.std.specs.List.{range_with_len, list_all, All, AllByRecursion}
use Rattle.std.proofs.lemmas.List.Elements.{All-from_recursion}
use Rattle.std.proofs.Math.Seq.{set-append_seam}
use Rattle.std.proofs.Math.Nat.{zero-add}
use Rattle.std.proofs.lemmas.List.{length-map, append_assoc}
use Rattle.std.proofs.lemmas.List.FromFn.{length-range_with_len}
use Rattle.std.proofs.lemmas.Bool.{and_parts, eqb-true, ltb-true}
use Rattle.std.proofs.lemmas.Option.{same_Some, slice_get-get_or}
use Rattle.k42_places.proofs.Rests.{drop_at}
use Rattle.phase_core.specs.Plain.{Object}
use Rattle.phase_core.specs.State.{fresh_object, note_at}
use Rattle.phase_core.specs.Notes.{note_of, numbers_of, fits_note, fit_notes}

pub length-numbers_of : (notes : List (ℕ × ℕ)) (objects : ℕ) → length (numbers_of notes objects) ≡ objects
length-numbers_of notes objects = length-map (range_with_len 0 objects) (note_of notes) ∙ length-range_with_len 0 objects

number_from : (notes : List (ℕ × ℕ)) (first n o : ℕ) → o < n → note_at (map (note_of notes) (range_with_len first n)) o ≡ note_of notes (first + o)
number_from notes first zero o within = absurd (omega arith)
number_from notes first (suc n) zero within = let e : first ≡ first + 0 = omega arith in ap (note_of notes) e
number_from notes first (suc n) (suc o) within =
    let e : (first + 1) + o ≡ first + suc o = omega arith in
    number_from notes (first + 1) n o (omega arith) ∙ ap (note_of notes) e

-- each object has the number of its notes
pub number_at : (notes : List (ℕ × ℕ)) (objects o : ℕ) → o < objects → note_at (numbers_of notes objects) o ≡ note_of notes o
number_at notes objects o within = number_from notes 0 objects o within ∙ ap (note_of notes) (zero-add o)

number_more : (notes : List (ℕ × ℕ)) (first n : ℕ)
    → map (note_of notes) (range_with_len first (n + 1)) ≡ map (note_of notes) (range_with_len first n) ++ note_of notes (first + n) ∷ []
number_more notes first zero = let e : first ≡ first + 0 = omega arith in ap (λ o. note_of notes o ∷ []) e
number_more notes first (suc n) =
    let e : (first + 1) + n ≡ first + suc n = omega arith in
    let one_more : suc n + 1 ≡ suc (n + 1) = omega arith in
    rw one_more (ap (λ l. note_of notes first ∷ l) (number_more notes (first + 1) n ∙ ap (λ o. map (note_of notes) (range_with_len (first + 1) n) ++ note_of notes o ∷ []) e))

-- one more object has got its number
pub numbers_of_more : (notes : List (ℕ × ℕ)) (noted : List (Option ℕ)) (o : ℕ) → o < length noted
    → set (numbers_of notes o ++ drop o noted) o (note_of notes o) ≡ numbers_of notes (o + 1) ++ drop (o + 1) noted
numbers_of_more notes noted o within =
    let here = drop_at noted o (get_or noted o None) (slice_get-get_or noted o None within) in
    let put = set-append_seam (numbers_of notes o) (get_or noted o None) (drop (o + 1) noted) (note_of notes o) in
    let more : numbers_of notes (o + 1) ≡ numbers_of notes o ++ note_of notes o ∷ [] =
    number_more notes 0 o ∙ ap (λ q. numbers_of notes o ++ note_of notes q ∷ []) (zero-add o) in
    rw (here, more) (rw (length-numbers_of notes o) at put ∙ sym (append_assoc (numbers_of notes o) (note_of notes o ∷ []) (drop (o + 1) noted)))

-- a number that the notes give an object fits it
pub note_fits : (objects : List Object) (notes : List (ℕ × ℕ)) (o n : ℕ) → fit_notes objects notes ≡ true → note_of notes o ≡ Some n
    → fits_note (get_or objects o fresh_object) n ≡ true
note_fits objects [] o n fit note = absurd (cc)
note_fits objects (first ∷ notes) o n fit note =
    by_test (λ found. note_fits objects notes o n (and_parts (fits_note (get_or objects first.0 fresh_object) first.1) (fit_notes objects notes) fit).1 found)
    (eqb first.0 o) refl note
  where
    by_test : (note_of notes o ≡ Some n → fits_note (get_or objects o fresh_object) n ≡ true) → (b : Bool) → eqb first.0 o ≡ b → cond b (Some first.1) (note_of notes o) ≡ Some n → fits_note (get_or objects o fresh_object) n ≡ true
    by_test later true here found =
        let same : first.0 ≡ o = eqb-true first.0 o here in
        let number : first.1 ≡ n = same_Some first.1 n found in
        rw (← same, ← number) (and_parts (fits_note (get_or objects first.0 fresh_object) first.1) (fit_notes objects notes) fit).0
    by_test later false else found = later found

-- notes of objects that are there, by the test and by the fact
pub named_all : (notes : List (ℕ × ℕ)) (objects : ℕ) → list_all (λ note. ltb note.0 objects) notes ≡ true → All (λ note. note.0 < objects) notes
named_all notes objects below = All-from_recursion (λ note. note.0 < objects) notes (each notes below) where
  each : (notes : List (ℕ × ℕ)) → list_all (λ note. ltb note.0 objects) notes ≡ true → AllByRecursion (λ note. note.0 < objects) notes
  each [] below = tt
  each (note ∷ notes) below =
      let parts = and_parts (ltb note.0 objects) (list_all (λ other. ltb other.0 objects) notes) below in
      (ltb-true note.0 objects parts.0, each notes parts.1)
