-- Entries that are read one after the other.
use Rattle.std.proofs.Common.{◌≡◌, ◌∙◌, ℕ, zero, suc, ◌+◌, ◌<◌, ◌≤◌, List, [], ◌∷◌, ◌++◌, length, map, take, drop, set, Option, Some, None, true, refl, sym, ap, arith}
use Rattle.std.proofs.Math.ListN.{drop_of_length-le}
use Rattle.std.proofs.lemmas.List.{drop-drop, length-drop}
use Rattle.std.proofs.lemmas.Option.{same_Some}
use Rattle.std.specs.Prelude.{is_none, slice_get}
use Rattle.k42_kinds.specs.declared.operation.Op.{Op}
use Rattle.k42_kinds.specs.declared.operation.Reply.{Reply}
use Rattle.k42_kinds.specs.declared.entry.Entry.{Entry}
use Rattle.k42_handles.specs.Plain.{plain_entry}
use Rattle.k42_handles.specs.Reading.{HasRead}
use Rattle.k42_handles.specs.declared.plain.K42Entry.{K42Entry}

module _ {A : Type 0} where
  pub none_is : (found : Option A) → is_none found ≡ true → found ≡ None
  none_is None tested = refl
  none_is (Some x) tested = absurd (cc)

  none_left : (xs : List A) → slice_get xs 0 ≡ None → xs ≡ []
  none_left [] none = refl
  none_left (x ∷ xs) none = absurd (cc)

  read_past : (n : ℕ) (xs : List A) → slice_get (drop n xs) 0 ≡ None → length xs ≤ n
  read_past n xs none =
      let none : length (drop n xs) ≡ 0 = ap length (none_left (drop n xs) none) in omega (arith, length-drop n xs, none)

  -- the next of them
  pub skip_one : (n : ℕ) (xs : List A) → drop 1 (drop n xs) ≡ drop (n + 1) xs
  skip_one n xs = drop-drop 1 n xs

  -- where there is no next, all that were to be skipped are
  pub skip_all : (n m : ℕ) (xs : List A) → slice_get (drop n xs) 0 ≡ None → n ≤ m → drop 1 (drop n xs) ≡ drop m xs
  skip_all n m xs none within =
      let past = read_past n xs none in
      skip_one n xs ∙ drop_of_length-le xs {i = n + 1} (omega arith) ∙ sym (drop_of_length-le xs {i = m} (omega arith))

-- so many entries have been read
pub record IsReading (n : ℕ) (entries rest : List (Entry Op Reply)) (old new : List K42Entry) : Type 0 where
  pub few : n ≤ length old
  pub some : n ≤ length entries
  pub rest_is : rest ≡ drop n entries
  pub places : new ≡ map plain_entry (take n entries) ++ drop n old

pub reads_none : (entries : List (Entry Op Reply)) (old : List K42Entry) → IsReading 0 entries entries old old
reads_none entries old = record { few = omega arith; some = omega arith; rest_is = refl; places = refl }

write_next : (n : ℕ) (entries : List (Entry Op Reply)) (entry : Entry Op Reply) (old : List K42Entry) → slice_get (drop n entries) 0 ≡ Some entry → n < length old
    → set (map plain_entry (take n entries) ++ drop n old) n (plain_entry entry) ≡ map plain_entry (take (suc n) entries) ++ drop (suc n) old
write_next zero [] entry old next there = absurd (cc)
write_next zero (here ∷ entries) entry [] next there = absurd (omega arith)
write_next zero (here ∷ entries) entry (place ∷ old) next there = ap (λ read. plain_entry read ∷ old) (sym (same_Some here entry next))
write_next (suc n) [] entry old next there = absurd (cc)
write_next (suc n) (here ∷ entries) entry [] next there = absurd (omega arith)
write_next (suc n) (here ∷ entries) entry (place ∷ old) next there = ap (λ places. plain_entry here ∷ places) (write_next n entries entry old next (omega arith))

there_is : (n : ℕ) (entries : List (Entry Op Reply)) (entry : Entry Op Reply) → slice_get (drop n entries) 0 ≡ Some entry → n < length entries
there_is zero [] entry next = absurd (cc)
there_is zero (here ∷ entries) entry next = omega arith
there_is (suc n) [] entry next = absurd (cc)
there_is (suc n) (here ∷ entries) entry next = let more = there_is n entries entry next in omega arith

pub reads_next : (n : ℕ) (entries rest left : List (Entry Op Reply)) (old new next_places : List K42Entry) (entry : Entry Op Reply) → IsReading n entries rest old new → n < length old
    → slice_get rest 0 ≡ Some entry → left ≡ drop 1 rest → next_places ≡ set new n (plain_entry entry) → IsReading (n + 1) entries left old next_places
reads_next n entries rest left old new next_places entry is there next left_is places =
    let next' : slice_get (drop n entries) 0 ≡ Some entry = ap (λ xs. slice_get xs 0) (sym is.rest_is) ∙ next in
    let one : suc n ≡ n + 1 = omega arith in
    let more = there_is n entries entry next' in
    record {
      few = omega arith;
      some = omega arith;
      rest_is = left_is ∙ ap (drop 1) is.rest_is ∙ skip_one n entries;
      places =
          places
          ∙ ap (λ xs. set xs n (plain_entry entry)) is.places
          ∙ write_next n entries entry old next' there
          ∙ ap (λ m. map plain_entry (take m entries) ++ drop m old) one;
    }

pub read_full : (n : ℕ) (entries rest : List (Entry Op Reply)) (old new : List K42Entry) → IsReading n entries rest old new → length old ≤ n → HasRead entries old new n
read_full n entries rest old new is full =
    let few = is.few in let some = is.some in record { count_is = omega arith; places = is.places }

pub read_ended : (n : ℕ) (entries rest : List (Entry Op Reply)) (old new : List K42Entry) → IsReading n entries rest old new → slice_get rest 0 ≡ None → HasRead entries old new n
read_ended n entries rest old new is none =
    let past = read_past n entries (ap (λ xs. slice_get xs 0) (sym is.rest_is) ∙ none) in
    let few = is.few in let some = is.some in record { count_is = omega arith; places = is.places }
