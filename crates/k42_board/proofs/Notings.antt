-- What a pass notes as it takes the role, as notes of objects.
use Rattle.std.proofs.Common.{◌≡◌, ℕ, zero, suc, ◌+◌, ◌<◌, ◌≤◌, Bool, true, false, cond, eqb, leb, List, [], ◌∷◌, ◌++◌, Option, Some, None, length, get_or, set, drop, sym, refl, ap, ◌∙◌, arith}
use Rattle.std.specs.List.{slice_get, list_all, All, AllByRecursion}
use Rattle.std.specs.Option.{unwrap_or}
use Rattle.std.specs.Prelude.{max}
use Rattle.std.proofs.Math.Seq.{set-append_seam}
use Rattle.std.proofs.Math.Nat.{zero-add, le-max_left, le-max_right, max-eq_left, max-eq_right}
use Rattle.std.proofs.lemmas.List.Sums.{sum_by-cons}
use Rattle.std.proofs.lemmas.Bool.{eq-eqb, ne_eqb, eqb-true, leb-true, leb-false}
use Rattle.std.proofs.lemmas.List.{same_lists, append_assoc}
use Rattle.std.proofs.lemmas.List.Elements.{All-from_recursion}
use Rattle.std.proofs.lemmas.Option.{same_Some, slice_get-get_or, get_or_from_slice_get}
use Rattle.k42_kinds.specs.Rows.{made_from}
use Rattle.k42_places.specs.Places.{EachPlace}
use Rattle.k42_kinds.proofs.RowSteps.{made_from_push}
use Rattle.k42_places.proofs.Rests.{drop_at}
use Rattle.k42_places.proofs.Counts.{count_by_some, count_by_none}
use Rattle.phase_core.specs.Notes.{note_of, numbers_of, times_named, name_each_once, fits_note, fit_notes}
use Rattle.phase_core.specs.Plain.{Object}
use Rattle.phase_core.specs.State.{fresh_object, note_at}
use Rattle.phase_core.proofs.Notes.{number_at, length-numbers_of}
use Rattle.k42_board.specs.Noting.{after_rows, pairs_from}
use Rattle.k42_board.specs.declared.view.Row.{Row}

-- a number that is known stands in the list that it was read of
pub note_there : (notes : List (Option ℕ)) (o n : ℕ) → note_at notes o ≡ Some n → o < length notes
note_there [] o n e = absurd (cc)
note_there (first ∷ notes) zero n e = omega arith
note_there (first ∷ notes) (suc o) n e = let rest = note_there notes o n e in omega (arith, rest)

-- each of the pairs is of the number that stands at its object's place
pair_is : (first : ℕ) (notes : List (Option ℕ)) (i : ℕ) (pair : ℕ × ℕ) → slice_get (pairs_from first notes) i ≡ Some pair
    → (j : ℕ) × (j < length notes) × (pair.0 ≡ first + j) × (note_at notes j ≡ Some pair.1)
pair_is first [] i pair e = absurd (cc)
pair_is first (None ∷ notes) i pair e =
    let is = pair_is (first + 1) notes i pair e in
    (suc is.0, (let lt = is.1 in omega (arith, lt)), (let at = is.2 in omega (arith, at)), is.3)
pair_is first (Some n ∷ notes) zero pair e =
    let same : (first, n) ≡ pair = same_Some (first, n) pair e in
    (0, omega arith, (let here : first ≡ pair.0 = ap (λ (z : ℕ × ℕ). z.0) same in omega (arith, here)), ap (λ (z : ℕ × ℕ). Some z.1) same)
pair_is first (Some n ∷ notes) (suc i) pair e =
    let is = pair_is (first + 1) notes i pair e in
    (suc is.0, (let lt = is.1 in omega (arith, lt)), (let at = is.2 in omega (arith, at)), is.3)

-- the pairs give an object the number at its place

none_before : (first : ℕ) (notes : List (Option ℕ)) (o : ℕ) → o < first → note_of (pairs_from first notes) o ≡ None
none_before first [] o lt = refl
none_before first (None ∷ notes) o lt = none_before (first + 1) notes o (omega (arith, lt))
none_before first (Some n ∷ notes) o lt =
    rw (ne_eqb first o (λ e. omega (arith, lt, e))) (none_before (first + 1) notes o (omega (arith, lt)))

note_of_pairs : (first : ℕ) (notes : List (Option ℕ)) (j : ℕ) → note_of (pairs_from first notes) (first + j) ≡ note_at notes j
note_of_pairs first [] j = refl
note_of_pairs first (None ∷ notes) zero = none_before (first + 1) notes (first + 0) (omega arith)
note_of_pairs first (None ∷ notes) (suc j) =
    ap (note_of (pairs_from (first + 1) notes)) (omega arith) ∙ note_of_pairs (first + 1) notes j
note_of_pairs first (Some n ∷ notes) zero = rw (eq-eqb first (first + 0) (omega arith)) refl
note_of_pairs first (Some n ∷ notes) (suc j) =
    rw (ne_eqb first (first + suc j) (λ e. omega (arith, e)))
    (ap (note_of (pairs_from (first + 1) notes)) (omega arith) ∙ note_of_pairs (first + 1) notes j)

pub noted_of : (notes : List (Option ℕ)) (o : ℕ) → note_of (pairs_from 0 notes) o ≡ note_at notes o
noted_of notes o = ap (note_of (pairs_from 0 notes)) (omega arith) ∙ note_of_pairs 0 notes o

-- so these are all numbers
pub numbers_noted : (notes : List (Option ℕ)) → numbers_of (pairs_from 0 notes) (length notes) ≡ notes
numbers_noted notes =
    same_lists (numbers_of (pairs_from 0 notes) (length notes)) notes (length-numbers_of (pairs_from 0 notes) (length notes))
    (λ o d lt.
    let within : o < length notes = rw (length-numbers_of (pairs_from 0 notes) (length notes)) at lt in
    get_or_any (numbers_of (pairs_from 0 notes) (length notes)) o d None lt
    ∙ number_at (pairs_from 0 notes) (length notes) o within ∙ noted_of notes o ∙ get_or_any notes o None d within)
  where
    get_or_any : (xs : List (Option ℕ)) (o : ℕ) (d e : Option ℕ) → o < length xs → get_or xs o d ≡ get_or xs o e
    get_or_any xs o d e lt = get_or_from_slice_get xs o (get_or xs o e) d (slice_get-get_or xs o e lt)

-- no object is named twice

times_before : (first : ℕ) (notes : List (Option ℕ)) (o : ℕ) → o < first → times_named (pairs_from first notes) o ≡ 0
times_before first notes o lt =
    count_by_none (λ note. eqb note.0 o) (pairs_from first notes)
    (λ i pair e.
    let is = pair_is first notes i pair e in
    ne_eqb pair.0 o (λ same. let at = is.2 in omega (arith, at, same, lt)))

times_once : (first : ℕ) (notes : List (Option ℕ)) (o : ℕ) → times_named (pairs_from first notes) o ≤ 1
times_once first [] o = omega arith
times_once first (None ∷ notes) o = times_once (first + 1) notes o
times_once first (Some n ∷ notes) o = by_test (times_once (first + 1) notes o) (eqb first o) refl where
  by_test : times_named (pairs_from (first + 1) notes) o ≤ 1 → (b : Bool) → eqb first o ≡ b → times_named ((first, n) ∷ pairs_from (first + 1) notes) o ≤ 1
  by_test rest true e =
      let same = eqb-true first o e in
      let none = times_before (first + 1) notes o (omega (arith, same)) in
      rw (sum_by-cons (λ (z : ℕ × ℕ). cond (eqb z.0 o) 1 0) (first, n) (pairs_from (first + 1) notes)) (rw e (omega (arith, none)))
  by_test rest false e =
      rw (sum_by-cons (λ (z : ℕ × ℕ). cond (eqb z.0 o) 1 0) (first, n) (pairs_from (first + 1) notes)) (rw e (omega (arith, rest)))

pub all_from : {A : Type 0} (p : A → Bool) (xs : List A) → EachPlace (λ i x. p x ≡ true) xs → list_all p xs ≡ true
all_from p [] each = refl
all_from p (x ∷ xs) each = rw (each 0 x refl) (all_from p xs (λ i y e. each (suc i) y e))

pub named_once : (notes : List (Option ℕ)) → name_each_once (pairs_from 0 notes) ≡ true
named_once notes =
    all_from (λ note. eqb (times_named (pairs_from 0 notes) note.0) 1) (pairs_from 0 notes)
    (λ i pair e.
    let some = count_by_some (λ (note : ℕ × ℕ). eqb note.0 pair.0) (pairs_from 0 notes) i pair e (eq-eqb pair.0 pair.0 refl) in
    let once = times_once 0 notes pair.0 in
    eq-eqb (times_named (pairs_from 0 notes) pair.0) 1 (omega (arith, some, once)))

-- where each number fits its object, the pairs do
pub fitting : (objects : List Object) (notes : List (Option ℕ))
    → ((o n : ℕ) → note_at notes o ≡ Some n → fits_note (get_or objects o fresh_object) n ≡ true)
    → fit_notes objects (pairs_from 0 notes) ≡ true
fitting objects notes fits =
    all_from (λ note. fits_note (get_or objects note.0 fresh_object) note.1) (pairs_from 0 notes)
    (λ i pair e.
    let is = pair_is 0 notes i pair e in
    fits pair.0 pair.1 (ap (note_at notes) (let at = is.2 in omega (arith, at)) ∙ is.3))

pub pairs_there : (objects : ℕ) (notes : List (Option ℕ)) → length notes ≤ objects → All (λ note. note.0 < objects) (pairs_from 0 notes)
pairs_there objects notes few =
    All-from_recursion (λ note. note.0 < objects) (pairs_from 0 notes)
    (recursion_from_each (pairs_from 0 notes) (λ i pair e.
    let is = pair_is 0 notes i pair e in let at = is.2 in let lt = is.1 in omega (arith, at, lt, few)))
  where
    recursion_from_each : (pairs : List (ℕ × ℕ)) → EachPlace (λ i note. note.0 < objects) pairs → AllByRecursion (λ note. note.0 < objects) pairs
    recursion_from_each [] each = tt
    recursion_from_each (pair ∷ pairs) each = (each 0 pair refl, recursion_from_each pairs (λ i x e. each (suc i) x e))

-- what is made for each number stands at its place
pub made_length : {A : Type 0} (make : ℕ → A) (first many : ℕ) → length (made_from make first many) ≡ many
made_length make first zero = refl
made_length make first (suc many) = ap suc (made_length make (suc first) many)

made_at : (make : ℕ → Option ℕ) (first many o : ℕ) → o < many → note_at (made_from make first many) o ≡ make (first + o)
made_at make first zero o lt = absurd (omega (arith, lt))
made_at make first (suc many) zero lt = ap make (omega arith)
made_at make first (suc many) (suc o) lt = made_at make (suc first) many o (omega (arith, lt)) ∙ ap make (omega arith)

pub made_note : (make : ℕ → Option ℕ) (many o : ℕ) → o < many → note_at (made_from make 0 many) o ≡ make o
made_note make many o lt = made_at make 0 many o lt ∙ ap make (omega arith)

-- a number that is noted after rows fits the object, where each row does
fits_max : (k : Object) (a b : ℕ) → fits_note k a ≡ true → fits_note k b ≡ true → fits_note k (max a b) ≡ true
fits_max k a b one two = by_order (leb a b) refl where
  by_order : (t : Bool) → leb a b ≡ t → fits_note k (max a b) ≡ true
  by_order true e = rw (let le = leb-true a b e in max-eq_right {n = a} {m = b} le) two
  by_order false e = rw (let lt = leb-false a b e in max-eq_left {n = a} {m = b} (omega (arith, lt))) one

pub rows_fit : (k : Object) (o : ℕ) (rows : List Row) (n : ℕ)
    → EachPlace (λ place row. row.object ≡ o → fits_note k (row.incarnation + 1) ≡ true) rows
    → after_rows rows o ≡ Some n → fits_note k n ≡ true
rows_fit k o [] n each e = absurd (cc)
rows_fit k o (row ∷ rows) n each e =
    by_test (λ m here. rows_fit k o rows m (λ i x at. each (suc i) x at) here) (eqb row.object o) refl e where
      Fits : Type 0
      Fits = (m : ℕ) → after_rows rows o ≡ Some m → fits_note k m ≡ true

      newest : Fits → row.object ≡ o → (found : Option ℕ) → after_rows rows o ≡ found → fits_note k (max (row.incarnation + 1) (unwrap_or found 0)) ≡ true
      newest rest same None here = rw (max-eq_left {n = row.incarnation + 1} {m = 0} (omega arith)) (each 0 row refl same)
      newest rest same (Some m) here = fits_max k (row.incarnation + 1) m (each 0 row refl same) (rest m here)

      by_test : Fits → (b : Bool) → eqb row.object o ≡ b
          → cond b (Some (max (row.incarnation + 1) (unwrap_or (after_rows rows o) 0))) (after_rows rows o) ≡ Some n → fits_note k n ≡ true
      by_test rest true same is =
          rw (← same_Some (max (row.incarnation + 1) (unwrap_or (after_rows rows o) 0)) n is)
          (newest rest (eqb-true row.object o same) (after_rows rows o) refl)
      by_test rest false not is = rest n is

-- and is above each row of the object
pub rows_below : (rows : List Row) (o place : ℕ) (row : Row) → slice_get rows place ≡ Some row → row.object ≡ o
    → (n : ℕ) × (after_rows rows o ≡ Some n) × (row.incarnation < n)
rows_below [] o place row e same = absurd (cc)
rows_below (x ∷ rows) o place row e same = by_test (λ i here. rows_below rows o i row here same) place e (eqb x.object o) refl where
  most : ℕ
  most = max (x.incarnation + 1) (unwrap_or (after_rows rows o) 0)

  by_test : ((i : ℕ) → slice_get rows i ≡ Some row → (n : ℕ) × (after_rows rows o ≡ Some n) × (row.incarnation < n))
      → (place : ℕ) → slice_get (x ∷ rows) place ≡ Some row → (b : Bool) → eqb x.object o ≡ b
      → (n : ℕ) × (after_rows (x ∷ rows) o ≡ Some n) × (row.incarnation < n)
  by_test rest zero here true test =
      (most, rw test refl, rw (← same_Some x row here) (let more = le-max_left (x.incarnation + 1) (unwrap_or (after_rows rows o) 0) in omega (arith, more)))
  by_test rest zero here false test =
      absurd (let is : x.object ≡ o = ap (λ (z : Row). z.object) (same_Some x row here) ∙ same in let yes = eq-eqb x.object o is in cc)
  by_test rest (suc i) here true test =
      let later = rest i here in (
        most,
        rw test refl,
        let more : later.0 ≤ most = rw later.1 (le-max_right (x.incarnation + 1) later.0) in let lt = later.2 in omega (arith, more, lt),
      )
  by_test rest (suc i) here false test =
      let later = rest i here in (later.0, rw test later.1, later.2)

-- one more number is made
pub made_more : (make : ℕ → Option ℕ) (noted : List (Option ℕ)) (o : ℕ) → o < length noted
    → set (made_from make 0 o ++ drop o noted) o (make o) ≡ made_from make 0 (o + 1) ++ drop (o + 1) noted
made_more make noted o within =
    let here = drop_at noted o (get_or noted o None) (slice_get-get_or noted o None within) in
    let put = set-append_seam (made_from make 0 o) (get_or noted o None) (drop (o + 1) noted) (make o) in
    let more : made_from make 0 (o + 1) ≡ made_from make 0 o ++ make o ∷ [] =
    made_from_push make 0 o ∙ ap (λ q. made_from make 0 o ++ make q ∷ []) (zero-add o) in
    rw (here, more) (rw (made_length make 0 o) at put ∙ sym (append_assoc (made_from make 0 o) (make o ∷ []) (drop (o + 1) noted)))
