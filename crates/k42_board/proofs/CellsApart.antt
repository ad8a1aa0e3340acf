-- A word of a lock is no word of generations or objects, and no lock of another cell.
use Rattle.std.proofs.Common.{◌≡◌, ◌≢◌, ℕ, zero, suc, ◌||◌, Bool, ◌<◌, ◌≤◌, true, false, not, cond, eqb, List, [], ◌∷◌, Some, length, set, sym, refl, ap, ◌∙◌, subst, inl, inr, arith, get_or-set_other}
use Rattle.std.specs.List.{slice_get}
use Rattle.std.proofs.lemmas.Bool.Decides.{eqb_tells}
use Rattle.std.proofs.lemmas.Bool.{eqb-true, eq-eqb}
use Rattle.std.proofs.lemmas.Option.{slice_get_within, same_Some}
use mathlib.Core.Option.{some}
use lib.ListN.{get_elem?}
use Rattle.k42_places.specs.Places.{EachPlace}
use Rattle.gen_core.specs.Plain.{Generations}
use Rattle.phase_core.specs.Plain.{Object}
use Rattle.turn_core.specs.Names.{names}
use Rattle.k42_board.specs.Cells.{cells_noted}
use Rattle.k42_board.specs.Generations.{Counts, AreGenerations}
use Rattle.k42_board.specs.Phases.{AreObjects}
use Rattle.k42_board.specs.Taking.{cell_at_lock, without}
use Rattle.k42_board.specs.Words.{local_word, lock_word, object_word, freed_word, role_word, slot_of}
use Rattle.k42_board.specs.declared.view.Note.{Note}
use Rattle.k42_board.proofs.Begun.{processor_stays}

pub cell_of_lock : (n : ℕ) → n < 256 → cell_at_lock (lock_word n) ≡ n
cell_of_lock n few = omega (arith, few)

pub cell_at_word : (n : ℕ) → n < 256 → (word : ℕ) → word ≡ lock_word n → cell_at_lock word ≡ n
cell_at_word n few word same = ap cell_at_lock same ∙ cell_of_lock n few

pub locks_apart : (n m : ℕ) → n < 256 → m < 256 → m ≢ n → lock_word m ≢ lock_word n
locks_apart n m few small not e = not (omega (arith, few, small, e))

pub slots_apart : (n m : ℕ) → n < 256 → m < 256 → m ≢ n → slot_of m ≢ slot_of n
slots_apart n m few small not e = not (omega (arith, few, small, e))

pub generations_apart : (words : List ℕ) (n new : ℕ) (g : Generations) (counts : Counts) → n < 256 → length g.procs ≤ 8
    → AreGenerations words g counts → AreGenerations (set words (lock_word n) new) g counts
generations_apart words n new g counts few procs is = record {
  procs = λ p k e.
      let there = slice_get_within g.procs p k e in
      processor_stays words (lock_word n) new p k (λ h. omega (arith, there, procs, few)) (λ h. omega (arith, there, procs, few)) (λ h. omega (arith, there, procs, few))
      (is.procs p k e);
  role = get_or-set_other words (lock_word n) role_word new 0 (λ h. omega (arith, few)) ∙ is.role;
  graces = is.graces;
  begun = is.begun;
}

pub objects_apart : (words : List ℕ) (n new : ℕ) (objects : List Object) → n < 256 → length objects ≤ 16
    → EachPlace (λ o k. length k.entries ≤ 8) objects → AreObjects words objects → AreObjects (set words (lock_word n) new) objects
objects_apart words n new objects small few entries shown o k e =
    let there = slice_get_within objects o k e in let is = shown o k e in
    record {
      word = get_or-set_other words (lock_word n) (object_word o) new 0 (λ h. omega (arith, there, few, small)) ∙ is.word;
      freed = get_or-set_other words (lock_word n) (freed_word o) new 0 (λ h. omega (arith, there, few, small)) ∙ is.freed;
      entries = λ p x f.
          let near = slice_get_within k.entries p x f in let most = entries o k e in
          get_or-set_other words (lock_word n) (local_word p o) new 0 (λ h. omega (arith, near, most, there, few, small)) ∙ is.entries p x f;
    }

-- a function with one value replaced
abbrev pub written : {A : Type 0} → (ℕ → A) → ℕ → A → ℕ → A
written f n a m = cond (eqb m n) a (f m)

pub written_here : {A : Type 0} (f : ℕ → A) (n : ℕ) (a : A) → written f n a n ≡ a
written_here f n a = elim (eqb_tells n n) [
  | inl same ↦ rw same.0 refl
  | inr apart ↦ absurd (apart.1 refl)
]

pub written_else : {A : Type 0} (f : ℕ → A) (n : ℕ) (a : A) (m : ℕ) → m ≢ n → written f n a m ≡ f m
written_else f n a m not = elim (eqb_tells m n) [
  | inl same ↦ absurd (not same.1)
  | inr apart ↦ rw apart.0 refl
]

-- a note of the cell, among the notes that name it
pub record HasNote {P O R : Type 0} (notes : List (Note P O R)) (n : ℕ) : Type 0 where
  pub place : ℕ
  pub note : Note P O R
  pub there : slice_get notes place ≡ Some note
  pub named : note.cell ≡ n

-- lists of notes with one note more, or without one cell
pub each_first : {A : Type 0} (Q : A → Type 0) (x : A) (xs : List A) → Q x → EachPlace (λ place y. Q y) xs → EachPlace (λ place y. Q y) (x ∷ xs)
each_first Q x xs q each zero y e = subst Q (same_Some x y e) q
each_first Q x xs q each (suc i) y e = each i y e

pub first_noted : (m n : ℕ) (cells : List ℕ) → m ≡ n → names (m ∷ cells) n ≡ true
first_noted m n cells e = let same = eq-eqb m n e in rw same refl

pub further_noted : (m n : ℕ) (cells : List ℕ) → names cells n ≡ true → names (m ∷ cells) n ≡ true
further_noted m n cells e = go (eqb m n) where
  go : (b : Bool) → b || names cells n ≡ true
  go true = refl
  go false = e

pub note_of : {P O R : Type 0} (notes : List (Note P O R)) (n : ℕ) → names (cells_noted notes) n ≡ true → HasNote notes n
note_of [] n e = absurd (cc)
note_of (note ∷ notes) n e = go (eqb note.cell n) refl e (note_of notes n) where
  go : (b : Bool) → eqb note.cell n ≡ b → b || names (cells_noted notes) n ≡ true → (names (cells_noted notes) n ≡ true → HasNote notes n)
      → HasNote (note ∷ notes) n
  go true same e rest' = record { place = 0; note = note; there = refl; named = eqb-true note.cell n same }
  go false apart e rest' = let rest = rest' e in record { place = suc rest.place; note = rest.note; there = rest.there; named = rest.named }

pub is_noted : {P O R : Type 0} (notes : List (Note P O R)) (i : ℕ) (note : Note P O R) → slice_get notes i ≡ Some note → names (cells_noted notes) note.cell ≡ true
is_noted [] i note e = absurd (cc)
is_noted {O} {R} (first ∷ notes) zero note e = first_noted first.cell note.cell (cells_noted notes) (ap (λ (x : Note _ O R). x.cell) (same_Some first note e))
is_noted (first ∷ notes) (suc i) note e = further_noted first.cell note.cell (cells_noted notes) (is_noted notes i note e)

pub record IsKept {P O R : Type 0} (notes : List (Note P O R)) (n : ℕ) (note : Note P O R) : Type 0 where
  pub apart : note.cell ≢ n
  pub place : ℕ
  pub there : slice_get notes place ≡ Some note

pub each_without : {P O R : Type 0} (n : ℕ) (notes : List (Note P O R)) → EachPlace (λ place note. IsKept notes n note) (without n notes)
each_without n [] = λ i note e. absurd (cc)
each_without {O} {R} n (first ∷ notes) = go (eqb first.cell n) refl (each_without n notes) where
  further : (note : Note _ O R) → IsKept notes n note → IsKept (first ∷ notes) n note
  further note kept = record { apart = kept.apart; place = suc kept.place; there = kept.there }

  go : (b : Bool) → eqb first.cell n ≡ b → EachPlace (λ place note. IsKept notes n note) (without n notes)
      → EachPlace (λ place note. IsKept (first ∷ notes) n note) (cond (not b) (first ∷ without n notes) (without n notes))
  go true same rest = λ i note e. further note (rest i note e)
  go false apart rest = each_first (IsKept (first ∷ notes) n) first (without n notes)
      (record { apart = λ e. let is = eq-eqb first.cell n e in absurd (cc); place = 0; there = refl })
      (λ i note e. further note (rest i note e))

pub still_noted : {P O R : Type 0} (n m : ℕ) (notes : List (Note P O R)) → m ≢ n → names (cells_noted notes) m ≡ true → names (cells_noted (without n notes)) m ≡ true
still_noted n m [] apart e = e
still_noted n m (first ∷ notes) apart e = go (eqb first.cell n) (eqb first.cell m) refl refl e (still_noted n m notes apart) where
  go : (b d : Bool) → eqb first.cell n ≡ b → eqb first.cell m ≡ d → d || names (cells_noted notes) m ≡ true
      → (names (cells_noted notes) m ≡ true → names (cells_noted (without n notes)) m ≡ true)
      → names (cells_noted (cond (not b) (first ∷ without n notes) (without n notes))) m ≡ true
  go true true here there e rest = absurd (apart (sym (eqb-true first.cell m there) ∙ eqb-true first.cell n here))
  go true false here there e rest = rest e
  go false true here there e rest = first_noted first.cell m (cells_noted (without n notes)) (eqb-true first.cell m there)
  go false false here there e rest = further_noted first.cell m (cells_noted (without n notes)) (rest e)

pub at_within : {A : Type 0} (xs : List A) (i : ℕ) (x : A) → get_elem? xs i ≡ some x → i < length xs
at_within [] i x e = absurd (cc)
at_within (y ∷ ys) zero x e = omega arith
at_within (y ∷ ys) (suc i) x e = let rest = at_within ys i x e in omega (arith, rest)
