-- A word of one kind is none of another kind.
use Rattle.std.proofs.Common.{◌≢◌, ℕ, ◌+◌, ◌*◌, ◌<◌, ◌≤◌, List, length, set, ◌∙◌, arith, get_or-set_other}
use Rattle.std.proofs.lemmas.Option.{slice_get_within}
use mathlib.Core.Option as maybe
use Rattle.turn_core.specs.Plain.{Cell}
use Rattle.phase_core.specs.Plain.{Object}
use Rattle.k42_places.specs.Places.{EachPlace}
use Rattle.k42_board.specs.Cells.{Slot, Contents, IsCellShown}
use Rattle.k42_board.specs.Phases.{AreObjects}
use Rattle.k42_board.specs.Words.{local_word, lock_word, object_word, freed_word, role_word}

-- a word of generations is no word of objects or locks
pub record IsOfGenerations (i : ℕ) : Type 0 where
  pub objects : (o : ℕ) → o < 16 → object_word o ≢ i
  pub freed : (o : ℕ) → o < 16 → freed_word o ≢ i
  pub entries : (p o : ℕ) → p < 8 → o < 16 → local_word p o ≢ i
  pub locks : (n : ℕ) → n < 256 → lock_word n ≢ i

pub of_processor : (p k : ℕ) → p < 8 → k < 3 → IsOfGenerations (16 + 64 * p + k)
of_processor p k few small = record {
  objects = λ o lt e. omega arith;
  freed = λ o lt e. omega arith;
  entries = λ q o within lt e. omega arith;
  locks = λ n lt e. omega arith;
}

pub of_role : IsOfGenerations role_word
of_role = record {
  objects = λ o lt e. omega arith;
  freed = λ o lt e. omega arith;
  entries = λ q o within lt e. omega arith;
  locks = λ n lt e. omega arith;
}

-- objects and cells are shown as before
pub objects_stay : (words : List ℕ) (i new : ℕ) (objects : List Object) → IsOfGenerations i → length objects ≤ 16
    → EachPlace (λ o k. length k.entries ≤ 8) objects → AreObjects words objects → AreObjects (set words i new) objects
objects_stay words i new objects apart few entries shown o k e =
    let there = slice_get_within objects o k e in let is = shown o k e in let lt : o < 16 = omega (arith, there, few) in
    record {
      word = get_or-set_other words i (object_word o) new 0 (apart.objects o lt) ∙ is.word;
      freed = get_or-set_other words i (freed_word o) new 0 (apart.freed o lt) ∙ is.freed;
      entries = λ p x f.
          let near = slice_get_within k.entries p x f in let most = entries o k e in
          get_or-set_other words i (local_word p o) new 0 (apart.entries p o (omega (arith, near, most)) lt) ∙ is.entries p x f;
    }

pub cells_stay : {P O R : Type 0} (procs : ℕ) (words : List ℕ) (homes : List (maybe.Option (Slot P O R))) (contents : Contents P) (i new : ℕ) (cells : List (Cell O R))
    → IsOfGenerations i → length cells ≤ 256 → EachPlace (IsCellShown procs words homes contents) cells
    → EachPlace (IsCellShown procs (set words i new) homes contents) cells
cells_stay procs words homes contents i new cells apart few shown n x e =
    let there = slice_get_within cells n x e in let is = shown n x e in
    record {
      lock = get_or-set_other words i (lock_word n) new 0 (apart.locks n (omega (arith, there, few))) ∙ is.lock;
      slot = is.slot;
    }
