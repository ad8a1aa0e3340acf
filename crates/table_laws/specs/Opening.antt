-- Passes that have done nothing, and what a state is like while all passes are such.
use Rattle.std.specs.Prelude.{◌≡◌, ◌⊎◌, ℕ, ◌%◌, ◌<◌, ◌^◌, true, List, [], length, map, Some, None, slice_get, slice_index}
use mathlib.Core.Option.{some}
use lib.ListN.{get_elem?}
use Rattle.k42_places.specs.Places.{EachPlace}
use Rattle.k42_shapes.specs.declared.shape.Shape.{Shape}
use Rattle.gen_core.specs.Plain.{Generations}
use Rattle.gen_core.specs.declared.state.GenProc.{GenProc}
use Rattle.phase_core.specs.Effects.{direct_entry}
use Rattle.phase_core.specs.Plain.{Object}
use Rattle.phase_core.specs.State.{empty_entry}
use Rattle.turn_core.specs.Plain.{Cell}
use Rattle.k42_stamp.specs.Layouts.{Layouts}
use Rattle.k42_joined.specs.Fresh.{fresh}
use Rattle.k42_joined.specs.Numbers.{place_of}
use Rattle.k42_joined.specs.Plain.{Joined}
use Rattle.k42_joined.specs.State.{many_objects, object, cell}
use Rattle.k42_board.specs.Generations.{in_words}
use Rattle.k42_board.specs.Views.{new_pass}
use Rattle.k42_board.specs.Words.{exits_word, generation_word, local_word}
use Rattle.k42_board.specs.declared.view.PassView.{PassView}
use Rattle.k42_board.specs.declared.view.View.{View}
use Rattle.k42_board.specs.declared.view.View.TheVariants.{Crew}

-- a seat has the pass, alone or among others
pub record HasSeat {P O R : Type 0} (views : List (View P O R)) (v : PassView P O R) : Type 0 where
  pub id : ℕ
  pub passes : List (PassView P O R)
  pub there : get_elem? views id ≡ some (Crew passes)
  pub place : ℕ
  pub has : slice_get passes place ≡ Some v

-- the pass of each caller, of those on these processors, is new, to objects with live layouts of these shapes
abbrev pub AreNewPasses : {P O R : Type 0} → ℕ → List (List Shape) → List ℕ → List (View P O R) → Type 0
AreNewPasses procs shapes callers views =
    EachPlace (λ c home. HasSeat views (new_pass procs shapes c home)) callers

-- the words of a processor are 0
pub record IsBlank (words : List ℕ) (p : ℕ) : Type 0 where
  pub generation : slice_index words (generation_word p) ≡ 0
  pub even : slice_index words (exits_word p 0) ≡ 0
  pub odd : slice_index words (exits_word p 1) ≡ 0

-- so are those of each processor, and the word of each local entry
pub record AreBlank (procs objects : ℕ) (words : List ℕ) : Type 0 where
  pub processors : (p : ℕ) → p < procs → IsBlank words p
  pub entries : (o p : ℕ) → o < objects → p < procs → slice_index words (local_word p o) ≡ 0

-- no grace has flipped the processor, and nobody is on it; how many were, no pass tells
pub record IsVacant (k : GenProc) : Type 0 where
  pub generation : k.generation ≡ 0
  pub left : k.entered ≡ k.exits_even

-- a processor as its words tell of it
abbrev pub proc_in_words : GenProc → GenProc
proc_in_words k = record k {
  entered = k.entered % 2 ^ 32;
  exits_even = k.exits_even % 2 ^ 64;
  exits_odd = k.exits_odd % 2 ^ 64;
}

abbrev pub turns_in_words : Generations → Generations
turns_in_words g = record g { procs = map proc_in_words g.procs; callers = map in_words g.callers }

-- and the state, of which all else is told whole
abbrev pub state_in_words : {L O R : Type 0} → Joined L O R → Joined L O R
state_in_words s = record s { phases = record s.phases { turns = turns_in_words s.phases.turns } }

-- an object is as it was made, but that entries may lead to its row already
pub record IsAsMade (made k : Object) : Type 0 where
  pub is : k ≡ record made { entries = k.entries }
  pub many : length k.entries ≡ length made.entries
  pub entries :
      EachPlace (λ p e.
      (e ≡ empty_entry made.incarnation)
      ⊎ (e ≡ direct_entry made.shapes made.layout p made.incarnation))
      k.entries

-- nobody holds the cell, and no entry was drawn at it
pub record IsUnused {O R : Type 0} (x : Cell O R) : Type 0 where
  pub lock : x.lock ≡ None
  pub home : x.home ≡ true
  pub history : x.history ≡ []

-- A state is like another but for how many have been on its processors, for entries that lead to a row, and for cells at
-- places past the processors.
pub record IsLike {L O R : Type 0} (procs : ℕ) (new s : Joined L O R) : Type 0 where
  pub role : s.phases.turns.role ≡ new.phases.turns.role
  pub turning : map in_words s.phases.turns.callers ≡ new.phases.turns.callers
  pub many_procs : length s.phases.turns.procs ≡ length new.phases.turns.procs
  pub vacant : EachPlace (λ p k. IsVacant k) s.phases.turns.procs
  pub visitors : s.phases.callers ≡ new.phases.callers
  pub many : many_objects s ≡ many_objects new
  pub objects : (o : ℕ) → o < many_objects s → IsAsMade (object new o) (object s o)
  pub callers : s.turns.callers ≡ new.turns.callers
  pub many_cells : length s.turns.cells ≡ length new.turns.cells
  pub cells : (n : ℕ) → place_of n < procs → cell s n ≡ cell new n
  pub unused : EachPlace (λ n x. IsUnused x) s.turns.cells
  pub hands : s.hands ≡ new.hands
  pub kept : s.kept ≡ new.kept

-- the state is like the one before the first event
abbrev pub IsNew : {S L P O R : Type 0} → Layouts S L P O R → List L → List ℕ → Joined L O R → Type 0
IsNew F declared callers s = IsLike F.procs (fresh F declared callers) s
