-- What a safe state is.
use Rattle.std.specs.Prelude.{◌≡◌, ℕ, ◌+◌, ◌<◌, ◌≤◌, false, IsTrue}
use Rattle.phase_core.specs.Consequences.{HasOneSwap}
use Rattle.phase_core.specs.Stages.{IsInside}
use Rattle.phase_core.specs.State.{visitor_at}
use Rattle.phase_core.specs.Runs.{HasRead}
use Rattle.k42_joined.specs.Plain.{Joined}
use Rattle.k42_joined.specs.State.{many_procs, many_callers, many_objects, object, incarnation, cell_in}

-- the cells of a row are of its life, and open
pub record IsOpenRow {L O R : Type 0} (s : Joined L O R) (o i p : ℕ) : Type 0 where
  pub life : (cell_in s o i p).life ≡ i
  pub opened : (cell_in s o i p).closed ≡ false

pub record IsSafe {L O R : Type 0} (s : Joined L O R) : Type 0 where
  -- while an object is moved, nobody is inside a row of it
  pub moved_alone :
      (c o i : ℕ) → c < many_callers s → o < many_objects s → IsTrue (object s o).moving
      → ¬ IsInside (visitor_at s.phases c).place o i
  -- who is inside a row is inside the present one, and finds its cells open
  pub inside_present :
      (c o i : ℕ) → c < many_callers s → IsInside (visitor_at s.phases c).place o i → i ≡ incarnation s o
  pub inside_open :
      (c o i p : ℕ) → c < many_callers s → IsInside (visitor_at s.phases c).place o i → p < many_procs s
      → IsOpenRow s o i p
  -- no row that was read is freed, and cells are given again only once their former row is freed
  pub read_kept : (c o i : ℕ) → c < many_callers s → HasRead s.phases c o i → (object s o).freed ≤ i
  pub given_freed :
      (o row p j : ℕ) → o < many_objects s → p < many_procs s → (cell_in s o row p).life ≡ j + 2
      → j < (object s o).freed
  -- at most one swap of an object is under way, and one is exactly where SWAP is set
  pub one_swap : (o : ℕ) → o < many_objects s → HasOneSwap s.phases o
