-- A state at rest, and the history that its callers kept.
use Rattle.std.specs.Prelude.{◌≡◌, ℕ, ◌<◌, true, List, Some}
use Rattle.k42_kinds.specs.Histories.{IsInOrder}
use Rattle.k42_kinds.specs.Legal.{IsLegalHistoryOf}
use Rattle.k42_kinds.specs.declared.entry.Entry.{Entry}
use Rattle.phase_core.specs.Stages.{named_by}
use Rattle.k42_stamp.specs.Layouts.{Layouts}
use Rattle.k42_joined.specs.Plain.{Joined}
use Rattle.k42_joined.specs.State.{many_callers, swap_of, mine}
use Rattle.k42_joined.specs.Answers.{is_refused}

-- no swap is under way: whoever names an object was refused
abbrev pub IsAtRest : {L O R : Type 0} → Joined L O R → Type 0
IsAtRest s =
    (c o : ℕ) → c < many_callers s → named_by (swap_of s c) ≡ Some o → is_refused (swap_of s c) ≡ true

-- one legal history of all objects, in which each caller's entries stand in order
pub record IsHistoryOf
    {S L P O R : Type 0} (F : Layouts S L P O R) (declared : List L) (s : Joined L O R) (history : List (Entry O R))
    : Type 0 where
  pub legal : IsLegalHistoryOf F.object_of declared history
  pub in_order : (c : ℕ) → c < many_callers s → IsInOrder history c (mine s c)
