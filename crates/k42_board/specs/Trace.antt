-- What a pass knows of its entries and of its last Begin.
use Rattle.std.specs.Prelude.{◌≡◌, ℕ, ◌≤◌, true, false, Some, None}
use Rattle.k42_places.specs.Places.{EachPlace}
use Rattle.k42_kinds.specs.declared.entry.Answer.{Answer}
use Rattle.k42_kinds.specs.declared.entry.Entry.{Entry}
use Rattle.gen_core.specs.Plain.{Generations}
use Rattle.gen_core.specs.State.{proc_at}
use Rattle.k42_joined.specs.Plain.{Joined}
use Rattle.k42_joined.specs.Found.{tells_over}
use Rattle.k42_joined.specs.State.{incarnation, kept_of, is_handed}
use Rattle.k42_joined.specs.Swapping.{may_turn_over}
use Rattle.phase_core.specs.Stages.{is_moved, object_named}
use Rattle.k42_board.specs.Values.{incarnation_in}
use Rattle.k42_board.specs.Views.{answer_begun, kept_in, word_begun, object_begun, live_at}
use Rattle.k42_board.specs.declared.view.PassView.{PassView}

-- the entry's generation is not above that of the processor
abbrev pub IsOfTime : {O R : Type 0} → Generations → ℕ → Entry O R → Type 0
IsOfTime g p entry = (generation : ℕ) → entry.generation ≡ Some generation → generation ≤ (proc_at g p).generation

pub record KnowsTrace {L P O R : Type 0} (tag_of : L → ℕ) (s : Joined L O R) (v : PassView P O R) : Type 0 where
  pub kept : kept_of s v.number ≡ kept_in v
  -- what is kept of its last Begin is what the word that it found answers
  pub found : (answer : Answer R) → v.found ≡ Some answer → answer_begun (live_at v) v.last ≡ Some answer
  -- and where that tells of an object which is over, the object stays so
  pub over :
      (answer : Answer R) → v.found ≡ Some answer → tells_over answer ≡ true
      → incarnation_in (word_begun v.last) ≡ incarnation s (object_begun v.last)
  -- it keeps the tag of a layout just from its hand until it turns over
  pub handed :
      (tag : ℕ) → v.handed ≡ Some tag
      → (is_moved v.visitor.swap ≡ true) × (may_turn_over s tag_of (object_named v.visitor.swap) tag ≡ true)
  pub unhanded :
      v.handed ≡ None → is_moved v.visitor.swap ≡ true
      → is_handed s (object_named v.visitor.swap) ≡ false
  pub times : EachPlace (λ place entry. IsOfTime s.phases.turns v.turn.proc entry) v.taker.mine
