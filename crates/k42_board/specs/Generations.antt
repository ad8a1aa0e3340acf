-- The words of the generations, and what a pass knows of them.
use Rattle.std.specs.Prelude.{if◌then◌else◌, ◌≡◌, ℕ, ◌+◌, ◌%◌, ◌≤◌, ◌^◌, false, List, map, Option, Some, None, option_map, length, slice_index, sum}
use Rattle.k42_limits.specs.declared.TheConstants.{PASS_GRACES}
use Rattle.k42_places.specs.Places.{EachPlace}
use Rattle.gen_core.specs.Events.{is_idle}
use Rattle.gen_core.specs.Plain.{Caller, Generations}
use Rattle.gen_core.specs.Sound.{generation_of, is_flipped}
use Rattle.gen_core.specs.State.{caller_at}
use Rattle.gen_core.specs.declared.state.GenProc.{GenProc}
use Rattle.gen_core.specs.declared.state.GraceAt.{GraceAt}
use Rattle.gen_core.specs.declared.state.GraceAt.TheVariants.{Idle}
use Rattle.k42_board.specs.Words.{generation_word, exits_word, role_word}
use Rattle.k42_board.specs.Values.{generation_value, holder_value}
use Rattle.k42_board.specs.declared.view.PassView.{PassView}

-- how many graces each caller has begun
pub record Counts : Type 0 where
  pub graces : List ℕ

pub record AreFew (callers : ℕ) (begun : List ℕ) : Type 0 where
  pub many : length begun ≡ callers
  pub few : EachPlace (λ c n. n ≤ PASS_GRACES) begun

-- exits are counted as far as their word goes
pub record IsProcessorShown (words : List ℕ) (p : ℕ) (k : GenProc) : Type 0 where
  pub generation : slice_index words (generation_word p) ≡ generation_value k
  pub even : slice_index words (exits_word p 0) ≡ k.exits_even % 2 ^ 64
  pub odd : slice_index words (exits_word p 1) ≡ k.exits_odd % 2 ^ 64

-- the grace of the role's holder
abbrev pub grace_of : Generations → Option ℕ → GraceAt
grace_of g None = Idle
grace_of g (Some holder) = (caller_at g holder).grace

-- whether the grace under way will yet flip the processor
abbrev pub will_flip : Option ℕ → GraceAt → ℕ → ℕ
will_flip None grace p = 0
will_flip (Some holder) grace p = if is_flipped grace p then 0 else 1

-- a processor is flipped by graces that were begun
pub record IsProcessorBegun (g : Generations) (counts : Counts) (p : ℕ) (k : GenProc) : Type 0 where
  pub flipped : k.generation + will_flip g.role (grace_of g g.role) p ≤ sum counts.graces

pub record AreGenerations (words : List ℕ) (g : Generations) (counts : Counts) : Type 0 where
  pub procs : EachPlace (IsProcessorShown words) g.procs
  pub role : slice_index words role_word ≡ holder_value g.role
  pub graces : AreFew (length g.callers) counts.graces
  pub begun : EachPlace (IsProcessorBegun g counts) g.procs

-- a caller as words tell of it: of the entries that it waits for, and of the exits to come, the lower 32 bits
abbrev pub in_words : Caller → Caller
in_words x = record x {
  coming = option_map (λ exits. exits % 2 ^ 32) x.coming;
  waits = map (λ entries. entries % 2 ^ 32) x.waits;
}

-- what a pass knows of its activity and its grace
pub record KnowsGenerations {P O R : Type 0} (g : Generations) (counts : Counts) (v : PassView P O R) : Type 0 where
  pub turn : in_words (caller_at g v.number) ≡ v.turn
  pub graces : slice_index counts.graces v.number ≡ v.graces
  -- the generation that its grace found is that of each processor which it has not flipped
  pub base :
      (b : ℕ) → v.base ≡ Some b → is_idle v.turn.grace ≡ false
      → EachPlace (λ p k. k.generation ≡ generation_of b (is_flipped v.turn.grace p)) g.procs
