-- What is read of the fields of each word is what the state has; of entries and exits it is their lower bits.
use Rattle.std.specs.Prelude.{◌≡◌, ℕ, ◌+◌, ◌%◌, ◌^◌, List, slice_index}
use Rattle.k42_places.specs.Places.{EachPlace}
use Rattle.gen_core.specs.declared.state.GenProc.{GenProc}
use Rattle.phase_core.specs.Plain.{Object}
use Rattle.k42_stamp.specs.Layouts.{Layouts}
use Rattle.k42_joined.specs.Plain.{Joined}
use Rattle.k42_board.specs.Gracing.{entries_in}
use Rattle.k42_board.specs.Protocol.{enter}
use Rattle.k42_board.specs.Tabling.{entry_in}
use Rattle.k42_board.specs.Values.{count_in, generation_in, has_bit, incarnation_in, layout_in}
use Rattle.k42_board.specs.Words.{exits_word, freed_word, generation_word, local_word, object_word}
use Rattle.k42_board.specs.declared.view.PassView.{PassView}

pub record ProcessorIsRead (words : List ℕ) (p : ℕ) (k : GenProc) : Type 0 where
  pub generation : generation_in (slice_index words (generation_word p)) ≡ k.generation
  pub entered : entries_in (slice_index words (generation_word p)) ≡ k.entered % 2 ^ 32
  pub even : slice_index words (exits_word p 0) ≡ k.exits_even % 2 ^ 64
  pub odd : slice_index words (exits_word p 1) ≡ k.exits_odd % 2 ^ 64

pub record ObjectIsRead (words : List ℕ) (o : ℕ) (k : Object) : Type 0 where
  pub count : count_in (slice_index words (object_word o)) ≡ k.count
  pub swap : has_bit (slice_index words (object_word o)) 24 ≡ k.swap
  pub block : has_bit (slice_index words (object_word o)) 25 ≡ k.block
  pub moving : has_bit (slice_index words (object_word o)) 26 ≡ k.moving
  pub complete : has_bit (slice_index words (object_word o)) 27 ≡ k.complete
  pub layout : layout_in (slice_index words (object_word o)) ≡ k.layout
  pub incarnation : incarnation_in (slice_index words (object_word o)) ≡ k.incarnation
  pub freed : slice_index words (freed_word o) ≡ k.freed
  pub entries : EachPlace (λ p e. entry_in (slice_index words (local_word p o)) ≡ e) k.entries

-- the word of a processor that the pass enters is changed so
abbrev pub entering : {S L P O R : Type 0} → Layouts S L P O R → PassView P O R → ℕ → ℕ
entering {S} {L} F v = (enter {S = S} {L = L} v).changed

-- A change of a processor's word counts one entry more, and its carry drops off.
pub record CountsEntry (changed : ℕ → ℕ) (word : ℕ) : Type 0 where
  pub generation : generation_in (changed word) ≡ generation_in word
  pub entries : entries_in (changed word) ≡ (entries_in word + 1) % 2 ^ 32

-- No count runs over into the field beside it.
pub record NumbersAreRead {L O R : Type 0} (words : List ℕ) (s : Joined L O R) : Type 0 where
  pub processors : EachPlace (ProcessorIsRead words) s.phases.turns.procs
  pub objects : EachPlace (ObjectIsRead words) s.phases.objects
