-- The entries for which heads and details stand, one after the other.
use Rattle.std.specs.Prelude.{◌≡◌, ℕ, ◌+◌, List, [], ◌∷◌, length}
use Rattle.std.specs.List.{sum_by}
use Rattle.k42_kinds.specs.declared.packed.Size.{Size}
use Rattle.k42_kinds.specs.declared.entry.Entry.{Entry}
use Rattle.k42_kinds.specs.Packing.{Packing}
use Rattle.k42_log.specs.declared.head.Head.{Head}
use Rattle.k42_log.specs.Details.{Details, behind, front, sum_of}
use Rattle.k42_log.specs.Heads.{FitsAct, FitsAnswer, act_back, act_size, answer_back, answer_size, cell_at, generation_at, object_at}

-- whose entries they are, and on which processor
pub record Owner : Type 0 where
  pub caller : ℕ
  pub proc : ℕ

-- what stands behind the act's details, and behind those of its answer

abbrev pub behind_act : {O : Type 0} → Packing O → Head → Details → Details
behind_act ops head details = behind (act_size ops head) details

abbrev pub behind_entry : {O R : Type 0} → Packing O → Packing R → Head → Details → Details
behind_entry ops replies head details = behind (answer_size replies head) (behind_act ops head details)

-- the entry of a head and the details that come first, with this index
abbrev pub entry_back : {O R : Type 0} → Packing O → Packing R → Owner → ℕ → Head → Details → Entry O R
entry_back ops replies owner index head details = record {
  stamp = head.stamp;
  index = index;
  caller = owner.caller;
  object = object_at head.place;
  incarnation = head.incarnation;
  cell = cell_at head.place;
  act = act_back ops head (front (act_size ops head) details);
  answer = answer_back replies head (front (answer_size replies head) (behind_act ops head details));
  proc = owner.proc;
  generation = generation_at head.place head.generation;
}

-- the entries of the heads, whose indexes count from the first
abbrev pub entries_back :
    {O R : Type 0} → Packing O → Packing R → Owner → ℕ → List Head → Details → List (Entry O R)
entries_back ops replies owner first [] details = []
entries_back ops replies owner first (head ∷ heads) details =
    entry_back ops replies owner first head details
    ∷ entries_back ops replies owner (first + 1) heads (behind_entry ops replies head details)

abbrev pub head_size : {O R : Type 0} → Packing O → Packing R → Head → Size
head_size ops replies head = sum_of (act_size ops head) (answer_size replies head)

-- the details that come first may stand behind the labels of the head
pub record FitsHead {O R : Type 0} (ops : Packing O) (replies : Packing R) (head : Head) (details : Details) : Type 0 where
  pub act : FitsAct ops head (front (act_size ops head) details)
  pub answer : FitsAnswer replies head (front (answer_size replies head) (behind_act ops head details))

-- those of each head may stand behind its labels
abbrev pub EachFits : {O R : Type 0} → Packing O → Packing R → List Head → Details → Type 0
EachFits ops replies [] details = Unit {0}
EachFits ops replies (head ∷ heads) details =
    FitsHead ops replies head details × EachFits ops replies heads (behind_entry ops replies head details)

-- there are as many details as the heads have, each where it may stand
pub record AreWhole {O R : Type 0} (ops : Packing O) (replies : Packing R) (heads : List Head) (details : Details) : Type 0 where
  pub words : length details.words ≡ sum_by (λ head. (head_size ops replies head).words) heads
  pub bytes : length details.bytes ≡ sum_by (λ head. (head_size ops replies head).bytes) heads
  pub fits : EachFits ops replies heads details
