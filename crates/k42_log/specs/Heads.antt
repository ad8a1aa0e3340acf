-- The head of an entry: its names, where it was drawn, and what is small.
use Rattle.std.specs.Prelude.{ℕ, ◌+◌, ◌*◌, ◌/◌, ◌%◌, ◌==◌, IsTrue, if◌then◌else◌, Option, Some, None}
use Rattle.k42_limits.specs.declared.TheConstants.{OBJECTS}
use Rattle.k42_kinds.specs.declared.packed.Label.{Label}
use Rattle.k42_kinds.specs.declared.packed.Size.{Size}
use Rattle.k42_kinds.specs.declared.entry.Act.{Act}
use Rattle.k42_kinds.specs.declared.entry.Act.TheVariants.{Call, Swap}
use Rattle.k42_kinds.specs.declared.entry.Answer.{Answer}
use Rattle.k42_kinds.specs.declared.entry.Answer.TheVariants.{Replied, Swapped, Busy, Abandoned}
use Rattle.k42_kinds.specs.declared.entry.Entry.{Entry}
use Rattle.k42_kinds.specs.Packing.{Packing, labelled}
use Rattle.k42_log.specs.declared.head.Head.{Head}
use Rattle.k42_log.specs.Names.{asks_layout, end_name, end_named, names_layout, names_reply, to_name, to_named}
use Rattle.k42_log.specs.Details.{Details, details_of, no_details, no_size}

-- the cell, the object, and whether there is a generation, as one number

abbrev pub place_of : ℕ → ℕ → Option ℕ → ℕ
place_of cell object None = (cell * OBJECTS + object) * 2
place_of cell object (Some generation) = (cell * OBJECTS + object) * 2 + 1

abbrev pub cell_at : ℕ → ℕ
cell_at place = place / 2 / OBJECTS

abbrev pub object_at : ℕ → ℕ
object_at place = place / 2 % OBJECTS

abbrev pub generation_at : ℕ → ℕ → Option ℕ
generation_at place generation = if place % 2 == 1 then Some generation else None

-- the number of the swap
abbrev pub answer_small : {R : Type 0} → Answer R → ℕ
answer_small (Swapped number) = number
answer_small (Busy number) = number
answer_small (Abandoned number) = number
answer_small _ = 0

-- what was asked, by the label of an operation, or by how an object is to be kept and the number of its swap
abbrev pub act_label : {O R : Type 0} → Packing O → Act O → Answer R → Label
act_label ops (Call op) answer = ops.label op
act_label ops (Swap to) answer = labelled (to_name to) (answer_small answer)

-- what was answered, by the label of a reply, or by how a swap ended and whether it was one to a layout
abbrev pub answer_name : {O R : Type 0} → Packing R → Act O → Answer R → ℕ
answer_name replies act (Replied reply) = (replies.label reply).tag
answer_name replies act answer = end_name (asks_layout act) answer

-- the details of what was asked and of what was answered

abbrev pub act_details : {O : Type 0} → Packing O → Act O → Details
act_details ops (Call op) = details_of ops op
act_details ops (Swap to) = no_details

abbrev pub answer_details : {R : Type 0} → Packing R → Answer R → Details
answer_details replies (Replied reply) = details_of replies reply
answer_details replies _ = no_details

-- how many these are, by the head

abbrev pub act_size : {O : Type 0} → Packing O → Head → Size
act_size ops head = if names_reply head.answer then ops.size (labelled head.act head.small) else no_size

abbrev pub answer_size : {R : Type 0} → Packing R → Head → Size
answer_size replies head = if names_reply head.answer then replies.size (labelled head.answer 0) else no_size

-- what may stand behind the labels of a call, and of its reply

abbrev pub FitsAct : {O : Type 0} → Packing O → Head → Details → Type 0
FitsAct ops head own = IsTrue (names_reply head.answer) → ops.Fits (labelled head.act head.small) own.words own.bytes

abbrev pub FitsAnswer : {R : Type 0} → Packing R → Head → Details → Type 0
FitsAnswer replies head own = IsTrue (names_reply head.answer) → replies.Fits (labelled head.answer 0) own.words own.bytes

-- back from the head, with the details in their order

abbrev pub act_back : {O : Type 0} → Packing O → Head → Details → Act O
act_back ops head own =
    if names_reply head.answer then Call (ops.unpack (labelled head.act head.small) own.words own.bytes)
    else Swap (to_named (names_layout head.answer) head.act)

abbrev pub answer_back : {R : Type 0} → Packing R → Head → Details → Answer R
answer_back replies head own =
    if names_reply head.answer then Replied (replies.unpack (labelled head.answer 0) own.words own.bytes)
    else end_named head.answer head.small

-- a generation that is not there is kept as 0
abbrev pub generation_or_0 : Option ℕ → ℕ
generation_or_0 None = 0
generation_or_0 (Some generation) = generation

-- the head of the entry, if it had this act and this answer
abbrev pub head_with : {O R : Type 0} → Packing O → Packing R → Entry O R → Act O → Answer R → Head
head_with ops replies entry act answer = record {
  stamp = entry.stamp;
  incarnation = entry.incarnation;
  generation = generation_or_0 entry.generation;
  small = (act_label ops act answer).small;
  place = place_of entry.cell entry.object entry.generation;
  act = (act_label ops act answer).tag;
  answer = answer_name replies act answer;
}

abbrev pub head_of : {O R : Type 0} → Packing O → Packing R → Entry O R → Head
head_of ops replies entry = head_with ops replies entry entry.act entry.answer
