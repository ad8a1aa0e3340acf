-- What an entry needs of a row of parts, what it makes of them, and what it is answered there.
use Rattle.std.specs.Prelude.{ℕ, Bool, true, ◌==◌, List, filter, Option, Some, None}
use Rattle.k42_kinds.specs.declared.entry.Act.{Act}
use Rattle.k42_kinds.specs.declared.entry.Act.TheVariants.{Call, Swap}
use Rattle.k42_kinds.specs.declared.entry.Answer.{Answer}
use Rattle.k42_kinds.specs.declared.entry.Answer.TheVariants.{Replied}
use Rattle.k42_kinds.specs.declared.entry.Entry.{Entry}
use Rattle.k42_kinds.specs.declared.entry.Reach.{Reach}
use Rattle.k42_kinds.specs.declared.entry.Reach.TheVariants.{One, All}
use Rattle.k42_kinds.specs.Rows.{Ways, row_moved, row_replied}
use Rattle.k42_stamp.specs.Replays.{Steps}
use Rattle.k42_stamp.specs.Layouts.{Layouts}

-- a call needs the cells that the layout names; what is no call is told at the first cell
abbrev pub reached : {S P O R : Type 0} → Ways S P O R → ℕ → Act O → ℕ → Reach
reached ways procs (Call op) proc = ways.reach procs op proc
reached ways procs (Swap to) proc = One 0

-- what an entry needs, for the processor of its caller
abbrev pub reach_of : {S L P O R : Type 0} → Layouts S L P O R → L → Entry O R → Reach
reach_of F layout entry = reached (F.ways_of layout) F.procs entry.act (F.proc_of entry.caller)

-- whether the cell is among those that are needed
abbrev pub touches : Reach → ℕ → Bool
touches (One only) cell = only == cell
touches All cell = true

-- the entries that need the cell
abbrev pub those_at : {S L P O R : Type 0} → Layouts S L P O R → L → ℕ → List (Entry O R) → List (Entry O R)
those_at F layout cell entries = filter (λ entry. touches (reach_of F layout entry) cell) entries

-- only a call changes parts
abbrev pub act_moves : {S P O R : Type 0} → Ways S P O R → List P → Act O → Reach → List P
act_moves ways parts (Call op) reach = row_moved ways parts op reach
act_moves ways parts (Swap to) reach = parts

-- and only a call has a reply
abbrev pub act_replies : {S P O R : Type 0} → Ways S P O R → List P → Act O → Reach → Option R
act_replies ways parts (Call op) reach = row_replied ways parts op reach
act_replies ways parts (Swap to) reach = None

-- the reply that an answer tells
abbrev pub reply_in : {R : Type 0} → Answer R → Option R
reply_in (Replied reply) = Some reply
reply_in _ = None

-- entries as steps of a row of parts
abbrev pub part_steps : {S L P O R : Type 0} → Layouts S L P O R → L → Steps (List P) (Entry O R) (Option R)
part_steps F layout = record {
  moves = λ parts entry. act_moves (F.ways_of layout) parts entry.act (reach_of F layout entry);
  answers = λ parts entry. act_replies (F.ways_of layout) parts entry.act (reach_of F layout entry);
  tells = λ entry. reply_in entry.answer;
}
