-- A pass that hands a row on.
use Rattle.std.specs.Prelude.{ℕ, [], List, ◌++◌, take, drop}
use Rattle.k42_kinds.specs.declared.entry.Act.{Act}
use Rattle.k42_kinds.specs.declared.entry.Answer.{Answer}
use Rattle.k42_kinds.specs.declared.entry.Entry.{Entry}
use Rattle.k42_stamp.specs.Layouts.{Layouts}
use Rattle.k42_board.specs.Drawing.{MayHandOn, entry_hand, numbers_of, part_in, handed_view, untold_view}
use Rattle.k42_board.specs.declared.cell.Content.{Content}
use Rattle.k42_board.specs.declared.view.PassView.{PassView}

-- the pass that hands the row of the first cells on to that of the others, and once their seats tell of it
abbrev pub hands_at : {P O R : Type 0} → List (Content P O R) → List (Content P O R) → Entry O R → ℕ → PassView P O R → PassView P O R
hands_at from onto entry tag v =
    untold_view (numbers_of from ++ numbers_of onto)
    (handed_view (numbers_of from) (numbers_of onto) entry tag (part_in (from ++ onto)) v)

abbrev pub handed_at : {P O R : Type 0} → List (Content P O R) → List (Content P O R) → Entry O R → ℕ → PassView P O R → PassView P O R
handed_at from onto entry tag v =
    untold_view [] (handed_view (numbers_of from) (numbers_of onto) entry tag (part_in (from ++ onto)) v)

-- the same of cells of which the first so many are those of the present row
abbrev pub MayHandAt : {S L P O R : Type 0} → Layouts S L P O R → List L → List (Content P O R) → L → Answer R → PassView P O R → Type 0
MayHandAt F declared contents to answer v = MayHandOn F declared (take F.procs contents) (drop F.procs contents) to answer v

abbrev pub entry_done : {P O R : Type 0} → ℕ → List (Content P O R) → Act O → Answer R → PassView P O R → Entry O R
entry_done procs contents act answer v =
    entry_hand v (numbers_of (take procs contents)) (numbers_of (drop procs contents)) act answer
