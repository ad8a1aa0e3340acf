-- What all callers drew, in order, is legal so far.
use Rattle.std.proofs.Common.{List, refl}
use Rattle.k42_kinds.specs.declared.entry.Act.TheVariants.{Call, Swap}
use Rattle.k42_kinds.specs.declared.entry.Answer.TheVariants.{Swapped}
use Rattle.k42_kinds.specs.declared.entry.Entry.{Entry}
use Rattle.k42_stamp.specs.Laws.{AreLaws}
use Rattle.k42_stamp.specs.Layouts.{Layouts}
use Rattle.k42_stamp.specs.Lists.{LetsSteps, AllFit, IsMerged, AreLegal, is_drawn}
use Rattle.k42_stamp.proofs.MergeLaw.{merged_legal}
use Rattle.k42_joined.specs.Plain.{Joined}
use Rattle.k42_joined.specs.Fitting.{lists_of, Fitting}
use Rattle.k42_joined.specs.Rows.{history_in}

-- what moves an object is drawn at cells
steps_drawn : {O R : Type 0} → LetsSteps {O = O} {R = R} is_drawn
steps_drawn (Call op) answer step = refl
steps_drawn (Swap to) (Swapped n) step = refl
steps_drawn act answer step = absurd (cc)

pub trace_legal : {S L P O R : Type 0} (F : Layouts S L P O R) → AreLaws F → (declared : List L) (s : Joined L O R) → Fitting F declared s
    → (merged : List (Entry O R)) → IsMerged (lists_of s) merged → AreLegal F declared is_drawn merged
trace_legal F laws declared s rows merged is =
    merged_legal F laws declared (history_in s) rows.chains (lists_of s) is_drawn steps_drawn all rows.those merged is
  where
    all : AllFit F declared (history_in s) rows.chains
    all = record { many = rows.many; each = λ o declaration chain declares at. (rows.each o declaration chain declares at).rows.fits }
