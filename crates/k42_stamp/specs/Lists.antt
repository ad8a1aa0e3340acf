-- The callers' lists, the one list in order that is made of them, and the rows whose entries they are.
use Rattle.std.specs.Prelude.{◌≡◌, ℕ, suc, ◌<◌, ◌≤◌, Bool, true, false, List, [], ◌∷◌, length, Some, slice_get}
use Rattle.std.specs.List.{AllByRecursion}
use Rattle.k42_places.specs.Places.{EachPlace, EachPair}
use Rattle.k42_kinds.specs.declared.entry.Act.{Act}
use Rattle.k42_kinds.specs.declared.entry.Act.TheVariants.{Call, Swap}
use Rattle.k42_kinds.specs.declared.entry.Answer.{Answer}
use Rattle.k42_kinds.specs.declared.entry.Answer.TheVariants.{Busy, Abandoned}
use Rattle.k42_kinds.specs.declared.entry.Entry.{Entry}
use Rattle.k42_kinds.specs.Histories.{AtEachPlace, is_carried_out}
use Rattle.k42_kinds.specs.Legal.{IsSoFarAmongObjects}
use Rattle.k42_stamp.specs.Orders.{IsBefore, Ordered, In}
use Rattle.k42_stamp.specs.Layouts.{Layouts}
use Rattle.k42_stamp.specs.Chains.{Chain}
use Rattle.k42_stamp.specs.Fits.{Fits}

-- a caller's list: its stamps rise, and each entry is the caller's
pub record IsListOf {O R : Type 0} (caller : ℕ) (list : List (Entry O R)) : Type 0 where
  pub rising : Ordered (λ one other. one.stamp < other.stamp) list
  pub own : AllByRecursion (λ entry. entry.caller ≡ caller) list

-- list number so many is that caller's
abbrev pub AreLists : {O R : Type 0} → List (List (Entry O R)) → Type 0
AreLists lists = EachPlace IsListOf lists

-- the entry stands in one of the lists
pub record InSome {O R : Type 0} (lists : List (List (Entry O R))) (entry : Entry O R) : Type 0 where
  pub place : ℕ
  pub list : List (Entry O R)
  pub there : slice_get lists place ≡ Some list
  pub has : In entry list

-- the entries with their places as stamps, counted from a first one
abbrev pub numbered_from : {O R : Type 0} → ℕ → List (Entry O R) → List (Entry O R)
numbered_from first [] = []
numbered_from first (entry ∷ entries) =
    record entry { stamp = first } ∷ numbered_from (suc first) entries

-- just the entries of the lists, in order
pub record IsTrace {O R : Type 0} (lists : List (List (Entry O R))) (trace : List (Entry O R)) : Type 0 where
  pub ordered : Ordered IsBefore trace
  pub all : (entry : Entry O R) → InSome lists entry → In entry trace
  pub only : (entry : Entry O R) → In entry trace → InSome lists entry

-- what the lists merge to: their entries in order, numbered anew from a first number
pub record IsMergedFrom {O R : Type 0} (first : ℕ) (lists : List (List (Entry O R))) (merged : List (Entry O R)) : Type 0 where
  pub trace : List (Entry O R)
  pub just : IsTrace lists trace
  pub numbered : merged ≡ numbered_from first trace

-- and so from 1
abbrev pub IsMerged : {O R : Type 0} → List (List (Entry O R)) → List (Entry O R) → Type 0
IsMerged lists merged = IsMergedFrom 1 lists merged

-- whether an entry moved its object: a call, or a swap that was carried out
abbrev pub is_step : {O R : Type 0} → Act O → Answer R → Bool
is_step (Call op) answer = true
is_step (Swap to) answer = is_carried_out answer

-- a test that lets pass whatever moved an object
abbrev pub LetsSteps : {O R : Type 0} → (Act O → Answer R → Bool) → Type 0
LetsSteps {O} {R} passes =
    (act : Act O) (answer : Answer R) → is_step act answer ≡ true → passes act answer ≡ true

-- whether an answer is drawn at cells: all but those that another caller's swap and want of memory give
abbrev pub is_answer_drawn : {R : Type 0} → Answer R → Bool
is_answer_drawn (Busy number) = false
is_answer_drawn (Abandoned number) = false
is_answer_drawn _ = true

abbrev pub is_drawn : {O R : Type 0} → Act O → Answer R → Bool
is_drawn (Call op) answer = true
is_drawn (Swap to) answer = is_answer_drawn answer

-- the entry stands in a history of a cell of one of the rows up to this one
abbrev pub InRows : {O R : Type 0} → ℕ → ℕ → (ℕ → ℕ → List (Entry O R)) → Entry O R → Type 0
InRows procs last histories entry =
    (row cell : ℕ) × (row ≤ last) × (cell < procs) × In entry (histories row cell)

-- and these rows are its object's
pub record InHistory
    {L P O R : Type 0} (procs : ℕ) (histories : ℕ → ℕ → ℕ → List (Entry O R)) (chains : List (Chain L P O R))
    (entry : Entry O R)
    : Type 0 where
  pub chain : Chain L P O R
  pub there : slice_get chains entry.object ≡ Some chain
  pub has : InRows procs (length chain.past) (histories entry.object) entry

-- The entries of the lists that pass the test are just those of the rows' histories that pass it.
pub record AreThose
    {L P O R : Type 0} (procs : ℕ) (passes : Act O → Answer R → Bool) (lists : List (List (Entry O R)))
    (histories : ℕ → ℕ → ℕ → List (Entry O R)) (chains : List (Chain L P O R))
    : Type 0 where
  pub placed :
      (entry : Entry O R) → InSome lists entry → passes entry.act entry.answer ≡ true
      → InHistory procs histories chains entry
  pub given :
      (o : ℕ) (chain : Chain L P O R) (entry : Entry O R) → slice_get chains o ≡ Some chain
      → InRows procs (length chain.past) (histories o) entry
      → passes entry.act entry.answer ≡ true → InSome lists entry

-- Each declared object has rows, which fit the histories of its cells.
pub record AllFit
    {S L P O R : Type 0} (F : Layouts S L P O R) (declarations : List L)
    (histories : ℕ → ℕ → ℕ → List (Entry O R)) (chains : List (Chain L P O R))
    : Type 0 where
  pub many : length chains ≡ length declarations
  pub each : EachPair (λ o declared chain. Fits F declared o (histories o) chain) declarations chains

-- each entry that passes the test is legal, by the entries before it
abbrev pub AreLegal :
    {S L P O R : Type 0} → Layouts S L P O R → List L → (Act O → Answer R → Bool) → List (Entry O R) → Type 0
AreLegal F declarations passes history =
    AtEachPlace (λ before entry after.
    passes entry.act entry.answer ≡ true → IsSoFarAmongObjects F.object_of declarations before entry after)
    history
