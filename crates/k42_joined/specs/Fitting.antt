-- What stays true of entries and histories: the rows of each object fit, and the entries that were drawn at
-- cells are those of the histories.
use Rattle.std.specs.Prelude.{◌≡◌, ℕ, ◌-◌, ◌<◌, List, ◌∷◌, [], ◌++◌, map, length, Some, slice_get}
use Rattle.k42_kinds.specs.declared.entry.Entry.{Entry}
use Rattle.k42_places.specs.Places.{EachPair}
use Rattle.phase_core.specs.State.{proc_of}
use Rattle.k42_stamp.specs.Layouts.{Layouts}
use Rattle.k42_stamp.specs.Chains.{Chain}
use Rattle.k42_stamp.specs.Lists.{AreThose, is_drawn}
use Rattle.k42_joined.specs.Plain.{Joined}
use Rattle.k42_joined.specs.State.{many_procs, many_callers, many_objects, object, incarnation, layouts_of, many_hands}
use Rattle.k42_joined.specs.Rows.{history_in, AreRowsOf}

-- the lists of all callers
abbrev pub lists_of : {L O R : Type 0} → Joined L O R → List (List (Entry O R))
lists_of s = map (λ x. x.mine) s.turns.callers

-- the layouts are told for the processors and callers of this state
pub record AreFor {S L P O R : Type 0} (F : Layouts S L P O R) (s : Joined L O R) : Type 0 where
  pub procs : F.procs ≡ many_procs s
  pub proc_of : (c : ℕ) → c < many_callers s → F.proc_of c ≡ proc_of s.phases c

-- the object has the tag of the layout of its incarnation's row
abbrev pub HasItsTag : {S L P O R : Type 0} → Layouts S L P O R → L → Joined L O R → ℕ → Type 0
HasItsTag {S} {L} F declaration s o =
    (layout : L)
    → slice_get (layouts_of s o ++ declaration ∷ []) (many_hands s o - incarnation s o) ≡ Some layout
    → F.tag_of layout ≡ (object s o).layout

-- what is true of the rows of one object
pub record HasRows
    {S L P O R : Type 0} (F : Layouts S L P O R) (s : Joined L O R) (o : ℕ) (declaration : L) (chain : Chain L P O R)
    : Type 0 where
  pub rows : AreRowsOf F declaration s o chain
  pub tagged : HasItsTag F declaration s o
  -- it has the layouts that were declared
  pub shaped : (object s o).shapes ≡ F.shapes_of declaration

pub record Fitting {S L P O R : Type 0} (F : Layouts S L P O R) (declared : List L) (s : Joined L O R) : Type 0 where
  pub told : AreFor F s
  pub objects : length declared ≡ many_objects s
  pub chains : List (Chain L P O R)
  pub many : length chains ≡ length declared
  pub each : EachPair (HasRows F s) declared chains
  pub those : AreThose F.procs is_drawn (lists_of s) (history_in s) chains
