-- Rows of parts that count, and what a watched layout does with them.
use Rattle.std.specs.Prelude.{⊤, ◌≡◌, ℕ, ◌+◌, ◌%◌, ◌^◌, ◌<◌, ◌⊎◌, Bool, true, if◌then◌else◌, List, [], ◌∷◌, map, Option, Some, None}
use Rattle.std.specs.List.{AllByRecursion}
use Rattle.k42_shapes.specs.declared.shape.Shape.{Shape}
use Rattle.k42_shapes.specs.declared.shape.Shape.TheVariants as shapes
use Rattle.k42_shapes.specs.Shapes.{is_dead_tag, shape_at}
use Rattle.k42_kinds.specs.Rows.{Ways, changed_at}
use Rattle.k42_kinds.specs.Watched.{Asking, counted, watch_state}
use Rattle.k42_kinds.specs.declared.entry.Reach.{Reach}
use Rattle.k42_kinds.specs.declared.entry.Reach.TheVariants.{One, All}
use Rattle.k42_kinds.specs.declared.entry.Act.{Act}
use Rattle.k42_kinds.specs.declared.entry.Act.TheVariants.{Swap}
use Rattle.k42_kinds.specs.declared.entry.To.{To}
use Rattle.k42_kinds.specs.declared.entry.To.TheVariants as tos
use Rattle.k42_kinds.specs.declared.watch.WatchState.{WatchState}
use Rattle.k42_watch.specs.declared.watch.Layer.{Layer}
use Rattle.k42_watch.specs.declared.watch.Layer.TheVariants.{Keep, Place, Take}
use Rattle.k42_watch.specs.declared.watch.WatchPart.{WatchPart}

abbrev pub watch_part : {P : Type 0} → P → Option ℕ → WatchPart P
watch_part inner seen = record { inner = inner; seen = seen }

-- what the parts are within, and what each has counted
abbrev pub inners : {P : Type 0} → List (WatchPart P) → List P
inners row = map (λ part. part.inner) row

abbrev pub seens : {P : Type 0} → List (WatchPart P) → List (Option ℕ)
seens row = map (λ part. part.seen) row

abbrev pub total : List (Option ℕ) → ℕ
total [] = 0
total (Some count ∷ rest) = count + total rest
total (None ∷ rest) = total rest

-- what all parts have counted together, where the first one counts
abbrev pub count_of : List (Option ℕ) → Option ℕ
count_of [] = None
count_of (None ∷ rest) = None
count_of (Some count ∷ rest) = Some (total (Some count ∷ rest) % 2 ^ 64)

abbrev pub Counts : Option ℕ → Type 0
Counts (Some count) = Unit {0}
Counts None = ⊥

abbrev pub CountsNot : Option ℕ → Type 0
CountsNot (Some count) = ⊥
CountsNot None = Unit {0}

-- a count is one of 64 bits
abbrev pub IsSmall : Option ℕ → Type 0
IsSmall (Some count) = count < 2 ^ 64
IsSmall None = Unit {0}

-- all count, or none does
abbrev pub AreAlike : List (Option ℕ) → Type 0
AreAlike seen = AllByRecursion CountsNot seen ⊎ AllByRecursion Counts seen

-- parts that are put together again, each with its count
abbrev pub rejoined : {P : Type 0} → List P → List (Option ℕ) → List (WatchPart P)
rejoined [] seen = []
rejoined (part ∷ parts) [] = watch_part part None ∷ rejoined parts []
rejoined (part ∷ parts) (one ∷ seen) = watch_part part one ∷ rejoined parts seen

-- where one part has the count, the others count from 0
abbrev pub from_zero : Option ℕ → Option ℕ
from_zero (Some count) = Some 0
from_zero None = None

-- the count goes to the first part
abbrev pub shared_out : {P : Type 0} → Option ℕ → List P → List (WatchPart P)
shared_out seen [] = []
shared_out seen (part ∷ parts) = watch_part part seen ∷ shared_out (from_zero seen) parts

-- what a layer knows of the layout within
pub record Within : Type 0 where
  pub shape : Shape
  pub dead : Bool

abbrev pub within : List Shape → ℕ → Within
within shapes tag = record { shape = shape_at shapes tag; dead = is_dead_tag shapes tag }

-- the count is asked at all cells where there may be several
abbrev pub asking_reach : Shape → Reach
asking_reach shapes.One = One 0
asking_reach shapes.Each = All
asking_reach (shapes.Groups width) = All

-- The layer tells the count by itself to who asks for it. It counts every other operation at the cell that
-- it needs, and an operation at all cells at the first.
abbrev pub watched_ways : {S P O R : Type 0} → Asking O R → Within → Ways S P O R → Ways (WatchState S) (WatchPart P) O R
watched_ways asking known ways = record {
  reach = λ procs op proc. if asking.asks op then asking_reach known.shape else ways.reach procs op proc;
  empty = λ procs cell. watch_part (ways.empty procs cell) None;
  part_after = λ part op.
      if asking.asks op then part else watch_part (ways.part_after part.inner op) (counted part.seen);
  part_reply = λ part op.
      if asking.asks op then asking.tells known.dead part.seen else ways.part_reply part.inner op;
  row_after = λ row op.
      if asking.asks op then row
      else rejoined (ways.row_after (inners row) op) (changed_at counted (seens row) 0);
  row_reply = λ row op.
      if asking.asks op then asking.tells known.dead (count_of (seens row)) else ways.row_reply (inners row) op;
  combine = λ row. watch_state (ways.combine (inners row)) (count_of (seens row));
  imported = λ procs state. shared_out state.seen (ways.imported procs state.inner);
}

-- within they are a row of the layout; they count alike, and in a dead row not
pub record IsWatchedRow {P : Type 0} (known : Within) (Whole : List P → Type 0) (row : List (WatchPart P)) : Type 0 where
  pub inner : Whole (inners row)
  pub alike : AreAlike (seens row)
  pub small : AllByRecursion IsSmall (seens row)
  pub dead : known.dead ≡ true → AllByRecursion CountsNot (seens row)

pub record ServesWatched {S : Type 0} (known : Within) (Serves : S → Type 0) (state : WatchState S) : Type 0 where
  pub inner : Serves state.inner
  pub small : IsSmall state.seen
  pub dead : known.dead ≡ true → state.seen ≡ None

-- the count with which a live layout starts
abbrev pub seen_under : Layer → Option ℕ → Option ℕ
seen_under Keep seen = seen
seen_under Place seen = Some 0
seen_under Take seen = None

abbrev pub admitted_watched : {S : Type 0} → Bool → Layer → (S → S) → WatchState S → WatchState S
admitted_watched dead layer admitted state =
    watch_state (admitted state.inner) (if dead then None else seen_under layer state.seen)

-- what is asked of an object that is to be kept so: a live layout may place the layer, or take it
-- each can be watched and unwatched in the layout that it is in, and led to where it can be led without a layer
abbrev pub LeadsWatched : (To → Type 0) → To → Type 0
LeadsWatched Leads tos.Watch = ⊤
LeadsWatched Leads tos.Unwatch = ⊤
LeadsWatched Leads to = Leads to

abbrev pub act_under : {O : Type 0} → Layer → Act O → Act O
act_under Keep act = act
act_under Place act = Swap tos.Watch
act_under Take act = Swap tos.Unwatch

abbrev pub watched_act : {O : Type 0} → Bool → Layer → Act O → Act O
watched_act dead layer act = if dead then Swap tos.Dead else act_under layer act
