-- What stays true of names, lines and workers with one more behind them.
use Rattle.std.proofs.Common.{◌≡◌, ℕ, zero, suc, ◌+◌, ◌<◌, ◌≤◌, Bool, true, false, List, [], ◌∷◌, ◌++◌, length, inl, inr, refl, sym, ap, subst, ◌∙◌, length-append, arith}
use Rattle.std.specs.Prelude.{Some, All, map, slice_get, sum_by}
use Rattle.std.specs.Str.{bytes_eq}
use Rattle.std.specs.List.{list_any, AllByRecursion}
use Rattle.std.proofs.lemmas.Bool.{or_parts}
use Rattle.std.proofs.lemmas.List.Sums.{sum_by-cons}
use Rattle.std.proofs.lemmas.Option.{same_Some, none-some}
use Rattle.std.proofs.lemmas.Slice.Eq.{bytes_eq-Decides}
use Rattle.k42_places.proofs.Appended.{at_push}
use Rattle.k42_places.proofs.EachPlaces.{EachPlace-All}
use Rattle.script_text.specs.Language.{with_item}
use Rattle.script_text.specs.Lawful.{call_lines}
use Rattle.script_text.specs.Offences.{is_open_behind, is_last_open}
use Rattle.script_text.specs.Sound.{BlocksMatch, AreDistinct}
use Rattle.script_text.specs.declared.script.CallLine.{CallLine}
use Rattle.script_text.specs.declared.script.Item.{Item}
use Rattle.script_text.specs.declared.script.Item.TheVariants.{Begin, End, Line}
use Rattle.script_text.specs.declared.script.WorkerLines.{WorkerLines}

-- a name that is not among the names is at none of their places
pub absent : (names : List (List ℕ)) (name : List ℕ) (i : ℕ) → list_any (bytes_eq name) names ≡ false → slice_get names i ≡ Some name → ⊥
absent [] name i none there = none-some name there
absent (first ∷ names) name zero none there =
    let equal : bytes_eq name first ≡ true = (bytes_eq-Decides name first).1 (sym (same_Some first name there)) in
    let not_first : bytes_eq name first ≡ false = (or_parts (bytes_eq name first) (list_any (bytes_eq name) names) none).0 in cc
absent (first ∷ names) name (suc i) none there = absent names name i (or_parts (bytes_eq name first) (list_any (bytes_eq name) names) none).1 there

-- a name that is not among distinct names is distinct from them
pub distinct-push : (names : List (List ℕ)) (name : List ℕ) → AreDistinct names → list_any (bytes_eq name) names ≡ false → AreDistinct (names ++ name ∷ [])
distinct-push names name distinct none i j found at_i at_j = elim (at_push names name i found at_i) [
  | inl a ↦ elim (at_push names name j found at_j) [
    | inl b ↦ distinct i j found a.1 b.1
    | inr b ↦ absurd (absent names name i none (a.1 ∙ ap Some (sym b.1)))
  ]
  | inr a ↦ elim (at_push names name j found at_j) [
    | inl b ↦ absurd (absent names name j none (b.1 ∙ ap Some (sym a.1)))
    | inr b ↦ a.0 ∙ sym b.0
  ]
]

-- the numbers of the lines rise
abbrev pub AreRising : List CallLine → Type 0
AreRising lines = (i j : ℕ) (earlier later : CallLine) → i < j → slice_get lines i ≡ Some earlier → slice_get lines j ≡ Some later → earlier.line < later.line

-- lines that rise do so with a line of a higher number behind them
pub rising-push : (lines : List CallLine) (line : CallLine) → AreRising lines → All (λ earlier. earlier.line < line.line) lines → AreRising (lines ++ line ∷ [])
rising-push lines line rising below i j earlier later before at_i at_j = elim (at_push lines line i earlier at_i) [
  | inl a ↦ elim (at_push lines line j later at_j) [
    | inl b ↦ rising i j earlier later before a.1 b.1
    | inr b ↦ subst (λ (last : CallLine). earlier.line < last.line) b.1 (EachPlace-All (λ (front : CallLine). front.line < line.line) lines below i earlier a.1)
  ]
  | inr a ↦ elim (at_push lines line j later at_j) [
    | inl b ↦ absurd (omega (arith, a.0, b.0, before))
    | inr b ↦ absurd (omega (arith, a.0, b.0, before))
  ]
]

-- the activities of the items match as far as they go: one may be open behind them
abbrev pub BlocksMatchSoFar : Bool → List Item → Type 0
BlocksMatchSoFar before items = BlocksMatch before items (is_open_behind before items)

-- items with a call, begin or end behind them that may stand there
pub blocks-push : (before : Bool) (items : List Item) (item : Item) → BlocksMatchSoFar before items → BlocksMatchSoFar (is_open_behind before items) (item ∷ []) → BlocksMatchSoFar before (items ++ item ∷ [])
blocks-push before [] item matched fits = fits
blocks-push before (Begin ∷ items) item matched fits = (matched.0, blocks-push true items item matched.1 fits)
blocks-push before (End ∷ items) item matched fits = (matched.0, blocks-push false items item matched.1 fits)
blocks-push before (Line line ∷ items) item matched fits = (matched.0, blocks-push before items item matched.1 fits)

-- no worker but the last has an activity open
abbrev pub EarlierAreClosed : List WorkerLines → Type 0
EarlierAreClosed [] = Unit {0}
EarlierAreClosed (worker ∷ []) = Unit {0}
EarlierAreClosed (worker ∷ other ∷ workers) = (is_open_behind false worker.items ≡ false) × EarlierAreClosed (other ∷ workers)

-- one more worker, where the last has none open either
pub closed-push : (workers : List WorkerLines) (worker : WorkerLines) → EarlierAreClosed workers → is_last_open workers ≡ false → EarlierAreClosed (workers ++ worker ∷ [])
closed-push [] worker earlier last = tt
closed-push (first ∷ []) worker earlier last = (last, tt)
closed-push (first ∷ second ∷ workers) worker earlier last = (earlier.0, closed-push (second ∷ workers) worker earlier.1 last)

pub with_item-closed : (item : Item) (workers : List WorkerLines) → EarlierAreClosed workers → EarlierAreClosed (with_item item workers)
with_item-closed item [] earlier = tt
with_item-closed item (worker ∷ []) earlier = tt
with_item-closed item (worker ∷ other ∷ []) earlier = (earlier.0, tt)
with_item-closed item (worker ∷ other ∷ third ∷ workers) earlier = (earlier.0, with_item-closed item (other ∷ third ∷ workers) earlier.1)

pub call_lines-push : (items : List Item) (item : Item) → call_lines (items ++ item ∷ []) ≡ call_lines items ++ call_lines (item ∷ [])
call_lines-push [] item = refl
call_lines-push (Begin ∷ items) item = call_lines-push items item
call_lines-push (End ∷ items) item = call_lines-push items item
call_lines-push (Line line ∷ items) item = ap (λ (lines : List CallLine). line ∷ lines) (call_lines-push items item)

-- the worker with one more item
abbrev pub with_one : WorkerLines → Item → WorkerLines
with_one worker item = record worker { items = worker.items ++ item ∷ [] }

-- what holds of each worker, and of the last one with one more item, holds of each where the last one has it
pub with_item-each : (P Q : WorkerLines → Type 0) (item : Item) (workers : List WorkerLines) → ((worker : WorkerLines) → P worker → Q worker)
    → ((worker : WorkerLines) → is_open_behind false worker.items ≡ is_last_open workers → P worker → Q (with_one worker item)) → AllByRecursion P workers → AllByRecursion Q (with_item item workers)
with_item-each P Q item [] stays more each = tt
with_item-each P Q item (worker ∷ []) stays more each = (more worker refl each.0, tt)
with_item-each P Q item (worker ∷ other ∷ workers) stays more each = (stays worker each.0, with_item-each P Q item (other ∷ workers) stays more each.1)

pub with_item-names : (item : Item) (workers : List WorkerLines) → map (λ worker. worker.name) (with_item item workers) ≡ map (λ worker. worker.name) workers
with_item-names item [] = refl
with_item-names item (worker ∷ []) = refl
with_item-names item (worker ∷ other ∷ workers) = ap (λ (names : List (List ℕ)). worker.name ∷ names) (with_item-names item (other ∷ workers))

pub with_item-length : (item : Item) (workers : List WorkerLines) → length (with_item item workers) ≡ length workers
with_item-length item [] = refl
with_item-length item (worker ∷ []) = refl
with_item-length item (worker ∷ other ∷ workers) = ap suc (with_item-length item (other ∷ workers))

-- how many lines of the worker ask something
abbrev pub asked_by : WorkerLines → ℕ
asked_by worker = length (call_lines worker.items)

pub with_item-count : (item : Item) (workers : List WorkerLines) → sum_by asked_by (with_item item workers) ≤ sum_by asked_by workers + length (call_lines (item ∷ []))
with_item-count item [] = omega arith
with_item-count item (worker ∷ []) = omega (arith, ap length (call_lines-push worker.items item), length-append (call_lines worker.items) (call_lines (item ∷ [])))
with_item-count item (worker ∷ other ∷ workers) =
    omega (arith, with_item-count item (other ∷ workers), sum_by-cons asked_by worker (with_item item (other ∷ workers)), sum_by-cons asked_by worker (other ∷ workers))
