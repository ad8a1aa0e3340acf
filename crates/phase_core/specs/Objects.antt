-- What stays true of an object: its bits and its entries follow its swap, its count, and its freed rows.
use Rattle.std.specs.Bool.{MatchBool}
use Rattle.std.specs.Prelude.{ℕ, Bool, List, Option, false, ◌==◌, None, count_by, ◌+◌, ◌<◌, true, Some, length, is_some, ◌≡◌, ◌≤◌, ◌⊎◌}
use Rattle.k42_limits.specs.declared.TheConstants.{LAST_INCARNATION, LIVE_LAYOUTS}
use Rattle.k42_shapes.specs.declared.shape.Shape.{Shape}
use Rattle.k42_shapes.specs.Shapes.{IsKnownTag, IsLiveTag}
use Rattle.k42_places.specs.Places.{EachPlace}
use Rattle.phase_core.specs.Effects.{root_of}
use Rattle.phase_core.specs.Outlooks.{Outlook, is_mediated, behind}
use Rattle.phase_core.specs.Plain.{Object, Visitor}
use Rattle.phase_core.specs.Stages.{named_by}
use Rattle.phase_core.specs.declared.caller.Place.{Place}
use Rattle.phase_core.specs.declared.caller.Place.TheVariants.{Tracked, Blocked}
use Rattle.phase_core.specs.declared.caller.SwapAt.{SwapAt}
use Rattle.phase_core.specs.declared.caller.SwapAt.TheVariants.{Idle, Refused, Begun, Interposing, Interposed, Draining, Drained, Blocking, Moved, Opening, Reopening, Opened}
use Rattle.phase_core.specs.declared.object.LocalEntry.{LocalEntry}

-- bits follow the swap

-- BLOCK, MOVE and COMPLETE
pub record Bits : Type 0 where
  pub block : Bool
  pub moving : Bool
  pub complete : Bool

abbrev pub bits_of : Object → Bits
bits_of k = record { block = k.block; moving = k.moving; complete = k.complete }

abbrev pub AreClear : Bits → Type 0
AreClear b = (b.block ≡ false) × (b.moving ≡ false) × (b.complete ≡ false)

-- neither dead nor at the last incarnation
abbrev pub IsLive : List Shape → ℕ → ℕ → Type 0
IsLive shapes layout incarnation = IsLiveTag shapes layout × (incarnation < LAST_INCARNATION)

-- the bits, the layout and the incarnation of an object whose swap is at a stage
abbrev pub BitsFollow : Bits → List Shape → ℕ → ℕ → SwapAt → Type 0
BitsFollow b shapes layout incarnation Idle = AreClear b
BitsFollow b shapes layout incarnation (Refused o) = AreClear b × ((layout ≡ length shapes) ⊎ (incarnation ≡ LAST_INCARNATION))
BitsFollow b shapes layout incarnation (Begun o) = AreClear b × IsLive shapes layout incarnation
BitsFollow b shapes layout incarnation (Interposing o p) = AreClear b × IsLive shapes layout incarnation
BitsFollow b shapes layout incarnation (Interposed o) = AreClear b × IsLive shapes layout incarnation
BitsFollow b shapes layout incarnation (Draining o) = AreClear b × IsLive shapes layout incarnation
BitsFollow b shapes layout incarnation (Drained o) = AreClear b × IsLive shapes layout incarnation
BitsFollow b shapes layout incarnation (Blocking o) =
    ((b.block ≡ true) × (b.moving ≡ false) × (b.complete ≡ false)) × IsLive shapes layout incarnation
BitsFollow b shapes layout incarnation (Moved o) =
    ((b.block ≡ true) × (b.moving ≡ true) × (b.complete ≡ false)) × IsLive shapes layout incarnation
BitsFollow b shapes layout incarnation (Opening o p) =
    ((b.block ≡ false) × (b.moving ≡ false) × (b.complete ≡ true)) × (0 < incarnation)
BitsFollow b shapes layout incarnation (Reopening o p) = AreClear b
BitsFollow b shapes layout incarnation (Opened o) =
    AreClear b ⊎ (((b.block ≡ false) × (b.moving ≡ false) × (b.complete ≡ true)) × (0 < incarnation))

-- SWAP is set where there is a swapper, whose stage names the object
abbrev pub IsNamed : Option ℕ → SwapAt → ℕ → Type 0
IsNamed None stage o = stage ≡ Idle
IsNamed (Some c) stage o = named_by stage ≡ Some o

pub record BitsFollowSwap (callers : ℕ) (look : Outlook) (o : ℕ) (k : Object) : Type 0 where
  pub incarnation : k.incarnation ≡ look.incarnation
  pub freed : k.freed ≡ look.freed
  pub swap : k.swap ≡ is_some look.swapper
  pub named : IsNamed look.swapper look.stage o
  pub swapper_there : (d : ℕ) → look.swapper ≡ Some d → d < callers
  pub bits : BitsFollow (bits_of k) k.shapes k.layout k.incarnation look.stage
  pub last : k.incarnation ≤ LAST_INCARNATION
  pub layout : IsKnownTag k.shapes k.layout
  pub few : length k.shapes ≤ LIVE_LAYOUTS

-- entries follow the swap

pub record IsMediator (incarnation less : ℕ) (e : LocalEntry) : Type 0 where
  pub tag : e.tag ≡ 2
  pub blank : (e.layout ≡ 0) × (e.cell ≡ 0)
  pub number : e.incarnation + less ≡ incarnation

-- empty, or direct with the object's layout and the cell that its root names
abbrev pub IsTagged : List Shape → ℕ → ℕ → LocalEntry → Type 0
IsTagged shapes layout p e =
    ((e.tag ≡ 0) × (e.layout ≡ 0) × (e.cell ≡ 0))
    ⊎ ((e.tag ≡ 1) × (e.layout ≡ layout) × (e.cell ≡ root_of shapes layout p))

pub record IsOpen (incarnation : ℕ) (shapes : List Shape) (layout p : ℕ) (e : LocalEntry) : Type 0 where
  pub tagged : IsTagged shapes layout p e
  pub number : e.incarnation ≡ incarnation

abbrev pub IsEntry : SwapAt → ℕ → List Shape → ℕ → ℕ → LocalEntry → Type 0
IsEntry stage incarnation shapes layout p e =
    MatchBool (is_mediated stage p) (IsMediator incarnation (behind stage) e) (IsOpen incarnation shapes layout p e)

-- freed and noted rows

-- no entry is below the number
abbrev pub NoneBelow : ℕ → List LocalEntry → Type 0
NoneBelow n entries = EachPlace (λ p e. n ≤ e.incarnation) entries

-- a drained object's own number is noted until all its former rows are freed
abbrev pub StageNoted : Option ℕ → ℕ → Bool → SwapAt → Type 0
StageNoted noted incarnation settled (Draining o) = noted ≡ Some incarnation
StageNoted noted incarnation settled (Drained o) = MatchBool settled (Unit {0}) (noted ≡ Some incarnation)
StageNoted noted incarnation settled (Blocking o) = settled ≡ true
StageNoted noted incarnation settled (Moved o) = settled ≡ true
StageNoted noted incarnation settled stage = Unit {0}

pub record IsFreed (look : Outlook) (entries : List LocalEntry) : Type 0 where
  pub freed : look.freed ≤ look.incarnation
  pub freed_entries : NoneBelow look.freed entries
  pub noted : (n : ℕ) → look.noted ≡ Some n → n ≤ look.incarnation
  pub noted_entries : (n : ℕ) → look.noted ≡ Some n → NoneBelow n entries
  pub settled : look.settled ≡ true → look.freed ≡ look.incarnation
  pub stage : StageNoted look.noted look.incarnation look.settled look.stage

-- the processor that a swap is at is there
abbrev pub IsWithin : ℕ → SwapAt → Type 0
IsWithin procs (Interposing o p) = p < procs
IsWithin procs (Opening o p) = p < procs
IsWithin procs (Reopening o p) = p < procs
IsWithin procs stage = Unit {0}

pub record IsObject (procs callers : ℕ) (look : Outlook) (o : ℕ) (k : Object) : Type 0 where
  pub bits_follow : BitsFollowSwap callers look o k
  pub within : IsWithin procs look.stage
  pub many_entries : length k.entries ≡ procs
  pub entries_follow : EachPlace (IsEntry look.stage look.incarnation k.shapes k.layout) k.entries
  pub freed_rows : IsFreed look k.entries

abbrev pub counts_at : Place → ℕ → Bool
counts_at (Tracked q i) o = q == o
counts_at (Blocked q) o = q == o
counts_at _ o = false

-- how many callers are counted at the mediator of o
abbrev pub many_counted : List Visitor → ℕ → ℕ
many_counted callers o = count_by (λ x. counts_at x.place o) callers

abbrev pub IsCounted : List Visitor → ℕ → Object → Type 0
IsCounted callers o k = k.count ≡ many_counted callers o
