-- The counts of a state: how far each goes, in a field that has room for more.
use Rattle.std.specs.Prelude.{◌≡◌, ℕ, ◌*◌, ◌<◌, ◌≤◌, List, Option, Some}
use Rattle.k42_limits.specs.declared.TheConstants.{CALLERS, LAST_INCARNATION, LAST_STAMP, LIVE_LAYOUTS, OBJECTS, PASS_ENTRIES, PASS_GRACES, PROCESSORS}
use Rattle.k42_kinds.specs.declared.entry.Entry.{Entry}
use Rattle.k42_places.specs.Places.{EachPlace}
use Rattle.gen_core.specs.declared.state.GenProc.{GenProc}
use Rattle.phase_core.specs.Plain.{Object}
use Rattle.phase_core.specs.declared.object.LocalEntry.{LocalEntry}
use Rattle.turn_core.specs.Sound.{histories_of}
use Rattle.k42_joined.specs.Plain.{Joined}

-- so many graces all callers begin
abbrev pub MOST_GRACES : ℕ
MOST_GRACES = CALLERS * PASS_GRACES

-- a generation has a field of 32 bits; entries and exits have no bound
pub record ProcessorFits (p : ℕ) (k : GenProc) : Type 0 where
  pub generation : k.generation ≤ MOST_GRACES

-- what a processor's table has of an object: fields of 4, 4, 24 and 32 bits
pub record LocalFits (p : ℕ) (e : LocalEntry) : Type 0 where
  pub tag : e.tag ≤ 2
  pub layout : e.layout ≤ LIVE_LAYOUTS
  pub cell : e.cell < PROCESSORS
  pub incarnation : e.incarnation ≤ LAST_INCARNATION

-- an object's word: fields of 24, 4 and 32 bits beside its bits; and how many of its rows are freed
pub record ObjectFits (o : ℕ) (k : Object) : Type 0 where
  pub count : k.count ≤ CALLERS
  pub layout : k.layout ≤ LIVE_LAYOUTS
  pub incarnation : k.incarnation ≤ LAST_INCARNATION
  pub freed : k.freed ≤ k.incarnation
  pub entries : EachPlace LocalFits k.entries

-- an entry that was drawn
pub record EntryFits {O R : Type 0} (entry : Entry O R) : Type 0 where
  pub stamp : entry.stamp ≤ LAST_STAMP
  pub caller : entry.caller < CALLERS
  pub index : entry.index < PASS_ENTRIES
  pub object : entry.object < OBJECTS
  pub incarnation : entry.incarnation ≤ LAST_INCARNATION

-- the holder of the role or of a lock, where there is one
abbrev pub HolderFits : Option ℕ → Type 0
HolderFits holder = (c : ℕ) → holder ≡ Some c → c < CALLERS

abbrev pub AllFit : {O R : Type 0} → List (Entry O R) → Type 0
AllFit entries = EachPlace (λ place entry. EntryFits entry) entries

pub record NumbersFit {L O R : Type 0} (s : Joined L O R) : Type 0 where
  pub processors : EachPlace ProcessorFits s.phases.turns.procs
  pub role : HolderFits s.phases.turns.role
  pub objects : EachPlace ObjectFits s.phases.objects
  pub locks : EachPlace (λ n x. HolderFits x.lock) s.turns.cells
  -- each caller's entries, and those of each cell, of its former lives too
  pub lists : EachPlace (λ c x. AllFit x.mine) s.turns.callers
  pub histories : EachPlace (λ n x. EachPlace (λ life history. AllFit history) (histories_of x)) s.turns.cells
