-- Where a swap that was refused, or given up, is drawn at no cell.
use Rattle.std.specs.Prelude.{◌≡◌, ℕ, ◌+◌, Bool, true, false, not, ◌&&◌, ◌==◌, Some, None, []}
use Rattle.k42_kinds.specs.Histories.{is_call}
use Rattle.k42_kinds.specs.declared.entry.Answer.{Answer}
use Rattle.k42_kinds.specs.declared.entry.Answer.TheVariants.{Busy, Abandoned}
use Rattle.k42_kinds.specs.declared.entry.Entry.{Entry}
use Rattle.phase_core.specs.Plain.{Object}
use Rattle.phase_core.specs.declared.caller.SwapAt.{SwapAt}
use Rattle.phase_core.specs.declared.caller.SwapAt.TheVariants.{Reopening, Opened}
use Rattle.k42_joined.specs.Plain.{Joined}
use Rattle.k42_joined.specs.State.{object, incarnation, swap_of, kept_of}
use Rattle.k42_joined.specs.Drawing.{Bears}

-- the swap opens object o again, or has, without having turned it over
abbrev pub is_given_up : SwapAt → Object → ℕ → Bool
is_given_up (Reopening q p) k o = q == o
is_given_up (Opened q) k o = (q == o) && not k.complete
is_given_up _ k o = false

module _ {L O R : Type 0} (s : Joined L O R) where
  -- the Busy that was found
  pub record IsRefused (c : ℕ) (entry : Entry O R) (number : ℕ) : Type 0 where
    pub found : (kept_of s c).found ≡ Some (Busy number)
    pub before : entry.incarnation + 1 ≡ number

  -- of the swap that is given up, once
  pub record IsAbandoned (c : ℕ) (entry : Entry O R) (number : ℕ) : Type 0 where
    pub next : number ≡ incarnation s entry.object + 1
    pub present : entry.incarnation ≡ incarnation s entry.object
    pub given_up : is_given_up (swap_of s c) (object s entry.object) entry.object ≡ true
    pub once : (kept_of s c).abandoned ≡ false

  abbrev pub IsAnsweredAlone : ℕ → Entry O R → Answer R → Type 0
  IsAnsweredAlone c entry (Busy number) = IsRefused c entry number
  IsAnsweredAlone c entry (Abandoned number) = IsAbandoned c entry number
  IsAnsweredAlone c entry _ = ⊥

  -- it is of the object of its caller's last Begin
  pub record MayDrawAlone (c : ℕ) (entry : Entry O R) : Type 0 where
    pub bears : Bears s c [] entry
    pub begun : (kept_of s c).begun ≡ Some entry.object
    pub act : is_call entry.act ≡ false
    pub answer : IsAnsweredAlone c entry entry.answer
    pub generation : entry.generation ≡ None

-- whether an answer tells of a swap that was given up
abbrev pub tells_abandoned : {R : Type 0} → Answer R → Bool
tells_abandoned (Abandoned number) = true
tells_abandoned _ = false
