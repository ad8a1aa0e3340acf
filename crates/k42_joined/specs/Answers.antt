-- What stays true of the answers of swaps, and of what is kept beside.
use Rattle.std.specs.Prelude.{◌≡◌, ◌≢◌, ◌⊎◌, ℕ, ◌+◌, ◌<◌, ◌≤◌, Bool, true, false, ◌||◌, ⊤, List, [], ◌∷◌, ◌++◌, length, Some}
use Rattle.k42_limits.specs.declared.TheConstants.{LAST_INCARNATION}
use Rattle.k42_kinds.specs.declared.entry.Answer.{Answer}
use Rattle.k42_kinds.specs.declared.entry.Answer.TheVariants.{Replied, Swapped, Busy, Spent, Gone, Abandoned}
use Rattle.k42_kinds.specs.declared.entry.Entry.{Entry}
use Rattle.k42_kinds.specs.Histories.{AtEachPlace, is_call}
use Rattle.k42_kinds.specs.Legal.{IsTimely, Settles}
use Rattle.k42_stamp.specs.Orders.{In}
use Rattle.phase_core.specs.Plain.{Object}
use Rattle.phase_core.specs.Stages.{named_by, is_idle}
use Rattle.phase_core.specs.declared.caller.SwapAt.{SwapAt}
use Rattle.phase_core.specs.declared.caller.SwapAt.TheVariants.{Refused, Moved, Opening, Opened}
use Rattle.k42_joined.specs.Plain.{Joined}
use Rattle.k42_joined.specs.State.{many_callers, many_objects, object, incarnation, swap_of, mine, kept_of, is_handed}
use Rattle.k42_joined.specs.Found.{swap_number, tells_over}
use Rattle.k42_joined.specs.Refusals.{is_given_up}

abbrev pub is_refused : SwapAt → Bool
is_refused (Refused o) = true
is_refused _ = false

-- the swap was turned over, and opens its object, or has
abbrev pub is_turned : SwapAt → Object → Bool
is_turned (Opening o p) k = true
is_turned (Opened o) k = k.complete
is_turned _ k = false

-- the caller has drawn an entry on the object with this answer
pub record HasAnswered {L O R : Type 0} (s : Joined L O R) (c o : ℕ) (told : Answer R) : Type 0 where
  pub entry : Entry O R
  pub drawn : In entry (mine s c)
  pub object : entry.object ≡ o
  pub answer : entry.answer ≡ told

-- an entry that would tell of the Busy that was found
pub record IsBusyOf {O R : Type 0} (c o number : ℕ) (entry : Entry O R) : Type 0 where
  pub caller : entry.caller ≡ c
  pub object : entry.object ≡ o
  pub incarnation : entry.incarnation + 1 ≡ number
  pub answer : entry.answer ≡ Busy number

-- a refusal and an abandoned swap stand, among their caller's entries, where they are due
abbrev pub AreTimely : {O R : Type 0} → List (Entry O R) → Type 0
AreTimely entries =
    AtEachPlace (λ before entry after.
    ((number : ℕ) → entry.answer ≡ Busy number → IsTimely before entry after number)
    × ((number : ℕ) → entry.answer ≡ Abandoned number → IsTimely before entry after number))
    entries

-- an answer that tells of a dead object, or of one at its last incarnation, tells the truth
abbrev pub IsTrueOf : {R : Type 0} → Object → ℕ → Answer R → Type 0
IsTrueOf k i Spent = (i ≡ k.incarnation) × (k.incarnation ≡ LAST_INCARNATION) × (k.layout ≢ length k.shapes)
IsTrueOf k i Gone = (i ≡ k.incarnation) × (k.layout ≡ length k.shapes)
IsTrueOf k i _ = ⊤

module _ {L O R : Type 0} (s : Joined L O R) where
  -- What is kept of a caller: its swap is of the object that was begun last, which is there, and an answer is
  -- kept only while no swap is under way, or a refused one.
  pub record IsKept (c : ℕ) : Type 0 where
    pub begun : (o : ℕ) → named_by (swap_of s c) ≡ Some o → (kept_of s c).begun ≡ Some o
    pub there : (o : ℕ) → (kept_of s c).begun ≡ Some o → o < many_objects s
    pub found
        : (answer : Answer R)
        → (kept_of s c).found ≡ Some answer
        → is_idle (swap_of s c) || is_refused (swap_of s c) ≡ true

  -- another caller has settled the swap of this number, or it is under way
  pub record IsUnderWay (c o n : ℕ) : Type 0 where
    pub rival : ℕ
    pub other : rival ≢ c
    pub there : rival < many_callers s
    pub named : named_by (swap_of s rival) ≡ Some o
    pub granted : is_refused (swap_of s rival) ≡ false
    pub number : n ≡ swap_number (object s o)

  pub record IsSettled (c o number : ℕ) : Type 0 where
    pub rival : ℕ
    pub other : rival ≢ c
    pub entry : Entry O R
    pub drawn : In entry (mine s rival)
    pub object : entry.object ≡ o
    pub settles : Settles number entry.answer

  abbrev pub HasRival : ℕ → ℕ → ℕ → Type 0
  HasRival c o number = IsSettled c o number ⊎ IsUnderWay c o number

  -- the number of a drawn answer is known to the object; Hand's is ahead while its caller still moves the object
  abbrev pub IsKnownNumber : ℕ → ℕ → ℕ → Type 0
  IsKnownNumber c o number =
      (number ≤ incarnation s o) ⊎ ((number ≡ incarnation s o + 1) × (swap_of s c ≡ Moved o))

  -- an entry that the caller has drawn
  pub record IsAnswer (c : ℕ) (entry : Entry O R) : Type 0 where
    pub there : entry.object < many_objects s
    -- a call has a reply
    pub replied : is_call entry.act ≡ true → (reply : R) × (entry.answer ≡ Replied reply)
    pub known : entry.incarnation ≤ incarnation s entry.object
    pub done : (number : ℕ) → entry.answer ≡ Swapped number → IsKnownNumber c entry.object number
    pub over : IsTrueOf (object s entry.object) entry.incarnation entry.answer
    -- what tells of an object that is over comes after all swaps of it
    pub last :
        tells_over entry.answer ≡ true → (d number : ℕ) (other : Entry O R) → d < many_callers s → In other (mine s d)
        → other.object ≡ entry.object → other.answer ≡ Swapped number → other.stamp < entry.stamp
    pub busy : (number : ℕ) → entry.answer ≡ Busy number → number ≤ swap_number (object s entry.object)
    pub abandoned : (number : ℕ) → entry.answer ≡ Abandoned number → number ≤ swap_number (object s entry.object)
    pub rival : (number : ℕ) → entry.answer ≡ Busy number → HasRival c entry.object number

  -- an answer that is kept of the caller's last Begin, which was of object o
  pub record IsFound (c o : ℕ) (answer : Answer R) : Type 0 where
    pub over : IsTrueOf (object s o) (incarnation s o) answer
    pub some : (number : ℕ) → answer ≡ Busy number → 1 ≤ number
    pub busy : (number : ℕ) → answer ≡ Busy number → number ≤ swap_number (object s o)
    pub rival : (number : ℕ) → answer ≡ Busy number → HasRival c o number
    pub timely :
        (number : ℕ) (entry : Entry O R) → answer ≡ Busy number → IsBusyOf c o number entry
        → AreTimely (mine s c ++ entry ∷ [])

  -- what a swap has drawn on its object
  pub record HasDrawn (c o : ℕ) : Type 0 where
    pub handed :
        swap_of s c ≡ Moved o → is_handed s o ≡ true → HasAnswered s c o (Swapped (incarnation s o + 1))
    pub turned :
        is_turned (swap_of s c) (object s o) ≡ true → HasAnswered s c o (Swapped (incarnation s o))
    pub given_up :
        is_given_up (swap_of s c) (object s o) o ≡ true → (kept_of s c).abandoned ≡ true
        → HasAnswered s c o (Abandoned (incarnation s o + 1))

  -- what is true of one caller
  pub record IsAnswered (c : ℕ) : Type 0 where
    pub kept : IsKept c
    pub timely : AreTimely (mine s c)
    pub each : (entry : Entry O R) → In entry (mine s c) → IsAnswer c entry
    pub found :
        (o : ℕ) (answer : Answer R) → (kept_of s c).begun ≡ Some o → (kept_of s c).found ≡ Some answer
        → IsFound c o answer
    pub drawn : (o : ℕ) → named_by (swap_of s c) ≡ Some o → HasDrawn c o

  abbrev pub AreAnswered : Type 0
  AreAnswered = (c : ℕ) → c < many_callers s → IsAnswered c
