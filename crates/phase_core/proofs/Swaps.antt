-- What the stage of a swap says of entries and bits, and objects of which one part changes.
use Rattle.std.proofs.Common.{◌≡◌, ℕ, ◌+◌, ◌≤◌, ◌⊎◌, ◌∙◌, Bool, true, false, length-set, Some, refl, inl, inr, ⊎_elim, arith, List}
use Rattle.std.specs.Bool.{MatchBool}
use Rattle.k42_places.proofs.EachPlaces.{EachPlace-set}
use Rattle.k42_shapes.specs.declared.shape.Shape.{Shape}
use Rattle.phase_core.specs.declared.object.LocalEntry.{LocalEntry}
use Rattle.phase_core.specs.declared.caller.SwapAt.{SwapAt}
use Rattle.phase_core.specs.declared.caller.SwapAt.TheVariants.{Draining, Drained, Blocking, Moved, Opening}
use Rattle.phase_core.specs.Objects.{Bits, BitsFollow, IsMediator, IsOpen, IsEntry, IsObject}
use Rattle.phase_core.specs.Outlooks.{Outlook, is_draining, is_closed, has_moved, is_mediated, behind}
use Rattle.phase_core.specs.Plain.{Object}
use Rattle.phase_core.specs.State.{put_entry}

pub behind_little : (stage : SwapAt) → (behind stage ≡ 0) ⊎ (behind stage ≡ 1)
behind_little (Opening o q) = inr refl
behind_little stage = inl refl

pub closed_mediated : (stage : SwapAt) (p : ℕ) → is_closed stage ≡ true → (is_mediated stage p ≡ true) × (behind stage ≡ 0)
closed_mediated (Drained o) p e = (refl, refl)
closed_mediated (Blocking o) p e = (refl, refl)
closed_mediated (Moved o) p e = (refl, refl)
closed_mediated stage p e = absurd (cc)

-- where an entry is no mediator, the object neither drains nor is drained
pub open_stage : (stage : SwapAt) (p : ℕ) → is_mediated stage p ≡ false
    → (is_draining stage ≡ false) × (is_closed stage ≡ false)
open_stage (Draining o) p e = absurd (cc)
open_stage (Drained o) p e = absurd (cc)
open_stage (Blocking o) p e = absurd (cc)
open_stage (Moved o) p e = absurd (cc)
open_stage stage p e = (refl, refl)

pub moved_blocks : (b : Bits) (shapes : List Shape) (layout incarnation : ℕ) (stage : SwapAt) → BitsFollow b shapes layout incarnation stage → b.block ≡ false
    → has_moved stage ≡ false
moved_blocks b shapes layout incarnation (Moved o) bits e = let blocks = bits.0.0 in absurd (cc)
moved_blocks b shapes layout incarnation stage bits e = refl

-- an entry is of the incarnation or one less
pub entry_recent : (stage : SwapAt) (incarnation : ℕ) (shapes : List Shape) (layout p : ℕ) (e : LocalEntry) → IsEntry stage incarnation shapes layout p e
    → (e.incarnation ≡ incarnation) ⊎ (e.incarnation + 1 ≡ incarnation)
entry_recent stage incarnation shapes layout p e is = by_test (is_mediated stage p) is where
  by_test : (b : Bool) → MatchBool b (IsMediator incarnation (behind stage) e) (IsOpen incarnation shapes layout p e)
      → (e.incarnation ≡ incarnation) ⊎ (e.incarnation + 1 ≡ incarnation)
  by_test true m =
      ⊎_elim (λ none. inl (let n = m.number in omega (arith, none, n))) (λ one. inr (let n = m.number in omega (arith, one, n))) (behind_little stage)
  by_test false m = inl m.number

-- of a drained object it is of the incarnation
pub entry_closed : (stage : SwapAt) (incarnation : ℕ) (shapes : List Shape) (layout p : ℕ) (e : LocalEntry) → IsEntry stage incarnation shapes layout p e
    → is_closed stage ≡ true → e.incarnation ≡ incarnation
entry_closed stage incarnation shapes layout p e is closed =
    let m = closed_mediated stage p closed in
    let n : IsMediator incarnation (behind stage) e = rw m.0 at is in
    let number = n.number in
    omega (arith, number, m.1)

module _ (procs callers : ℕ) (look : Outlook) (o : ℕ) (k : Object) (is : IsObject procs callers look o k) where
  pub IsObject-count : (n : ℕ) → IsObject procs callers look o (record k { count = n })
  IsObject-count n = record {
    bits_follow = record {
      incarnation = is.bits_follow.incarnation;
      freed = is.bits_follow.freed;
      swap = is.bits_follow.swap;
      named = is.bits_follow.named;
      swapper_there = is.bits_follow.swapper_there;
      bits = is.bits_follow.bits;
      last = is.bits_follow.last;
      layout = is.bits_follow.layout;
      few = is.bits_follow.few;
    };
    within = is.within;
    many_entries = is.many_entries;
    entries_follow = is.entries_follow;
    freed_rows = is.freed_rows;
  }

  pub IsObject-entry : (p : ℕ) (e : LocalEntry) → IsEntry look.stage look.incarnation k.shapes k.layout p e
      → look.freed ≤ e.incarnation → ((n : ℕ) → look.noted ≡ Some n → n ≤ e.incarnation)
      → IsObject procs callers look o (put_entry k p e)
  IsObject-entry p e entry freed noted = record {
    bits_follow = record {
      incarnation = is.bits_follow.incarnation;
      freed = is.bits_follow.freed;
      swap = is.bits_follow.swap;
      named = is.bits_follow.named;
      swapper_there = is.bits_follow.swapper_there;
      bits = is.bits_follow.bits;
      last = is.bits_follow.last;
      layout = is.bits_follow.layout;
      few = is.bits_follow.few;
    };
    within = is.within;
    many_entries = length-set k.entries p e ∙ is.many_entries;
    entries_follow = EachPlace-set (IsEntry look.stage look.incarnation k.shapes k.layout) k.entries p e is.entries_follow entry;
    freed_rows = record {
      freed = is.freed_rows.freed;
      freed_entries = EachPlace-set (λ q f. look.freed ≤ f.incarnation) k.entries p e is.freed_rows.freed_entries freed;
      noted = is.freed_rows.noted;
      noted_entries = λ n known. EachPlace-set (λ q f. n ≤ f.incarnation) k.entries p e (is.freed_rows.noted_entries n known) (noted n known);
      settled = is.freed_rows.settled;
      stage = is.freed_rows.stage;
    };
  }
