-- A swap that is stepped on: what its steps bring, seen from a step before.
use Rattle.std.proofs.Common.{◌≡◌, ⊎_elim, inl, inr, ◌↔◌, ℕ, ◌+◌, ◌<◌, ◌≤◌, [], ◌∷◌, ◌++◌, None, length, refl, sym, ap, ◌∙◌, subst, arith}
use Rattle.k42_kinds.specs.declared.entry.Act.{Act}
use Rattle.k42_kinds.specs.declared.entry.Answer.{Answer}
use Rattle.k42_kinds.specs.declared.entry.Entry.{Entry}
use Rattle.turn_core.specs.Stamps.{last_stamp}
use Rattle.k42_board.proofs.Gained.{extends_on, ends_on, extends_follows, ends_follows, follows_on}
use Rattle.k42_board.specs.Log.{Follows, Extends}
use Rattle.k42_board.specs.Seen.{PassSeen}
use Rattle.k42_board.specs.declared.view.PassView.{PassView}
use Rattle.k42_mediator.specs.Entries.{IsNext}
use Rattle.k42_runtime.specs.Phases.{HasGoneOn}
use Rattle.k42_runtime.specs.Swaps.{SwapSeen, IsSameCaller, IsHeldUpBy, IsWornOut, HasSwapped, HasAbandoned, HasBrought, HasStepped, IsStepBy, graces_due}
use Rattle.k42_board.specs.Views.{word_begun}
use Rattle.k42_runtime.specs.Systems.{SystemSeen, live_in}
use Rattle.k42_runtime.specs.declared.swaps.Cause.{Cause}
use Rattle.k42_runtime.specs.declared.swaps.Cause.TheVariants as causes
use Rattle.k42_runtime.specs.declared.swaps.Stage.TheVariants.{New}
use Rattle.k42_runtime.specs.declared.swaps.Step.{Step}
use Rattle.k42_runtime.specs.declared.swaps.Step.TheVariants.{Again, Ended, Memory, Worn}
use Rattle.k42_runtime.specs.declared.swaps.Swapped.{Swapped}
use Rattle.k42_kinds.specs.declared.entry.To.{To}

pub same_caller : {P O R : Type 0} (u v w : PassView P O R) → IsSameCaller u v → IsSameCaller v w → IsSameCaller u w
same_caller u v w first second = record {
  number = second.number ∙ first.number;
  proc = second.proc ∙ first.proc;
}

-- of a pass that has drawn nothing in between
module _ {P O R : Type 0} (u v w : PassView P O R) (same : IsSameCaller u v) (drawn : v.taker.mine ≡ u.taker.mine) where
  next_before : (object incarnation cell : ℕ) (act : Act O) (answer : Answer R) (entry : Entry O R) → IsNext v object incarnation cell act answer entry
      → IsNext u object incarnation cell act answer entry
  next_before object incarnation cell act answer entry next = record {
    later = subst (λ mine. last_stamp mine < entry.stamp) drawn next.later;
    whole = next.whole ∙ (λ j. record {
      stamp = entry.stamp;
      caller = same.number j;
      index = length (drawn j);
      object = object;
      incarnation = incarnation;
      cell = cell;
      act = act;
      answer = answer;
      proc = same.proc j;
      generation = None;
    });
  }

  pub swapped_before : (object : ℕ) (to : To) (end : Swapped) → HasSwapped object to end v w → HasSwapped object to end u w
  swapped_before object to end is = record {
    begun = is.begun;
    entry = is.entry;
    next = next_before object _ _ _ _ is.entry is.next;
    drawn = is.drawn ∙ ap (λ mine. mine ++ is.entry ∷ []) drawn;
  }

  pub abandoned_before : (live object : ℕ) (to : To) → Follows u.log v.log → HasAbandoned live object to v w → HasAbandoned live object to u w
  abandoned_before live object to follows is = record {
    begun = is.begun;
    free = is.free;
    entry = is.entry;
    next = next_before object _ 0 _ _ is.entry is.next;
    drawn = is.drawn ∙ ap (λ mine. mine ++ is.entry ∷ []) drawn;
    log = is.log;
    since = follows_on follows is.since;
    found = is.found;
    cleared = is.cleared;
    restored = is.restored;
  }

-- what has held it up, seen from before steps that met nothing
held_before : {P O R : Type 0} (live : ℕ) (cause : Cause) (old mid new : PassView P O R) → Extends old.log mid.log → IsHeldUpBy live cause mid new → IsHeldUpBy live cause old new
held_before live (causes.Left proc left) old mid new free is =
    record { at = is.at; there = is.there; some = is.some; exits = is.exits; looked = ends_on free is.looked; short = is.short; few = is.few }
held_before live (causes.RoleHeld holder) old mid new free is = record { tried = ends_on free is.tried; another = is.another; caller = is.caller }
held_before live (causes.InFlight count) old mid new free is = record { found = is.found; moved = ends_on free is.moved; count_is = is.count_is; some = is.some }
held_before live (causes.CellHeld holder) old mid new free is =
    record { over = is.over; locked = ends_on free is.locked; another = is.another; caller = is.caller }

-- what a pass logs that is held up follows what it had logged
pub held_follows : {P O R : Type 0} (live : ℕ) (cause : Cause) (old new : PassView P O R) → IsHeldUpBy live cause old new → Follows old.log new.log
held_follows live (causes.Left proc left) old new is = ends_follows is.looked
held_follows live (causes.RoleHeld holder) old new is = ends_follows is.tried
held_follows live (causes.InFlight count) old new is = ends_follows is.moved
held_follows live (causes.CellHeld holder) old new is = ends_follows is.locked

pub fewer : (a b c : ℕ) → b ≤ a → c ≤ b → c ≤ a
fewer a b c first second = omega (arith, first, second)

-- by steps that draw nothing, whatever they met
pub record HasComeOn {P O R : Type 0} (s t : SwapSeen) (old new : PassSeen P O R) : Type 0 where
  pub object : t.object ≡ s.object
  pub to : t.to ≡ s.to
  pub seat : new.seat ≡ old.seat
  pub keep : new.keep ≡ old.keep
  pub caller : IsSameCaller old.view new.view
  pub drawn : new.view.taker.mine ≡ old.view.taker.mine
  pub log : Follows old.view.log new.view.log
  pub graces : new.view.graces + graces_due t.stage t.holder ≤ old.view.graces + graces_due s.stage s.holder
  pub waits : t.stage ≡ New → (s.stage ≡ New) × (new ≡ old)
  pub worn : s.stage ≡ New → IsWornOut old.view → t.stage ≡ New

come_on : {P O R : Type 0} (s t : SwapSeen) (old new : PassSeen P O R) → HasGoneOn s t old new → HasComeOn s t old new
come_on s t old new goes = record {
  object = goes.object;
  to = goes.to;
  seat = goes.seat;
  keep = goes.keep;
  caller = goes.caller;
  drawn = goes.drawn;
  log = extends_follows goes.log;
  graces = goes.graces;
  waits = goes.waits;
  worn = goes.worn;
}

module _ {L P O R : Type 0} (system : SystemSeen L) (s m t : SwapSeen) (old mid new : PassSeen P O R) (comes : HasComeOn s m old mid) where
  pub swapped_since : (end : Swapped) → HasSwapped m.object m.to end mid.view new.view → HasSwapped s.object s.to end old.view new.view
  swapped_since end is =
      subst (λ (x : ℕ × To). HasSwapped x.0 x.1 end old.view new.view) (λ j. (comes.object j, comes.to j))
      (swapped_before old.view mid.view new.view comes.caller comes.drawn m.object m.to end is)

  pub memory_since : (live : ℕ) → HasBrought live Memory m mid new → HasBrought live Memory s old new
  memory_since live =
      ⊎_elim (λ (is : (m.stage ≡ New) × (new.view ≡ mid.view)). let was = comes.waits is.0 in inl (was.0, is.1 ∙ ap (λ (p : PassSeen P O R). p.view) was.1))
      (λ (is : HasAbandoned live m.object m.to mid.view new.view). inr (
      subst (λ (x : ℕ × To). HasAbandoned live x.0 x.1 old.view new.view) (λ j. (comes.object j, comes.to j))
      (abandoned_before old.view mid.view new.view comes.caller comes.drawn live m.object m.to comes.log is)))

  -- it is worn out just where it was
  pub worn_before : {A : Type 0} → A ↔ ((m.stage ≡ New) × IsWornOut mid.view) → A ↔ ((s.stage ≡ New) × IsWornOut old.view)
  worn_before is = (
    λ a. let now = is.0 a in let was = comes.waits now.0 in (was.0, subst (λ (p : PassSeen P O R). IsWornOut p.view) was.1 now.1),
    λ w. let at = comes.worn w.0 w.1 in is.1 (at, subst (λ (p : PassSeen P O R). IsWornOut p.view) (sym (comes.waits at).1) w.1),
  )

  stepped_since : (result : Step) → HasBrought (live_in system.sys.shapes s.object) result s old new → HasStepped system result m t mid new → HasStepped system result s t old new
  stepped_since result brought is = record {
    here = is.here;
    stage = is.stage;
    begun = is.begun;
    object = is.object ∙ comes.object;
    to = is.to ∙ comes.to;
    over = is.over;
    seat = is.seat ∙ comes.seat;
    keep = is.keep ∙ comes.keep;
    caller = same_caller old.view mid.view new.view comes.caller is.caller;
    graces =
        let first = comes.graces in let second = is.graces in
        fewer (old.view.graces + graces_due s.stage s.holder) (mid.view.graces + graces_due m.stage m.holder)
        (new.view.graces + graces_due t.stage t.holder) first second;
    told = subst (λ (o : ℕ). IsStepBy (live_in system.sys.shapes o) (word_begun new.view.last) result) comes.object is.told;
    worn = worn_before is.worn;
    brought = brought;
  }

module _ {L P O R : Type 0} (system : SystemSeen L) (s m t : SwapSeen) (old mid new : PassSeen P O R) (goes : HasGoneOn s m old mid) where
  brought_before : (live : ℕ) (result : Step) → (result ≡ Worn → mid ≡ old) → HasBrought live result m mid new → HasBrought live result s old new
  brought_before live (Ended end) same is = (swapped_since system s m t old mid new (come_on s m old mid goes) end is.0, extends_on goes.log is.1)
  brought_before live (Again cause) same is = (is.0 ∙ goes.drawn, held_before live cause old.view mid.view new.view goes.log is.1)
  brought_before live Memory same is = memory_since system s m t old mid new (come_on s m old mid goes) live is
  brought_before live Worn same is = is ∙ same refl

  pub stepped_before : (result : Step) → HasStepped system result m t mid new → HasStepped system result s t old new
  stepped_before result is =
      stepped_since system s m t old mid new (come_on s m old mid goes) result
      (brought_before (live_in system.sys.shapes s.object) result (λ e. (goes.waits (is.worn.0 e).0).1)
      (subst (λ (o : ℕ). HasBrought (live_in system.sys.shapes o) result m mid new) goes.object is.brought)) is
