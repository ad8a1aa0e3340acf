-- Swaps that wait, one poll after the other, and how they end.
use Rattle.std.proofs.Common.{◌≡◌, ℕ, ◌+◌, List, [], ◌∷◌, ◌++◌, Option, Some, None, Result, IsSomeAnd, refl, sym, subst, ◌∙◌, arith}
use Rattle.std.specs.Prelude.{slice_get}
use Rattle.k42_runtime.specs.Swaps.{SwapSeen, HasStepped, graces_due}
use Rattle.co_system.specs.Systems.{SystemSeen, SystemPass}
use Rattle.k42_runtime.specs.Systems.{live_in}
use Rattle.k42_runtime.specs.declared.swaps.Cause.{Cause}
use Rattle.k42_runtime.specs.declared.swaps.Step.TheVariants.{Again, Worn}
use Rattle.k42_runtime.specs.declared.swaps.NoSwap.{NoSwap}
use Rattle.k42_runtime.specs.declared.swaps.Swapped.{Swapped}
use Rattle.k42_kinds.specs.declared.entry.To.{To}
use Rattle.k42_board.proofs.Gained.{follows_on, follows_same}
use Rattle.k42_runtime.proofs.SwapSteps.{HasComeOn, held_follows, same_caller, fewer, worn_before}
use Rattle.swap_future.specs.Polling.{Ends}
use Rattle.swap_future.specs.Rolling.{HasWaited, last_cause, GetsOn, Carries, first_flight}
use Rattle.swap_future.specs.declared.rolling.Flight.{Flight}
use Rattle.swap_future.proofs.Polled.{ends_before}

not_come : (s : SwapSeen) (old : SystemPass) → HasComeOn s s old old
not_come s old = record {
  object = refl;
  to = refl;
  seat = refl;
  keep = refl;
  caller = record { number = refl; proc = refl };
  drawn = refl;
  log = follows_same old.view.log;
  graces = omega arith;
  waits = λ e. (e, refl);
  worn = λ e w. e;
}

comes_again : (system : SystemSeen) (s m t : SwapSeen) (old mid new : SystemPass) (cause : Cause) → HasComeOn s m old mid
    → HasStepped system (Again cause) m t mid new → HasComeOn s t old new
comes_again system s m t old mid new cause comes step = record {
  object = step.object ∙ comes.object;
  to = step.to ∙ comes.to;
  seat = step.seat ∙ comes.seat;
  keep = step.keep ∙ comes.keep;
  caller = same_caller old.view mid.view new.view comes.caller step.caller;
  drawn = step.brought.0 ∙ comes.drawn;
  log = follows_on comes.log (held_follows (live_in system.sys.shapes m.object) cause mid.view new.view step.brought.1);
  graces =
      let first = comes.graces in let second = step.graces in
      fewer (old.view.graces + graces_due s.stage s.holder) (mid.view.graces + graces_due m.stage m.holder)
      (new.view.graces + graces_due t.stage t.holder) first second;
  waits = λ e. absurd (step.begun e);
  worn = λ e w. absurd (let never : Again cause ≡ Worn = (worn_before system s m t old mid new comes step.worn).1 (e, w) in cc);
}

-- steps that are held up draw nothing
comes_on : (system : SystemSeen) (causes : List Cause) (s t : SwapSeen) (old new : SystemPass) → HasWaited system causes s old t new → HasComeOn s t old new
comes_on system [] s t old new is =
    subst (λ (x : SwapSeen × SystemPass). HasComeOn s x.0 old x.1) (λ j. (sym is.0 j, sym is.1 j)) (not_come s old)
comes_on system (cause ∷ causes) s t old new is =
    comes_again system s is.0 t old is.1 new cause (comes_on system causes s is.0 old is.1 is.2) is.3

waited_then : (system : SystemSeen) (causes more : List Cause) (s m t : SwapSeen) (old mid new : SystemPass) → HasWaited system causes s old m mid
    → HasWaited system more m mid t new → HasWaited system (more ++ causes) s old t new
waited_then system causes [] s m t old mid new first is =
    subst (λ (x : SwapSeen × SystemPass). HasWaited system causes s old x.0 x.1) (λ j. (sym is.0 j, sym is.1 j)) first
waited_then system causes (cause ∷ more) s m t old mid new first is =
    (is.0, is.1, waited_then system causes more s m is.0 old mid is.1 first is.2, is.3)

last_cause-append : (causes more : List Cause) (before : Option Cause) → last_cause more (last_cause causes before) ≡ last_cause (more ++ causes) before
last_cause-append causes [] before = refl
last_cause-append causes (cause ∷ more) before = refl

pub some_then : {A : Type 0} (o : Option A) (P Q : A → Type 0) → IsSomeAnd o P → ((x : A) → P x → Q x) → IsSomeAnd o Q
some_then (Some x) P Q is then = then x is
some_then None P Q is then = is

module _ (system : SystemSeen) (answers : List (Result Swapped NoSwap)) where
  pub not_moved : (f : Option Flight) (old : SystemPass) → GetsOn system answers f old f old
  not_moved None old = refl
  not_moved (Some f) old = (refl, [], refl, (refl, refl))

  gets_on_then : (f g h : Option Flight) (old mid new : SystemPass) → GetsOn system answers f old g mid → GetsOn system answers g mid h new
      → GetsOn system answers f old h new
  gets_on_then None None None old mid new first is = is ∙ first
  gets_on_then None None (Some h) old mid new first is = absurd is
  gets_on_then None (Some g) h old mid new first is = absurd first
  gets_on_then (Some f) None None old mid new first is = subst (λ (x : SystemPass). GetsOn system answers (Some f) old None x) (sym is) first
  gets_on_then (Some f) None (Some h) old mid new first is = absurd is
  gets_on_then (Some f) (Some g) None old mid new first is =
      let comes = comes_on system first.1 f.swap g.swap old mid first.3 in
      some_then (slice_get answers f.item) (λ answer. Ends system g.swap mid answer new) (λ answer. Ends system f.swap old answer new)
      (subst (λ item. IsSomeAnd (slice_get answers item) (λ answer. Ends system g.swap mid answer new)) first.0 is)
      (λ answer ends. ends_before system f.swap g.swap old mid new comes answer ends)
  gets_on_then (Some f) (Some g) (Some h) old mid new first is = (
    is.0 ∙ first.0,
    is.1 ++ first.1,
    is.2 ∙ (λ j. last_cause is.1 (first.2 j)) ∙ last_cause-append first.1 is.1 f.cause,
    waited_then system first.1 is.1 f.swap g.swap h.swap old mid new first.3 is.3,
  )

  -- a pass gets on with what it has taken by now, and then with what it takes later
  pub carries_then : (plan : List (ℕ × To)) (items more : List ℕ) (f g h : Option Flight) (old mid new : SystemPass)
      → Carries system plan answers items f old g mid → Carries system plan answers more g mid h new
      → Carries system plan answers (items ++ more) f old h new
  carries_then plan [] [] f g h old mid new first is = gets_on_then f g h old mid new first is
  carries_then plan [] (item ∷ more) f g h old mid new first is =
      (is.0, gets_on_then f g None old mid is.0 first is.1, is.2)
  carries_then plan (item ∷ items) more f g h old mid new first is = (
    first.0,
    first.1,
    some_then (slice_get plan item) (λ asked. Carries system plan answers items (Some (first_flight asked item)) first.0 g mid)
        (λ asked. Carries system plan answers (items ++ more) (Some (first_flight asked item)) first.0 h new) first.2
        (λ asked carries. carries_then plan items more (Some (first_flight asked item)) g h first.0 mid new carries is),
  )
