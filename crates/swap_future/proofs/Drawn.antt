-- What a pass of a roll has drawn.
use Rattle.std.proofs.Common.{◌≡◌, ⊎_elim, inl, inr, ℕ, ◌<◌, List, [], ◌∷◌, ◌++◌, Option, Some, None, Result, Ok, Err, IsSomeAnd, length, replicate, refl, sym, ap, subst, ◌∙◌, arith}
use Rattle.std.specs.Prelude.{slice_get}
use Rattle.std.proofs.lemmas.List.{append-nil, append_assoc, length-replicate}
use Rattle.std.proofs.lemmas.Option.{slice_get_within}
use Rattle.k42_board.specs.declared.view.PassView.{PassView}
use Rattle.k42_kinds.specs.declared.operation.Op.{Op}
use Rattle.k42_kinds.specs.declared.operation.Reply.{Reply}
use Rattle.k42_kinds.specs.declared.entry.Entry.{Entry}
use Rattle.k42_places.specs.Places.{EachPair}
use Rattle.k42_places.proofs.EachPlaces.{EachPlace-replicate}
use Rattle.k42_runtime.proofs.SwapSteps.{same_caller}
use Rattle.k42_runtime.specs.Swaps.{HasAbandoned}
use Rattle.co_system.specs.Systems.{SystemSeen, SystemPass, SystemPart}
use Rattle.k42_runtime.specs.Systems.{live_in}
use Rattle.k42_runtime.specs.declared.swaps.Stage.TheVariants.{New}
use Rattle.k42_runtime.specs.declared.swaps.NoSwap.{NoSwap}
use Rattle.k42_runtime.specs.declared.swaps.NoSwap.TheVariants.{Memory, Worn}
use Rattle.k42_runtime.specs.declared.swaps.Swapped.{Swapped}
use Rattle.k42_kinds.specs.declared.entry.To.{To}
use Rattle.swap_future.specs.Polling.{Ends, new_swap}
use Rattle.swap_future.specs.Rolling.{Carries, HasRolled, first_flight, items_of, new_roll}
use Rattle.swap_future.specs.declared.rolling.Flight.{Flight}
use Rattle.swap_future.proofs.Places.{there}
use Rattle.swap_future.specs.Told.{BeginWith, AreEntriesOf, HasBroughtBack, HasDrawnFor}

some_is : {A : Type 0} (o : Option A) (P : A → Type 0) → IsSomeAnd o P → (x : A) × (o ≡ Some x) × P x
some_is (Some x) P is = (x, refl, is)
some_is None P is = absurd is

module _ (system : SystemSeen) (plan : List (ℕ × To)) (answers : List (Result Swapped NoSwap)) where
  -- one item's entry, and those of the others
  one_more : (asked : ℕ × To) (items : List ℕ) (answer : Result Swapped NoSwap) (old mid new : SystemPass) → Ends system (new_swap asked.0 asked.1) old answer mid
      → HasDrawnFor plan answers items mid new
      → (entries : List (Entry Op Reply)) × (new.view.taker.mine ≡ old.view.taker.mine ++ entries) × BeginWith asked answer (AreEntriesOf plan answers items) entries
  one_more asked items (Ok end) old mid new ends rest = (
    ends.ended.entry ∷ rest.0,
    rest.1 ∙ ap (λ mine. mine ++ rest.0) ends.ended.drawn ∙ append_assoc old.view.taker.mine (ends.ended.entry ∷ []) rest.0,
    (
      ends.ended.entry,
      rest.0,
      refl,
      record {
        object = ap (λ (e : Entry Op Reply). e.object) ends.ended.next.whole;
        act = ap (λ (e : Entry Op Reply). e.act) ends.ended.next.whole;
        answer_is = ap (λ (e : Entry Op Reply). e.answer) ends.ended.next.whole;
      },
      rest.2,
    ),
  )
  one_more asked items (Err Worn) old mid new ends rest =
      (rest.0, rest.1 ∙ ap (λ (p : SystemPass). p.view.taker.mine ++ rest.0) (ends.kept refl), rest.2)
  one_more asked items (Err Memory) old mid new ends rest =
      ⊎_elim
      (λ (u : (New ≡ New) × (mid.view ≡ old.view)).
      (rest.0, rest.1 ∙ ap (λ (v : PassView SystemPart Op Reply). v.taker.mine ++ rest.0) u.1, inl rest.2))
      (λ (u : HasAbandoned (live_in system.sys.shapes asked.0) asked.0 asked.1 old.view mid.view). (
        u.entry ∷ rest.0,
        rest.1 ∙ ap (λ mine. mine ++ rest.0) u.drawn ∙ append_assoc old.view.taker.mine (u.entry ∷ []) rest.0,
        inr (
          u.entry,
          rest.0,
          refl,
          (
            _,
            record {
              object = ap (λ (e : Entry Op Reply). e.object) u.next.whole;
              act = ap (λ (e : Entry Op Reply). e.act) u.next.whole;
              answer_is = ap (λ (e : Entry Op Reply). e.answer) u.next.whole;
            },
          ),
          rest.2,
        ),
      ))
      (ends.memory refl)

  with_first : (asked : ℕ × To) (item : ℕ) (items : List ℕ) (old mid new : SystemPass) → slice_get plan item ≡ Some asked
      → IsSomeAnd (slice_get answers item) (λ answer. Ends system (new_swap asked.0 asked.1) old answer mid)
      → HasBroughtBack plan answers items mid new → HasBroughtBack plan answers (item ∷ items) old new
  with_first asked item items old mid new at ends rest =
      let told = some_is (slice_get answers item) (λ answer. Ends system (new_swap asked.0 asked.1) old answer mid) ends in
      let more = one_more asked items told.0 old mid new told.2 rest.drawn in
      record {
        seat = rest.seat ∙ told.2.seat;
        keep = rest.keep ∙ told.2.keep;
        caller = same_caller old.view mid.view new.view told.2.caller rest.caller;
        graces = let first = told.2.graces in let others = rest.graces in omega (arith, first, others);
        drawn = (
          more.0,
          more.1,
          subst (λ (o : Option (ℕ × To)). IsSomeAnd o (λ asked. IsSomeAnd (slice_get answers item) (λ answer. BeginWith asked answer (AreEntriesOf plan answers items) more.0))) (sym at)
              (subst (λ (o : Option (Result Swapped NoSwap)). IsSomeAnd o (λ answer. BeginWith asked answer (AreEntriesOf plan answers items) more.0)) (sym told.1) more.2),
        );
      }

  nothing_more : (pass : SystemPass) → HasBroughtBack plan answers [] pass pass
  nothing_more pass = record {
    seat = refl;
    keep = refl;
    caller = record { number = refl; proc = refl };
    graces = omega arith;
    drawn = ([], sym (append-nil pass.view.taker.mine), refl);
  }

  flight_drawn : (asked : ℕ × To) (item : ℕ) (items : List ℕ) (old new : SystemPass) → slice_get plan item ≡ Some asked
      → Carries system plan answers items (Some (first_flight asked item)) old None new → HasBroughtBack plan answers (item ∷ items) old new
  flight_drawn asked item [] old new at is = with_first asked item [] old new new at is (nothing_more new)
  flight_drawn asked item (next ∷ items) old new at is =
      let first = some_is (slice_get plan next) (λ asked. Carries system plan answers items (Some (first_flight asked next)) is.0 None new) is.2 in
      with_first asked item (next ∷ items) old is.0 new at is.1 (flight_drawn first.0 next items is.0 new first.1 first.2)

  brought_back : (items : List ℕ) (old new : SystemPass) → Carries system plan answers items None old None new → HasBroughtBack plan answers items old new
  brought_back [] old new is = subst (λ (pass : SystemPass). HasBroughtBack plan answers [] pass new) is (nothing_more new)
  brought_back (item ∷ items) old new is =
      let first = some_is (slice_get plan item) (λ asked. Carries system plan answers items (Some (first_flight asked item)) is.0 None new) is.2 in
      subst (λ (pass : SystemPass). HasBroughtBack plan answers (item ∷ items) pass new) is.1 (flight_drawn first.0 item items is.0 new first.1 first.2)

abbrev idle : Option Flight
idle = None

-- and so have all passes of a roll
pub all_brought_back : (system : SystemSeen) (plan : List (ℕ × To)) (olds news : List SystemPass) (answers : List (Result Swapped NoSwap))
    → (is : HasRolled system (new_roll plan olds) answers news) → EachPair (λ place. HasBroughtBack plan answers (items_of place 0 is.takers)) olds news
all_brought_back system plan olds news answers is place old new at_old at_new =
    let less : place < length (replicate (length olds) idle) =
    (let few = slice_get_within olds place old at_old in let many = length-replicate (length olds) idle in omega (arith, few, many)) in
    let free = there (replicate (length olds) idle) place less in
    brought_back system plan answers (items_of place 0 is.takers) old new
    (is.each place None old new
    (free.1 ∙ (λ j. Some (EachPlace-replicate (λ i (f : Option Flight). f ≡ None) (length olds) idle (λ i. refl) place free.0 free.1 j))) at_old at_new)
