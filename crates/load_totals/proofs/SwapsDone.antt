-- What the workers of a generated script ask, and that each swap is carried out.
use Rattle.std.proofs.Common.{◌≡◌, ℕ, ◌/◌, ◌%◌, ◌<◌, ◌≤◌, Bool, true, false, cond, not, ◌⊎◌, inl, inr, List, [], ◌∷◌, ◌++◌, length, fold, codes, decimal, eqb, ◌||◌, Any, refl, sym, ap, subst, subst₂, ◌∙◌, ⊎_elim, arith}
use Rattle.std.specs.Prelude.{◌==◌}
use Rattle.std.specs.List.{AllByRecursion}
use Rattle.std.proofs.lemmas.Bool.{eqb-true, or_cases, cond_both}
use Rattle.std.proofs.lemmas.List.{length-append}
use Rattle.std.proofs.lemmas.List.Sums.{count_by-le-length}
use Rattle.k42_limits.specs.declared.TheConstants.{PAGES, LAST_INCARNATION}
use Rattle.k42_kinds.specs.Histories.{is_call, is_carried_out, is_carried_out_on, number_of, moved_by, state_after_act}
use Rattle.k42_kinds.specs.Legal.{Settles, IsRival, IsAlive, IsLegalAct, IsLegalAnswer}
use Rattle.k42_kinds.specs.Objects.{state_after, is_dead, empty_state}
use Rattle.k42_kinds.specs.Watched.{watched_object}
use Rattle.k42_kinds.specs.declared.operation.Reply.{Reply}
use Rattle.k42_kinds.specs.declared.entry.Act.{Act}
use Rattle.k42_kinds.specs.declared.entry.Act.TheVariants.{Call, Swap}
use Rattle.k42_kinds.specs.declared.entry.Answer.{Answer}
use Rattle.k42_kinds.specs.declared.entry.Answer.TheVariants.{Replied, Swapped, Busy, Spent, Gone, Abandoned}
use Rattle.k42_kinds.specs.declared.entry.To.TheVariants.{Layout}
use Rattle.k42_kinds.specs.declared.entry.Entry.{Entry}
use Rattle.k42_kinds.specs.declared.operation.KindName.{KindName}
use Rattle.k42_kinds.specs.declared.operation.KindName.TheVariants.{Counter, Directory, Pages}
use Rattle.k42_kinds.specs.Operations.{layout_number}
use Rattle.k42_kinds.specs.declared.operation.Op.{Op}
use Rattle.k42_kinds.specs.declared.operation.Op.TheVariants.{Add, Bind, Write}
use Rattle.k42_kinds.specs.declared.states.AnyState.{AnyState}
use Rattle.k42_kinds.specs.declared.states.AnyState.TheVariants as states
use Rattle.k42_kinds.specs.declared.watch.WatchState.{WatchState}
use Rattle.k42_kinds.proofs.Splits.{All-at_split, none-Any}
use Rattle.script_text.specs.Generated.{layout_at, value_at, generated}
use Rattle.script_text.specs.Lawful.{IsLawful, IsNotGivenUp}
use Rattle.load_totals.specs.Loads.{is_swap}
use Rattle.load_totals.proofs.StepActs.{name_of, asked, IsStepOf, length_is, each_is_step}

-- a worker adds, binds one of a hundred names or writes a page; worker 0 swaps too
pub data Asks (worker : ℕ) (act : Act Op) : Type 0 where
  Adds : (amount : ℕ) → act ≡ Call (Add amount) → Asks worker act
  Binds : (name number : ℕ) → name < 100 → act ≡ Call (Bind (name_of name) number) → Asks worker act
  Writes : (page : ℕ) (text : List ℕ) → page < PAGES → act ≡ Call (Write page text) → Asks worker act
  Swaps : (number : ℕ) → worker ≡ 0 → act ≡ Swap (Layout number) → Asks worker act

asks_by_turn : (worker k value : ℕ) (swaps adds binds : Bool) → (swaps ≡ true → worker ≡ 0) → Asks worker (asked swaps adds binds k value)
asks_by_turn worker k value true adds binds first = Swaps (layout_number (layout_at k)) (first refl) refl
asks_by_turn worker k value false true binds first = Adds value refl
asks_by_turn worker k value false false true first = Binds (value % 100) k (omega arith) refl
asks_by_turn worker k value false false false first = Writes (value % PAGES) (codes "v" ++ decimal k) (omega arith) refl

of_fours : (k rest : ℕ) → rest % 4 ≡ 0 → eqb (k % 1000) rest ≡ true → k % 4 ≡ 0
of_fours k rest whole is = omega (arith, eqb-true (k % 1000) rest is, whole)

swap_is_first : (k : ℕ) → is_swap k ≡ true → k % 4 ≡ 0
swap_is_first k is =
    ⊎_elim (λ front. ⊎_elim (of_fours k 0 refl) (of_fours k 252 refl) (or_cases (k % 1000 == 0) (k % 1000 == 252) front)) (of_fours k 500 refl)
    (or_cases (k % 1000 == 0 || k % 1000 == 252) (k % 1000 == 500) is)

asks_at : (n worker : ℕ) (act : Act Op) → IsStepOf n worker act → Asks worker act
asks_at n worker act is =
    let k = is.step in
    subst₂ Asks is.own (sym is.same) (asks_by_turn (k % 4) k (value_at n k) (is_swap k) (k / 4 % 3 == 0) (k / 4 % 3 == 1) (swap_is_first k))

each_then : {X : Type 0} (P Q : X → Type 0) → ((x : X) → P x → Q x) → (xs : List X) → AllByRecursion P xs → AllByRecursion Q xs
each_then P Q more [] all = tt
each_then P Q more (x ∷ xs) all = (more x all.0, each_then P Q more xs all.1)

-- what holds of all elements holds of those before a place, of the one there, and of all the others
front : {X : Type 0} (P : X → Type 0) (xs ys : List X) → AllByRecursion P (xs ++ ys) → AllByRecursion P xs
front P [] ys all = tt
front P (x ∷ xs) ys all = (all.0, front P xs ys all.1)

there : {X : Type 0} (P : X → Type 0) (xs : List X) (x : X) (ys : List X) → AllByRecursion P (xs ++ x ∷ ys) → P x
there P [] x ys all = all.0
there P (y ∷ xs) x ys all = there P xs x ys all.1

others : {X : Type 0} (P : X → Type 0) (xs : List X) (x : X) (ys : List X) → AllByRecursion P (xs ++ x ∷ ys) → AllByRecursion P (xs ++ ys)
others P [] x ys all = all.1
others P (y ∷ xs) x ys all = (all.0, others P xs x ys all.1)

-- what holds at each split holds of all elements
from_splits : {X : Type 0} (P : X → Type 0) (xs : List X) → ((before : List X) (x : X) (after : List X) → xs ≡ before ++ x ∷ after → P x) → AllByRecursion P xs
from_splits P [] each = tt
from_splits P (x ∷ xs) each = (each [] x xs refl, from_splits P xs (λ before y after split. each (x ∷ before) y after (ap (λ (rest : List _). x ∷ rest) split)))

-- where nobody asks for its end, an object stays alive
alive_after : (state : AnyState) (op : Op) → is_dead state ≡ false → is_dead (state_after state op) ≡ false
alive_after (states.Counter value) op alive = refl
alive_after (states.Directory names) op alive = refl
alive_after (states.Pages pages) op alive = refl
alive_after states.Dead op alive = alive

alive_moved : (kind : KindName) (state : WatchState AnyState) (worker : ℕ) (act : Act Op) (answer : Answer Reply) → Asks worker act → is_dead state.inner ≡ false → is_dead (state_after_act kind state act answer).inner ≡ false
alive_moved kind state worker act answer (Adds amount is) alive = rw is (alive_after state.inner (Add amount) alive)
alive_moved kind state worker act answer (Binds name number less is) alive = rw is (alive_after state.inner (Bind (name_of name) number) alive)
alive_moved kind state worker act answer (Writes page text less is) alive = rw is (alive_after state.inner (Write page text) alive)
alive_moved kind state worker act answer (Swaps number first is) alive = rw is (cond_both (is_carried_out answer) ((watched_object kind).swapped state (Layout number)) state (λ moved. is_dead moved.inner ≡ false) (λ done. alive) (λ other. alive))

alive_in : (kind : KindName) (object : ℕ) (state : WatchState AnyState) (entries : List (Entry Op Reply)) → AllByRecursion (λ (entry : Entry Op Reply). Asks entry.caller entry.act) entries → is_dead state.inner ≡ false → is_dead (fold (moved_by kind object) state entries).inner ≡ false
alive_in kind object state [] asks alive = alive
alive_in kind object state (entry ∷ entries) asks alive =
    alive_in kind object (moved_by kind object state entry) entries asks.1
    (cond_both (entry.object == object) (state_after_act kind state entry.act entry.answer) state (λ moved. is_dead moved.inner ≡ false) (λ own. alive_moved kind state entry.caller entry.act entry.answer asks.0 alive) (λ other. alive))

starts_alive : (kind : KindName) → is_dead (empty_state kind) ≡ false
starts_alive Counter = refl
starts_alive Directory = refl
starts_alive Pages = refl

-- of two callers' swaps one is worker 0's, and a call is no rival
abbrev NoRival : Entry Op Reply → Type 0
NoRival entry = (entry.caller ≡ 0) ⊎ ((number : ℕ) → Settles number entry.answer → ⊥)

no_rival_by : (kind : KindName) (before : List (Entry Op Reply)) (entry : Entry Op Reply) (after : List (Entry Op Reply)) → IsLegalAct kind before entry after entry.act → Asks entry.caller entry.act → NoRival entry
no_rival_by kind before entry after legal (Adds amount is) = let call = rw is at legal in inr (λ number settles. subst (Settles number) call.replied settles)
no_rival_by kind before entry after legal (Binds name bound less is) = let call = rw is at legal in inr (λ number settles. subst (Settles number) call.replied settles)
no_rival_by kind before entry after legal (Writes page text less is) = let call = rw is at legal in inr (λ number settles. subst (Settles number) call.replied settles)
no_rival_by kind before entry after legal (Swaps number first is) = inl first

-- the answer to a swap, where its object is alive and has incarnations left, and no other's swap is in its way
carried_out : (kind : KindName) (before : List (Entry Op Reply)) (entry : Entry Op Reply) (after : List (Entry Op Reply)) (answer : Answer Reply)
    → IsLegalAnswer kind before entry after answer → IsNotGivenUp answer
    → IsAlive kind entry.object before → number_of entry.object before < LAST_INCARNATION
    → ((number : ℕ) → Any (IsRival entry number) (before ++ after) → ⊥)
    → is_carried_out answer ≡ true
carried_out kind before entry after (Swapped number) legal kept alive few rivals = refl
carried_out kind before entry after Spent legal kept alive few rivals = absurd (omega (arith, legal.spent, few))
carried_out kind before entry after Gone legal kept alive few rivals = sym alive ∙ legal.dead
carried_out kind before entry after (Busy number) legal kept alive few rivals = absurd (rivals number legal.rival)
carried_out kind before entry after (Abandoned number) legal kept alive few rivals = absurd kept
carried_out kind before entry after (Replied reply) legal kept alive few rivals = absurd legal

-- whether the entry tells of a swap that was carried out
abbrev pub is_done : Entry Op Reply → Bool
is_done entry = cond (is_call entry.act) false (is_carried_out entry.answer)

module _ (n : ℕ) (small : n ≤ 10000) (history : List (Entry Op Reply)) (lawful : IsLawful (generated n) history) where
  pub asks : AllByRecursion (λ (entry : Entry Op Reply). Asks entry.caller entry.act) history
  asks = each_then (λ (entry : Entry Op Reply). IsStepOf n entry.caller entry.act) (λ (entry : Entry Op Reply). Asks entry.caller entry.act) (λ entry is. asks_at n entry.caller entry.act is) history (each_is_step n history lawful)

  asks_in : (before : List (Entry Op Reply)) (entry : Entry Op Reply) (after : List (Entry Op Reply)) → history ≡ before ++ entry ∷ after → AllByRecursion (λ (other : Entry Op Reply). Asks other.caller other.act) (before ++ entry ∷ after)
  asks_in before entry after split = subst (AllByRecursion (λ (other : Entry Op Reply). Asks other.caller other.act)) split asks

  no_rivals : AllByRecursion NoRival history
  no_rivals = from_splits NoRival history (λ before entry after split.
      no_rival_by (lawful.legal.legal before entry after split).kind before entry after (lawful.legal.legal before entry after split).legal
      (there (λ (other : Entry Op Reply). Asks other.caller other.act) before entry after (asks_in before entry after split)))

  few_before : (object : ℕ) (before : List (Entry Op Reply)) (entry : Entry Op Reply) (after : List (Entry Op Reply)) → history ≡ before ++ entry ∷ after → number_of object before < LAST_INCARNATION
  few_before object before entry after split =
      omega (arith, small, length_is n history lawful, ap length split, length-append before (entry ∷ after), count_by-le-length (is_carried_out_on object) before)

  rivals : (number : ℕ) (before : List (Entry Op Reply)) (entry : Entry Op Reply) (after : List (Entry Op Reply)) → entry.caller ≡ 0 → history ≡ before ++ entry ∷ after → Any (IsRival entry number) (before ++ after) → ⊥
  rivals number before entry after first split =
      none-Any (IsRival entry number) (before ++ after)
      (each_then NoRival (λ other. IsRival entry number other → ⊥)
      (λ other no rival. ⊎_elim (λ also. rival.caller (also ∙ sym first)) (λ none. none number rival.settles) no)
      (before ++ after) (others NoRival before entry after (subst (AllByRecursion NoRival) split no_rivals)))

  done_by : (before : List (Entry Op Reply)) (entry : Entry Op Reply) (after : List (Entry Op Reply)) → history ≡ before ++ entry ∷ after → (kind : KindName) → IsLegalAct kind before entry after entry.act → Asks entry.caller entry.act → is_done entry ≡ not (is_call entry.act)
  done_by before entry after split kind legal (Adds amount is) = rw is refl
  done_by before entry after split kind legal (Binds name number less is) = rw is refl
  done_by before entry after split kind legal (Writes page text less is) = rw is refl
  done_by before entry after split kind legal (Swaps number first is) =
      rw is (carried_out kind before entry after entry.answer (subst (IsLegalAct kind before entry after) is legal)
      (All-at_split (λ (other : Entry Op Reply). IsNotGivenUp other.answer) history lawful.none_given_up before entry after split)
      (alive_in kind entry.object (watched_object kind).start before (front (λ (other : Entry Op Reply). Asks other.caller other.act) before (entry ∷ after) (asks_in before entry after split)) (starts_alive kind))
      (few_before entry.object before entry after split)
      (λ number. rivals number before entry after first split))

  -- each entry that is no call is a swap that was carried out
  pub each_is_done : AllByRecursion (λ (entry : Entry Op Reply). is_done entry ≡ not (is_call entry.act)) history
  each_is_done = from_splits (λ (entry : Entry Op Reply). is_done entry ≡ not (is_call entry.act)) history (λ before entry after split.
      done_by before entry after split (lawful.legal.legal before entry after split).kind (lawful.legal.legal before entry after split).legal
      (there (λ (other : Entry Op Reply). Asks other.caller other.act) before entry after (asks_in before entry after split)))
