-- The one history of a system that is closed.
use Rattle.std.proofs.Common.{inl, inr, ◌≡◌, ℕ, zero, suc, Bool, ◌<◌, ◌≤◌, true, List, [], ◌∷◌, ◌++◌, Some, length, map, take, drop, slice_index_or, refl, sym, ap, ◌∙◌, subst, arith}
use Rattle.std.specs.List.{slice_get, AllByRecursion, All}
use Rattle.std.proofs.Math.Seq.{take-append_seam}
use Rattle.std.proofs.lemmas.List.Elements.{All-from_recursion}
use Rattle.std.proofs.lemmas.List.{length-map}
use Rattle.std.proofs.lemmas.Option.{same_Some, slice_get_within, slice_get-get_or}
use Rattle.k42_limits.specs.declared.TheConstants.{CALLERS}
use Rattle.k42_kinds.specs.declared.entry.Entry.{Entry}
use Rattle.k42_places.specs.Places.{EachPlace}
use Rattle.k42_stamp.specs.Lists.{IsListOf, AreLists, IsMerged, numbered_from}
use Rattle.k42_stamp.specs.Layouts.{Layouts}
use Rattle.k42_stamp.specs.Orders.{In, Ordered}
use Rattle.k42_stamp.proofs.Elements.{all_at}
use Rattle.k42_rule.specs.Finishing.{AreAtRest, AreLastLists, IsResting, with_none, with_none_kept}
use Rattle.k42_kinds.specs.Histories.{IsInOrder}
use Rattle.k42_kinds.specs.Legal.{IsLegalHistoryOf}
use Rattle.k42_joined.specs.Fitting.{lists_of}
use Rattle.k42_joined.specs.Plain.{Joined}
use Rattle.k42_joined.specs.Rest.{IsAtRest, IsHistoryOf}
use Rattle.k42_joined.specs.Sound.{IsSound}
use Rattle.k42_joined.specs.State.{many_callers, swap_of}
use Rattle.phase_core.specs.Stages.{is_idle, named_by}
use Rattle.phase_core.specs.declared.caller.SwapAt.{SwapAt}
use Rattle.phase_core.specs.declared.caller.SwapAt.TheVariants.{Idle, Refused, Begun, Interposing, Interposed, Draining, Drained, Blocking, Moved, Opening, Reopening, Opened}
use Rattle.turn_core.specs.Plain.{Caller}
use Rattle.turn_core.specs.Sound.{IsRising}
use Rattle.turn_core.specs.State.{fresh_caller}
use Rattle.k42_board.specs.Seen.{PassSeen}
use Rattle.k42_runtime.specs.Histories.{IsClosed, HasHistory, MayEnd}
use Rattle.k42_runtime.specs.Systems.{SystemSeen, IsPlanned}
use Rattle.k42_runtime.proofs.Traces.{all_placed, homes_in}

-- the list of a caller is what it drew
mine_at : {O R : Type 0} (callers : List (Caller O R)) (c : ℕ) (list : List (Entry O R)) → slice_get (map (λ (x : Caller O R). x.mine) callers) c ≡ Some list
    → (slice_index_or callers c fresh_caller).mine ≡ list
mine_at [] c list at = absurd (cc)
mine_at (x ∷ callers) zero list at = same_Some x.mine list at
mine_at (x ∷ callers) (suc c) list at = mine_at callers c list at

-- so its stamps rise, and its entries are its own
pub each_all : {O R : Type 0} (P : Entry O R → Type 0) (entries : List (Entry O R)) → EachPlace (λ i entry. P entry) entries → AllByRecursion P entries
each_all P [] each = tt
each_all P (entry ∷ entries) each = (each 0 entry refl, each_all P entries (λ i. each (suc i)))

ordered : {O R : Type 0} (entries : List (Entry O R)) → IsRising entries → Ordered (λ (one other : Entry O R). one.stamp < other.stamp) entries
ordered [] rising = tt
ordered {O = O} {R = R} (entry ∷ entries) rising = (
  each_all (λ (other : Entry O R). entry.stamp < other.stamp) entries (λ i other at. rising 0 (suc i) entry other (omega arith) refl at),
  ordered entries (λ i j one other less here there. rising (suc i) (suc j) one other (omega (arith, less)) here there),
)

pub lists_are : {S L P O R : Type 0} (F : Layouts S L P O R) (declared : List L) (callers : ℕ) (lists : List (List (Entry O R))) → AreLastLists F declared callers lists
    → AreLists lists
lists_are {O = O} {R = R} F declared callers lists last c list at =
    let drawn = ap (λ (ls : List (List (Entry O R))). slice_get ls c) (sym last.drawn) ∙ at in
    let there : c < length last.state.turns.callers =
    subst (λ n. c < n) (length-map last.state.turns.callers (λ (x : Caller O R). x.mine)) (slice_get_within (lists_of last.state) c list drawn) in
    let x = slice_index_or last.state.turns.callers c fresh_caller in
    let is = last.sound.cells.turns.callers c x (slice_get-get_or last.state.turns.callers c fresh_caller there) in
    subst (IsListOf c) (mine_at last.state.turns.callers c list drawn)
    (record {
      rising = ordered x.mine is.rising;
      own = each_all (λ (entry : Entry O R). entry.caller ≡ c) x.mine (λ i entry here. (is.own i entry here).caller);
    })

-- no other caller has an entry
below : {O R : Type 0} (limit n : ℕ) (entries : List (Entry O R)) → ((entry : Entry O R) → In entry entries → entry.caller < limit) → AllByRecursion (λ (entry : Entry O R). entry.caller < limit) (numbered_from n entries)
below limit n [] each = tt
below limit n (entry ∷ entries) each = (each entry (inl refl), below limit (suc n) entries (λ other is. each other (inr is)))

pub no_stranger : {O R : Type 0} (lists : List (List (Entry O R))) (merged : List (Entry O R)) → AreLists lists → IsMerged lists merged → All (λ (entry : Entry O R). entry.caller < length lists) merged
no_stranger {O = O} {R = R} lists merged are is =
    subst (All (λ (entry : Entry O R). entry.caller < length lists)) (sym is.numbered)
    (All-from_recursion (λ (entry : Entry O R). entry.caller < length lists) (numbered_from 1 is.trace) (below (length lists) 1 is.trace each)) where
      each : (entry : Entry O R) → In entry is.trace → entry.caller < length lists
      each entry has =
          let some = is.just.only entry has in
          let own = all_at (λ (e : Entry O R). e.caller ≡ some.place) some.list entry (are some.place some.list some.there).own some.has in
          let lt = slice_get_within lists some.place some.list some.there in omega (arith, own, lt)

-- a state in which everybody rests is at rest
unnamed : (swap : SwapAt) (o : ℕ) → is_idle swap ≡ true → named_by swap ≡ Some o → ⊥
unnamed Idle o idle named = absurd (cc)
unnamed (Refused p) o idle named = absurd (cc)
unnamed (Begun p) o idle named = absurd (cc)
unnamed (Interposing p q) o idle named = absurd (cc)
unnamed (Interposed p) o idle named = absurd (cc)
unnamed (Draining p) o idle named = absurd (cc)
unnamed (Drained p) o idle named = absurd (cc)
unnamed (Blocking p) o idle named = absurd (cc)
unnamed (Moved p) o idle named = absurd (cc)
unnamed (Opening p q) o idle named = absurd (cc)
unnamed (Reopening p q) o idle named = absurd (cc)
unnamed (Opened p) o idle named = absurd (cc)

rests : {L O R : Type 0} (s : Joined L O R) (callers : ℕ) → many_callers s ≡ callers → ((c : ℕ) → c < callers → IsResting s c) → IsAtRest s
rests s callers many each c o lt named = absurd (unnamed (swap_of s c) o (each c (subst (λ n. c < n) many lt)).swap named)

-- what closing needs of the law
abbrev pub TraceLaw : {S L P O R : Type 0} → ((ℕ → ℕ) → Layouts S L P O R) → ℕ → Type 0
TraceLaw {S} {L} {P} {O} {R} F procs =
    (proc_of : ℕ → ℕ) → ((caller : ℕ) → proc_of caller < procs)
    → (declared : List L) (s : Joined L O R) (merged : List (Entry O R))
    → IsSound (F proc_of) declared s → IsAtRest s → IsMerged (lists_of s) merged → IsHistoryOf (F proc_of) declared s merged

-- the table asks it of its own callers, which are the plan's
pub at_rest : {L P O R : Type 0} (is_live : L → Bool) (system : SystemSeen L) (passes : List (PassSeen P O R)) → IsPlanned is_live system → MayEnd system passes → AreAtRest system.sys passes
at_rest is_live system passes planned may = record { many = may.many ∙ ap length (sym planned.callers); each = may.each }

-- so there are not too many
pub few_passes : {L P O R : Type 0} (is_live : L → Bool) (system : SystemSeen L) (passes : List (PassSeen P O R)) → IsPlanned is_live system → MayEnd system passes → length passes ≤ CALLERS
few_passes is_live system passes planned may = let few = planned.sound.turns.limits.few_callers in let many = may.many in omega (arith, few, many)

-- and so it asks of its passes that have given their lists away, as a slice of them leaves them in their vector
pub come_back : {P O R : Type 0} (passes given : List (PassSeen P O R)) (len : ℕ) → given ≡ with_none_kept passes → len ≡ length passes
    → take len (given ++ drop (length given) passes) ≡ with_none_kept passes
come_back passes given len is all =
    let many : len ≡ length given = all ∙ sym (ap length is ∙ length-map passes with_none) in
    subst (λ n. take n (given ++ drop (length given) passes) ≡ given) (sym many) (take-append_seam given (drop (length given) passes)) ∙ is

pub closed : {S L P O R : Type 0} (F : (ℕ → ℕ) → Layouts S L P O R) (is_live : L → Bool) (system : SystemSeen L) → IsPlanned is_live system → TraceLaw F system.sys.procs → (lists : List (List (Entry O R))) (merged : List (Entry O R))
    → AreLastLists (F (homes_in system)) system.sys.layouts (length system.sys.callers) lists → IsMerged lists merged
    → IsClosed (F (homes_in system)).object_of system.plan lists (record { entries = merged; plan = system.plan })
closed {S} {L} {P} {O} {R} F is_live system planned law lists merged last is = record {
  plan_is = refl;
  merged = is;
  legal = subst (λ declared. IsLegalHistoryOf (F (homes_in system)).object_of declared merged) planned.layouts history.legal;
  in_order = λ c list at. in_order c list at;
  no_stranger =
      subst (λ n. All (λ (entry : Entry O R). entry.caller < n) merged)
      (many ∙ ap length planned.callers)
      (no_stranger lists merged (lists_are (F (homes_in system)) system.sys.layouts (length system.sys.callers) lists last) is);
} where
  s : Joined L O R
  s = last.state

  history : IsHistoryOf (F (homes_in system)) system.sys.layouts s merged
  history =
      law (homes_in system) (all_placed is_live system planned) system.sys.layouts s merged last.sound
      (rests s (length system.sys.callers) last.many last.resting) (subst (λ ls. IsMerged ls merged) last.drawn is)

  many : length lists ≡ length system.sys.callers
  many = ap length last.drawn ∙ length-map s.turns.callers (λ (x : Caller O R). x.mine) ∙ last.sound.cells.locks.many.callers ∙ last.many

  in_order : (c : ℕ) (list : List (Entry O R)) → slice_get lists c ≡ Some list → IsInOrder merged c list
  in_order c list at =
      let lt = slice_get_within lists c list at in
      let there : c < many_callers s = subst (λ n. c < n) (many ∙ sym last.many) lt in
      subst (IsInOrder merged c) (mine_at s.turns.callers c list (ap (λ ls. slice_get ls c) (sym last.drawn) ∙ at)) (history.in_order c there)

-- and a history there is, whether anybody has merged the lists or not
abbrev pub MergeLaw : Type 0 → Type 0 → Type 0
MergeLaw O R = (lists : List (List (Entry O R))) → AreLists lists → (merged : List (Entry O R)) × IsMerged lists merged

pub has_history : {S L P O R : Type 0} (F : (ℕ → ℕ) → Layouts S L P O R) (is_live : L → Bool) (system : SystemSeen L) → IsPlanned is_live system → TraceLaw F system.sys.procs → MergeLaw O R → (lists : List (List (Entry O R)))
    → AreLastLists (F (homes_in system)) system.sys.layouts (length system.sys.callers) lists → HasHistory (F (homes_in system)).object_of system.plan lists
has_history F is_live system planned law merges lists last =
    let merge = merges lists (lists_are (F (homes_in system)) system.sys.layouts (length system.sys.callers) lists last) in
    (record { entries = merge.0; plan = system.plan }, closed F is_live system planned law lists merge.0 last merge.1)
