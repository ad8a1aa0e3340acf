-- A swap that has ended, between the collecting of rows and their handing over.
use Rattle.std.proofs.Common.{◌≡◌, ⊎_elim, inl, inr, ◌↔◌, ℕ, ◌+◌, ◌≤◌, ◌<◌, List, ◌++◌, Result, Ok, Err, length, sym, ap, ◌∙◌, subst}
use Rattle.phase_core.specs.Stages.{is_out}
use Rattle.k42_board.proofs.Gained.{follows_as, follows_same}
use Rattle.k42_board.specs.Log.{Follows}
use Rattle.k42_board.specs.Seen.{PassSeen}
use Rattle.k42_board.specs.Views.{word_begun}
use Rattle.k42_board.specs.declared.view.PassView.{PassView}
use Rattle.k42_board.specs.declared.view.Row.{Row}
use Rattle.k42_quiesce.specs.Collecting.{HasCollected, HasHandedOver}
use Rattle.k42_runtime.specs.Swaps.{IsSameCaller, IsEndBy, IsWornOut, HasSwapped, HasNotBegun, HasAbandoned, HasEnded, EndsWithoutMemory}
use Rattle.k42_runtime.specs.Systems.{SystemSeen, IsPassHere, IsAtRest, live_in}
use Rattle.k42_runtime.specs.declared.swaps.NoSwap.{NoSwap}
use Rattle.k42_runtime.specs.declared.swaps.Swapped.{Swapped}
use Rattle.k42_kinds.specs.declared.entry.To.{To}
use Rattle.k42_runtime.proofs.SwapSteps.{same_caller, swapped_before, abandoned_before}
use Rattle.k42_runtime.proofs.SwapWaits.{not_begun}

-- it has other rows, and nothing else is changed
pub record HasRows {P O R : Type 0} (old new : PassSeen P O R) : Type 0 where
  pub seat : new.seat ≡ old.seat
  pub keep : new.keep ≡ old.keep
  pub rows : List Row
  pub granted : ℕ
  pub knows : new.view ≡ record old.view { rows = rows; granted = granted }

pub has_collected : {P O R : Type 0} (rows : List Row) (old new : PassSeen P O R) → HasCollected rows old new → HasRows old new
has_collected rows old new is = record { seat = is.seat; keep = is.keep; rows = old.view.rows ++ rows; granted = old.view.granted; knows = is.knows }

pub has_handed : {P O R : Type 0} (old new : PassSeen P O R) → HasHandedOver old new → HasRows old new
has_handed old new is = record { seat = is.seat; keep = is.keep; rows = _; granted = _; knows = is.knows }

pub handed_here : {L P O R : Type 0} (system : SystemSeen L) (mid new : PassSeen P O R) → HasHandedOver mid new → IsPassHere system mid → IsPassHere system new
handed_here {P = P} {O = O} {R = R} system mid new handed here = record {
  ours = record {
    table = handed.table ∙ here.ours.table;
    proc = subst (λ (v : PassView P O R). v.turn.proc < system.sys.procs) (sym handed.knows) here.ours.proc;
    waits = ap (λ (v : PassView P O R). length v.turn.waits) handed.knows ∙ here.ours.waits;
    objects = ap (λ (v : PassView P O R). length v.visitor.noted) handed.knows ∙ here.ours.objects;
    shapes = ap (λ (v : PassView P O R). v.shapes) handed.knows ∙ here.ours.shapes;
    spans = ap (λ (v : PassView P O R). length v.visitor.freeing) handed.knows ∙ here.ours.spans;
    queue = handed.queue ∙ here.ours.queue;
    keep = (λ i. (handed.keep i).what) ∙ here.ours.keep;
  };
  out = ap (λ (v : PassView P O R). is_out v.visitor.place) handed.knows ∙ here.out;
  held = ap (λ (v : PassView P O R). v.taker.held) handed.knows ∙ here.held;
  notes = ap (λ (v : PassView P O R). v.notes) handed.knows ∙ here.notes;
}

-- the pass before it collects, after it, before it hands over, and after that
module _ {P O R : Type 0} (p0 p1 p2 p3 : PassSeen P O R) (first : HasRows p0 p1) (last : HasRows p2 p3) where
  collected_caller : IsSameCaller p0.view p1.view
  collected_caller = record {
    number = ap (λ (v : PassView P O R). v.number) first.knows;
    proc = ap (λ (v : PassView P O R). v.turn.proc) first.knows;
  }

  collected_drawn : p1.view.taker.mine ≡ p0.view.taker.mine
  collected_drawn = ap (λ (v : PassView P O R). v.taker.mine) first.knows

  pub still_caller : IsSameCaller p1.view p2.view → IsSameCaller p0.view p3.view
  still_caller same = same_caller p0.view p1.view p3.view collected_caller (record {
    number = ap (λ (v : PassView P O R). v.number) last.knows ∙ same.number;
    proc = ap (λ (v : PassView P O R). v.turn.proc) last.knows ∙ same.proc;
  })

  pub still_rests : IsAtRest p2.view → IsAtRest p3.view
  still_rests is = subst IsAtRest (sym last.knows) is

  pub still_few : p2.view.graces ≤ p1.view.graces + 1 → p3.view.graces ≤ p0.view.graces + 1
  still_few le = subst (λ (x : PassView P O R × PassView P O R). x.0.graces ≤ x.1.graces + 1) (λ j. (sym last.knows j, first.knows j)) le

  pub still_told : (live : ℕ) (end : Swapped) → IsEndBy live (word_begun p2.view.last) end → IsEndBy live (word_begun p3.view.last) end
  still_told live end is = subst (λ (v : PassView P O R). IsEndBy live (word_begun v.last) end) (sym last.knows) is

  pub still_swapped : (object : ℕ) (to : To) (end : Swapped) → HasSwapped object to end p1.view p2.view → HasSwapped object to end p0.view p3.view
  still_swapped object to end swapped =
      let is = swapped_before p0.view p1.view p2.view collected_caller collected_drawn object to end swapped in
      subst (HasSwapped object to end p0.view) (sym last.knows) (record { begun = is.begun; entry = is.entry; next = is.next; drawn = is.drawn })

  collected_log : Follows p0.view.log p1.view.log
  collected_log = follows_as (ap (λ (v : PassView P O R). v.log) first.knows) (follows_same p0.view.log)

  pub still_worn : {A : Type 0} → A ↔ IsWornOut p1.view → A ↔ IsWornOut p0.view
  still_worn {A} is = subst (λ (v : PassView P O R). A ↔ IsWornOut v) first.knows is

  pub still_unbegun : HasNotBegun p1.view p2.view → HasNotBegun p0.view p3.view
  still_unbegun is =
      not_begun p0.view p3.view last.rows last.granted
      (last.knows ∙ ap (λ (v : PassView P O R). record v { rows = last.rows; granted = last.granted }) is
      ∙ ap (λ (v : PassView P O R). record v { rows = last.rows; granted = last.granted }) first.knows)

  pub still_without : (live object : ℕ) (to : To) → EndsWithoutMemory live object to p1.view p2.view → EndsWithoutMemory live object to p0.view p3.view
  still_without live object to =
      ⊎_elim
      (λ (is : HasNotBegun p1.view p2.view). inl (still_unbegun is))
      (λ (gave : HasAbandoned live object to p1.view p2.view). inr
      (let is = abandoned_before p0.view p1.view p2.view collected_caller collected_drawn live object to collected_log gave in
      subst (HasAbandoned live object to p0.view) (sym last.knows)
      (record { begun = is.begun; free = is.free; entry = is.entry; next = is.next; drawn = is.drawn; log = is.log; since = is.since; found = is.found; cleared = is.cleared; restored = is.restored })))

pub ended_still : {L P O R : Type 0} (system : SystemSeen L) (object : ℕ) (to : To) (result : Result Swapped NoSwap) (p0 p1 p2 p3 : PassSeen P O R) → HasRows p0 p1
    → HasRows p2 p3 → IsPassHere system p3 → HasEnded system object to result p1 p2 → HasEnded system object to result p0 p3
ended_still system object to (Ok end) p0 p1 p2 p3 first last here is = record {
  here = here;
  rests = still_rests p0 p1 p2 p3 first last is.rests;
  seat = last.seat ∙ is.seat ∙ first.seat;
  keep = last.keep ∙ is.keep ∙ first.keep;
  caller = still_caller p0 p1 p2 p3 first last is.caller;
  graces = still_few p0 p1 p2 p3 first last is.graces;
  told = still_told p0 p1 p2 p3 first last (live_in system.sys.shapes object) end is.told;
  ended = still_swapped p0 p1 p2 p3 first last object to end is.ended;
  memory = λ e. absurd (cc);
  worn = still_worn p0 p1 p2 p3 first last is.worn;
  kept = λ e. absurd (cc);
}
ended_still system object to (Err error) p0 p1 p2 p3 first last here is = record {
  here = here;
  rests = still_rests p0 p1 p2 p3 first last is.rests;
  seat = last.seat ∙ is.seat ∙ first.seat;
  keep = last.keep ∙ is.keep ∙ first.keep;
  caller = still_caller p0 p1 p2 p3 first last is.caller;
  graces = still_few p0 p1 p2 p3 first last is.graces;
  told = tt;
  ended = tt;
  memory = λ e. still_without p0 p1 p2 p3 first last (live_in system.sys.shapes object) object to (is.memory e);
  worn = still_worn p0 p1 p2 p3 first last is.worn;
  kept = λ e. still_unbegun p0 p1 p2 p3 first last (is.kept e);
}
