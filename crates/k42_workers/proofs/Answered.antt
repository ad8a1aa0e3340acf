-- The pass of a worker, item by item.
use Rattle.std.proofs.Common.{◌≡◌, ℕ, zero, suc, ◌+◌, ◌≤◌, Bool, true, false, ◌&&◌, List, [], ◌∷◌, Option, Some, None, length, map, take, drop, is_none, refl, sym, ap, ◌∙◌, subst, arith}
use Rattle.std.specs.Prelude.{slice_get}
use Rattle.std.specs.List.{AllByRecursion}
use Rattle.std.proofs.lemmas.List.{length-append, length-map, length-drop, length-take-le}
use Rattle.std.proofs.lemmas.List.Elements.{recursion_from_All, All-take, All-drop}
use Rattle.std.proofs.lemmas.Option.{same_Some}
use Rattle.k42_places.proofs.Rests.{drop_at}
use Rattle.gen_core.specs.Events as graces
use Rattle.phase_core.specs.Stages as swaps
use Rattle.k42_kinds.specs.declared.operation.Op.{Op}
use Rattle.k42_kinds.specs.declared.operation.Reply.{Reply}
use Rattle.k42_kinds.specs.declared.entry.Act.{Act}
use Rattle.k42_kinds.specs.declared.entry.Act.TheVariants.{Call, Swap}
use Rattle.script_text.specs.Lawful.{call_lines, deed_of, deeds_from}
use Rattle.script_text.specs.Sound.{IsCall}
use Rattle.script_text.specs.declared.script.CallLine.{CallLine}
use Rattle.script_text.specs.declared.script.Item.{Item}
use Rattle.script_text.specs.declared.script.Item.TheVariants.{Begin, End, Line}
use Rattle.script_text.specs.declared.script.WorkerLines.{WorkerLines}
use Rattle.k42_board.specs.declared.view.PassView.{PassView}
use Rattle.co_system.specs.Systems.{SystemPart, SystemPass, SystemSeen}
use Rattle.k42_runtime.specs.Systems.{IsPassHere, IsAtRest}
use Rattle.k42_workers.specs.Lines.{Standing, Follows}
use Rattle.k42_workers.specs.Passes.{MayAskLine, IsReady, standing_of, IsBetween, RestsFor, MayFollow, GoesOnBy, IsFresh, HasWorked, MayWork}
use Rattle.k42_workers.proofs.Halved.{pair_front, pair_back}
use Rattle.k42_workers.specs.UnderWay.{IsUnderWay, IsAt}
use Rattle.k42_workers.proofs.Working.{under_way_at_start, under_way_on, done_at_end, idle_at_end}

all_three : (a b c : Bool) → (a && b && c) ≡ true → (a ≡ true) × (b ≡ true) × (c ≡ true)
all_three true true true e = (refl, refl, refl)
all_three true true false e = cc
all_three true false c e = cc
all_three false b c e = cc

none_there : (o : Option ℕ) → is_none o ≡ true → o ≡ None
none_there None e = refl
none_there (Some a) e = cc

-- what a pass that has nothing under way is like
pub at_rest : (v : PassView SystemPart Op Reply) → IsAtRest v → IsBetween v × (v.turn.active ≡ None)
at_rest v rests =
    let parts = all_three (is_none v.turn.active) (graces.is_idle v.turn.grace) (swaps.is_idle v.visitor.swap) rests in
    (record { grace = parts.1; swap = parts.2 }, none_there v.turn.active parts.0)

pub rests_with : (v : PassView SystemPart Op Reply) → IsBetween v → v.turn.active ≡ None → IsAtRest v
rests_with v between idle = rw (idle, between.grace, between.swap) refl

length-deeds_from : (n : ℕ) (lines : List CallLine) → length (deeds_from n lines) ≡ length lines
length-deeds_from n [] = refl
length-deeds_from n (line ∷ lines) = ap suc (length-deeds_from (n + 1) lines)

abbrev pub line_in : Item → CallLine → CallLine
line_in (Line line) other = line
line_in Begin other = other
line_in End other = other

-- what holds of each line holds of the one that stands among the items
pub line_at : (P : CallLine → Type 0) (items : List Item) (place : ℕ) (line : CallLine) → AllByRecursion P (call_lines items) → slice_get items place ≡ Some (Line line) → P line
line_at P [] place line each there = cc
line_at P (Begin ∷ items) zero line each there = cc
line_at P (Begin ∷ items) (suc place) line each there = line_at P items place line each there
line_at P (End ∷ items) zero line each there = cc
line_at P (End ∷ items) (suc place) line each there = line_at P items place line each there
line_at P (Line own ∷ items) zero line each there = subst P (ap (λ item. line_in item own) (same_Some (Line own) (Line line) there)) each.0
line_at P (Line own ∷ items) (suc place) line each there = line_at P items place line each.1 there

-- there is an entry for each line that is behind the worker
pub many_under_way : (worker : WorkerLines) (place : ℕ) (inside : Bool) (standing : Standing) → IsUnderWay worker place inside standing
    → length standing.entries + length (call_lines (drop place worker.items)) ≡ length (call_lines worker.items)
many_under_way worker place inside standing way =
    let rest = call_lines (drop place worker.items) in
    omega (
      arith,
      ap length way.deeds,
      length-append (map deed_of standing.entries) (deeds_from (length standing.entries) rest),
      length-map standing.entries deed_of,
      length-deeds_from (length standing.entries) rest,
      length-deeds_from 0 (call_lines worker.items),
    )

module _ (system : SystemSeen) (number : ℕ) (worker : WorkerLines) where
  pub at_start : (pass : SystemPass) → IsFresh system number worker pass → IsReady system.plan worker → IsAt system number worker 0 false pass
  at_start pass fresh ready =
      let idle = at_rest pass.view fresh.rests in
      record {
        here = fresh.here;
        between = idle.0;
        caller = fresh.caller;
        proc = fresh.proc;
        graces = omega (arith, fresh.graces);
        way = under_way_at_start worker ready.matches (standing_of pass.view) fresh.entries idle.1;
      }

  pub worked : (place : ℕ) (inside : Bool) (pass : SystemPass) → length worker.items ≤ place → IsAt system number worker place inside pass → HasWorked system number worker pass
  worked place inside pass past at = record {
    here = at.here;
    rests = rests_with pass.view at.between (idle_at_end worker place inside (standing_of pass.view) past at.way);
    caller = at.caller;
    done = done_at_end worker place inside (standing_of pass.view) past at.way;
  }

  module _ (place : ℕ) (inside : Bool) (pass : SystemPass) (at : IsAt system number worker place inside pass) where
    pub next_is : (item : Item) → slice_get worker.items place ≡ Some item → drop place worker.items ≡ item ∷ drop (suc place) worker.items
    next_is item found = let next : place + 1 ≡ suc place = omega arith in drop_at worker.items place item found ∙ ap (λ n. item ∷ drop n worker.items) next

    count : length pass.view.taker.mine + length (call_lines (drop place worker.items)) ≡ length (call_lines worker.items)
    count = many_under_way worker place inside (standing_of pass.view) at.way

    pub rests_for : (line : CallLine) (act : Act Op) → line.act ≡ act → drop place worker.items ≡ Line line ∷ drop (suc place) worker.items → RestsFor act pass.view
    rests_for line (Call op) is here = tt
    rests_for line (Swap to) is here = rests_with pass.view at.between (at.way.outside (outside inside refl (rw (here, is) at at.way.matches).0)).1
      where
        outside : (b : Bool) → inside ≡ b → (inside ≡ true → IsCall (Swap to)) → inside ≡ false
        outside true e call = absurd (call e)
        outside false e call = e

    pub may_follow : (item : Item) → slice_get worker.items place ≡ Some item → IsReady system.plan worker → MayFollow system.plan item pass.view
    may_follow Begin found ready = tt
    may_follow End found ready = tt
    may_follow (Line line) found ready =
        let here = next_is (Line line) found in
        let more : length (call_lines (drop place worker.items)) ≡ suc (length (call_lines (drop (suc place) worker.items))) = ap (λ items. length (call_lines items)) here in
        record {
          asked = line_at (MayAskLine system.plan) worker.items place line (recursion_from_All (MayAskLine system.plan) (call_lines worker.items) ready.asked) found;
          rests = rests_for line line.act refl here;
          few = record {
            entries = omega (arith, count, more, ready.few);
            graces = omega (arith, at.graces, more, ready.few);
          };
        }

    record IsCounted (item : Item) (new : SystemPass) : Type 0 where
      caller : new.view.number ≡ pass.view.number
      proc : new.view.turn.proc ≡ pass.view.turn.proc
      graces : new.view.graces + length (call_lines (drop (suc place) worker.items)) ≤ length (call_lines worker.items)

    counted : (item : Item) (new : SystemPass) → drop place worker.items ≡ item ∷ drop (suc place) worker.items → GoesOnBy item pass.view new.view → IsCounted item new
    counted Begin new here on = record { caller = on.number; proc = on.proc; graces = omega (arith, at.graces, on.graces, ap (λ items. length (call_lines items)) here) }
    counted End new here on = record { caller = on.number; proc = on.proc; graces = omega (arith, at.graces, on.graces, ap (λ items. length (call_lines items)) here) }
    counted (Line line) new here on = record { caller = on.number; proc = on.proc; graces = omega (arith, at.graces, on.graces, ap (λ items. length (call_lines items)) here) }

    pub at_next : (item : Item) (after : Bool) (new : SystemPass) → slice_get worker.items place ≡ Some item → IsPassHere system new → IsBetween new.view → GoesOnBy item pass.view new.view
        → Follows item pass.view.turn.proc inside after (standing_of pass.view) (standing_of new.view) → IsAt system number worker (suc place) after new
    at_next item after new found here between on follows =
        let counts = counted item new (next_is item found) on in
        record {
          here = here;
          between = between;
          caller = counts.caller ∙ at.caller;
          proc = counts.proc ∙ at.proc;
          graces = counts.graces;
          way = under_way_on worker place inside after item (standing_of pass.view) (standing_of new.view) found at.way
              (subst (λ proc. Follows item proc inside after (standing_of pass.view) (standing_of new.view)) at.proc follows);
        }

-- both halves may work
pub front_may : (system : SystemSeen) (first n : ℕ) (workers : List WorkerLines) (passes : List SystemPass) → n ≤ length workers → MayWork system first workers passes → MayWork system first (take n workers) (take n passes)
front_may system first n workers passes within may =
    let left = length-take-le n workers within in
    let front = length-take-le n passes (omega (arith, may.many, within)) in
    record {
      many = front ∙ sym left;
      few = omega (arith, may.few, left, within);
      ready = All-take (IsReady system.plan) n workers may.ready;
      fresh = pair_front (IsFresh system) first n workers passes may.fresh;
    }

pub back_may : (system : SystemSeen) (first n : ℕ) (workers : List WorkerLines) (passes : List SystemPass) → n ≤ length workers → MayWork system first workers passes → MayWork system (first + n) (drop n workers) (drop n passes)
back_may system first n workers passes within may =
    let right = length-drop n workers in
    let back = length-drop n passes in
    record {
      many = omega (arith, right, back, may.many);
      few = omega (arith, may.few, right, within);
      ready = All-drop (IsReady system.plan) n workers may.ready;
      fresh = pair_back (IsFresh system) first n workers passes may.fresh;
    }
