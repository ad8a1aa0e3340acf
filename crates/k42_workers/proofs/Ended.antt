-- Passes of a system that has started are fresh, and when all have worked they rest, and the closed history is that of a run.
use Rattle.std.proofs.Common.{◌≡◌, ℕ, ◌+◌, ◌<◌, false, List, [], ◌∷◌, ◌++◌, Some, length, take, drop, map, slice_index, refl, sym, ap, ◌∙◌, subst, arith}
use Rattle.std.specs.Prelude.{All, slice_get}
use Rattle.std.specs.Option.{option_map}
use Rattle.std.specs.List.{list_any}
use Rattle.std.proofs.lemmas.Bool.{eq-eqb}
use Rattle.std.proofs.lemmas.List.{length-map, append-nil, take_all}
use Rattle.std.proofs.lemmas.List.Elements.{All-nil}
use Rattle.std.proofs.lemmas.Option.{slice_get-map, slice_get_within, get_or_from_slice_get, none-some}
use Rattle.std.proofs.Math.ListN.{drop_of_length-le}
use Rattle.k42_kinds.specs.Histories.{entries_of, unstamped}
use Rattle.k42_kinds.specs.Legal.{IsLegalHistory}
use Rattle.k42_kinds.specs.declared.operation.Op.{Op}
use Rattle.k42_kinds.specs.declared.operation.Reply.{Reply}
use Rattle.k42_kinds.specs.declared.entry.Entry.{Entry}
use Rattle.k42_kinds.proofs.Splits.{no_split}
use Rattle.script_text.specs.Lawful.{call_lines}
use Rattle.script_text.specs.Sound.{IsSound}
use Rattle.script_text.specs.declared.script.Script.{Script}
use Rattle.script_text.specs.declared.script.WorkerLines.{WorkerLines}
use Rattle.k42_board.specs.Seen.{is_at_rest}
use Rattle.k42_board.specs.declared.keep.Keep.TheVariants as keeps
use Rattle.k42_board.specs.declared.view.PassView.{PassView}
use Rattle.k42_rule.specs.Finishing.{lists_in}
use Rattle.co_system.specs.Legal as plans
use Rattle.co_system.specs.Systems.{HistorySeen, IsClosed, HasStarted, PlanSeen, SystemPart, SystemPass, SystemSeen, kinds_of}
use Rattle.k42_runtime.specs.Histories.{MayClose}
use Rattle.k42_workers.specs.Passes.{IsReady, AreFresh, HasWorked, HaveWorked, MayWork}
use Rattle.k42_workers.specs.Plans.{plan_of, idle_plan, asks}
use Rattle.k42_workers.specs.Workers.{IsMadeBy, IsRunOf}
use Rattle.k42_workers.proofs.Filtered.{found_at}
use Rattle.k42_workers.proofs.Planned.{kinds_planned, all_ready, has_none, none_asking}

module _ (script : Script) (system : SystemSeen) where
  -- the passes of a started system are fresh
  pub fresh : (passes : List SystemPass) → HasStarted (plan_of script) system passes → AreFresh system 0 script.workers passes
  fresh passes started number worker pass found there =
      let first = started.each number pass there in
      let plain : number ≡ 0 + number = omega arith in
      let homes = map (λ (w : WorkerLines). w.proc) script.workers in
      let home : slice_index homes number ≡ worker.proc = get_or_from_slice_get homes number worker.proc _ (slice_get-map (λ (w : WorkerLines). w.proc) script.workers number ∙ ap (option_map (λ (w : WorkerLines). w.proc)) found) in
      record {
        here = first.here;
        rests = ap (λ (v : PassView SystemPart Op Reply). is_at_rest v) first.new;
        caller = ap (λ (v : PassView SystemPart Op Reply). v.number) first.new ∙ plain;
        proc = ap (λ (v : PassView SystemPart Op Reply). v.turn.proc) first.new ∙ home;
        entries = ap (λ (v : PassView SystemPart Op Reply). v.taker.mine) first.new;
        graces = ap (λ (v : PassView SystemPart Op Reply). v.graces) first.new;
      }

  -- and so they may begin
  pub may_work : (passes : List SystemPass) → IsSound script → HasStarted (plan_of script) system passes → MayWork system 0 script.workers passes
  may_work passes sound started = record {
    many = started.many ∙ length-map script.workers (λ (w : WorkerLines). w.proc);
    few = omega (arith, sound.callers);
    ready = subst (λ plan. All (IsReady plan) script.workers) (sym started.plan_is) (all_ready script sound);
    fresh = fresh passes started;
  }

  -- the worker whose pass it is
  worked_by : (passes : List SystemPass) → length passes ≡ length script.workers → HaveWorked system 0 script.workers passes
      → (number : ℕ) (pass : SystemPass) → slice_get passes number ≡ Some pass → (worker : WorkerLines) × HasWorked system (0 + number) worker pass
  worked_by passes crew worked number pass there =
      let worker = found_at script.workers number (omega (arith, crew, slice_get_within passes number pass there)) in
      (worker.0, worked number worker.0 pass worker.1 there)

  -- and when they have worked the system, which keeps all entries, may be closed
  pub worked_out : (passes : List SystemPass) → system.plan ≡ plan_of script → length passes ≡ length script.workers → HaveWorked system 0 script.workers passes → system.sys.keep ≡ keeps.All → MayClose system passes
  worked_out passes planned crew worked keep = record {
    may_end = record {
      many = omega (arith, crew, ap (λ (plan : PlanSeen). length plan.callers) planned, length-map script.workers (λ (w : WorkerLines). w.proc));
      each = λ number pass there.
          let done = (worked_by passes crew worked number pass there).1 in
          let plain : 0 + number ≡ number = omega arith in
          record { ours = done.here.ours.table; number = done.caller ∙ plain; rests = done.rests };
    };
    all = λ number pass there. (worked_by passes crew worked number pass there).1.here.ours.keep ∙ keep;
  }

  -- the closed history is that of a run
  pub run_closed : (passes : List SystemPass) (history : HistorySeen) → system.plan ≡ plan_of script → IsSound script → length passes ≡ length script.workers → HaveWorked system 0 script.workers passes → IsClosed system.plan (lists_in passes) history → IsRunOf script history.entries
  run_closed passes history planned sound crew worked closed = record {
    legal = subst (λ kinds. IsLegalHistory kinds history.entries) (ap kinds_of planned ∙ kinds_planned script sound) (plans.legal system.plan history.entries closed.legal);
    each = λ number worker found.
        let pass = found_at passes number (omega (arith, crew, slice_get_within script.workers number worker found)) in
        let done = worked number worker pass.0 found pass.1 in
        record {
          entries = pass.0.view.taker.mine;
          in_order = closed.in_order number pass.0.view.taker.mine (slice_get-map (λ (p : SystemPass). p.view.taker.mine) passes number ∙ ap (option_map (λ (p : SystemPass). p.view.taker.mine)) pass.1);
          done = done.done;
        };
    no_stranger = λ k d less.
        let callers : length system.plan.callers ≡ length script.workers = ap (λ (plan : PlanSeen). length plan.callers) planned ∙ length-map script.workers (λ (w : WorkerLines). w.proc) in
        omega (arith, callers, closed.no_stranger k d less);
  }

-- where nobody has drawn anything
drawn_by_none : (entries : List (Entry Op Reply)) → All (λ entry. entry.caller < 1) entries → map unstamped (entries_of 0 entries) ≡ [] → entries ≡ []
drawn_by_none [] callers none = refl
drawn_by_none (entry ∷ entries) callers none =
    let first : entry.caller < 1 = callers 0 entry (omega arith) in
    let own : entry.caller ≡ 0 = omega (arith, first) in
    let more : map unstamped (entries_of 0 (entry ∷ entries)) ≡ unstamped entry ∷ map unstamped (entries_of 0 entries) = rw (eq-eqb entry.caller 0 own) refl in
    absurd (no_split [] (unstamped entry) (map unstamped (entries_of 0 entries)) (sym none ∙ more))

module _ (script : Script) (none : list_any asks script.workers ≡ false) where
  no_lines : (number : ℕ) (worker : WorkerLines) → slice_get script.workers number ≡ Some worker → call_lines worker.items ≡ []
  no_lines number worker found = has_none worker.items (none_asking script.workers none number worker found)

  -- a script in which nobody asks anything has the empty run
  pub run_of_none : (entries : List (Entry Op Reply)) → entries ≡ [] → IsRunOf script entries
  run_of_none entries empty = subst (IsRunOf script) (sym empty) (record {
    legal = record { numbered = λ before entry after e. absurd (no_split before entry after e); legal = λ before entry after e. absurd (no_split before entry after e) };
    each = λ number worker found. record {
      entries = [];
      in_order = record { same = refl; counted = λ before entry after e. absurd (no_split before entry after e) };
      done = record {
        deeds = rw (no_lines number worker found) refl;
        made = All-nil (IsMadeBy worker);
        in_step = λ i j earlier later less there. absurd (none-some earlier there);
      };
    };
    no_stranger = All-nil (λ (entry : Entry Op Reply). entry.caller < length script.workers);
  })

-- a vector is as a borrow of it was left
pub whole : {X : Type 0} (new items : List X) (n : ℕ) → length new ≡ n → length items ≡ n → take n (new ++ drop (length new) items) ≡ new
whole new items n many as_before =
    let none : drop (length new) items ≡ [] = drop_of_length-le items {i = length new} (omega (arith, many, as_before)) in
    rw (none, append-nil new) (take_all n new (omega (arith, many)))

-- a started system keeps what its plan says
pub started_keep : (plan : PlanSeen) (system : SystemSeen) (passes : List SystemPass) → HasStarted plan system passes → system.sys.keep ≡ plan.keep
started_keep plan system passes started = started.planned.keep ∙ ap (λ (p : PlanSeen). p.keep) started.plan_is

-- passes that have just started, and keep all entries, may be closed
pub started_at_rest : (plan : PlanSeen) (system : SystemSeen) (passes : List SystemPass) → HasStarted plan system passes → plan.keep ≡ keeps.All → MayClose system passes
started_at_rest plan system passes started keep = record {
  may_end = record {
    many = started.many ∙ ap (λ (p : PlanSeen). length p.callers) (sym started.plan_is);
    each = λ number pass there.
        let first = started.each number pass there in
        record {
          ours = first.here.ours.table;
          number = ap (λ (v : PassView SystemPart Op Reply). v.number) first.new;
          rests = ap (λ (v : PassView SystemPart Op Reply). is_at_rest v) first.new;
        };
  };
  all = λ number pass there. (started.each number pass there).here.ours.keep ∙ started_keep plan system passes started ∙ keep;
}

-- and one caller that has just started leaves no entries
pub idle_closed : (system : SystemSeen) (passes : List SystemPass) (history : HistorySeen) → HasStarted idle_plan system passes → IsClosed system.plan (lists_in passes) history → history.entries ≡ []
idle_closed system passes history started closed =
    let pass = found_at passes 0 (omega (arith, started.many)) in
    let mine : pass.0.view.taker.mine ≡ [] = ap (λ (v : PassView SystemPart Op Reply). v.taker.mine) (started.each 0 pass.0 pass.1).new in
    let order = closed.in_order 0 pass.0.view.taker.mine (slice_get-map (λ (p : SystemPass). p.view.taker.mine) passes 0 ∙ ap (option_map (λ (p : SystemPass). p.view.taker.mine)) pass.1) in
    drawn_by_none history.entries
    (λ k d less. omega (arith, closed.no_stranger k d less, ap (λ (plan : PlanSeen). length plan.callers) started.plan_is))
    (order.same ∙ ap (map unstamped) mine)
