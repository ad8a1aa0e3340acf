-- The tasks of a run: as they begin, through their rounds, and when all have ended.
use Rattle.std.proofs.Common.{◌≡◌, ℕ, zero, suc, ◌+◌, ◌<◌, ◌≤◌, Bool, true, false, List, [], ◌∷◌, ◌++◌, length, drop, map, refl, sym, ap, ◌∙◌, subst, arith, add-one}
use Rattle.std.specs.Prelude.{Some, slice_get}
use Rattle.std.proofs.lemmas.List.{append-nil, append_assoc, length-map, length_push, map-append}
use Rattle.std.proofs.lemmas.Option.{same_Some, slice_get_within}
use Rattle.std.proofs.Math.ListN.{drop_of_length-le}
use Rattle.k42_places.proofs.Rests.{drop_at}
use Rattle.k42_places.specs.Places.{EachPair}
use Rattle.k42_kinds.proofs.Splits.{heads}
use Rattle.k42_kinds.specs.declared.operation.Op.{Op}
use Rattle.k42_kinds.specs.declared.operation.Reply.{Reply}
use Rattle.k42_kinds.specs.declared.entry.Entry.{Entry}
use Rattle.script_text.specs.declared.script.Item.{Item}
use Rattle.script_text.specs.declared.script.WorkerLines.{WorkerLines}
use Rattle.co_system.specs.Systems.{SystemPass, SystemSeen}
use Rattle.k42_workers.specs.Passes.{HasWorked, IsFresh, IsReady, MayWork}
use Rattle.k42_workers.proofs.Filtered.{All-found}
use Rattle.k42_workers.specs.Workers.{HasDoneLines}
use Rattle.task_workers.specs.Rounds.{AreInRun, HaveEnded, IsInRun, Own, own_of, owns_from}
use Rattle.task_workers.specs.Tasks.{IsTask, MayBegin, has_ended}
use Rattle.task_workers.specs.declared.tasks.TaskAt.{TaskAt}
use Rattle.task_workers.specs.declared.tasks.TaskAt.TheVariants.{Between, Calling, Swapping, Over}
use Rattle.task_workers.specs.declared.tasks.WorkerTask.{WorkerTask}

module _ (system : SystemSeen) where
  pub in_run_push : (refused : Bool) (tasks : List WorkerTask) (task : WorkerTask) → AreInRun system refused tasks → IsInRun system refused task → AreInRun system refused (tasks ++ task ∷ [])
  in_run_push refused [] task run last = (last, tt)
  in_run_push refused (first ∷ tasks) task run last = (run.0, in_run_push refused tasks task run.1 last)

  -- a pass that is fresh for a worker is for a task with its items
  fresh_for : (number : ℕ) (worker : WorkerLines) (pass : SystemPass) → IsFresh system number worker pass → IsReady system.plan worker → MayBegin system pass worker.items
  fresh_for number worker pass fresh ready = record {
    fresh = record {
      here = fresh.here;
      rests = fresh.rests;
      caller = refl;
      proc = refl;
      entries = fresh.entries;
      graces = fresh.graces;
    };
    ready = record { asked = ready.asked; few = ready.few; matches = ready.matches };
  }

  -- what is said of a worker goes by its items and its processor
  lines_of : (items : List Item) (proc : ℕ) (worker : WorkerLines) (entries : List (Entry Op Reply)) → items ≡ worker.items → proc ≡ worker.proc
      → HasDoneLines (record { name = []; proc = proc; items = items }) entries → HasDoneLines worker entries
  lines_of items proc worker entries same home lines =
      let own = subst (λ (z : List Item × ℕ). HasDoneLines (record { name = []; proc = z.1; items = z.0 }) entries) (λ j. (same j, home j)) lines in
      record {
        deeds = own.deeds;
        made = λ k entry less. let made = own.made k entry less in record { processor = made.processor; kept = made.kept; generation = made.generation };
        in_step = own.in_step;
      }

  has_worked : (number : ℕ) (worker : WorkerLines) (task : WorkerTask) → own_of task ≡ record { items = worker.items; number = number; proc = worker.proc } → IsInRun system false task
      → has_ended task.at ≡ true → HasWorked system number worker task.pass
  has_worked number worker task own run ended =
      let done = run.done refl ended in
      record {
        here = run.task_is.here;
        rests = done.rests;
        caller = ap (λ (o : Own). o.number) own;
        done = lines_of task.items.now task.pass.view.turn.proc worker task.pass.view.taker.mine (ap (λ (o : Own). o.items) own) (ap (λ (o : Own). o.proc) own) done.lines;
      }

  pub have_worked : (first : ℕ) (workers : List WorkerLines) (tasks : List WorkerTask) → map own_of tasks ≡ owns_from first workers → AreInRun system false tasks → HaveEnded tasks
      → EachPair (λ i. HasWorked system (first + i)) workers (map (λ (task : WorkerTask). task.pass) tasks)
  have_worked first [] tasks own run ended i worker pass there theirs = cc
  have_worked first (worker ∷ workers) [] own run ended i one pass there theirs = cc
  have_worked first (worker ∷ workers) (task ∷ tasks) own run ended zero one pass there theirs =
      let parts = heads (own_of task) (record { items = worker.items; number = first; proc = worker.proc }) (map own_of tasks) (owns_from (first + 1) workers) own in
      let zeroth : first ≡ first + 0 = omega arith in
      subst (λ (z : ℕ × WorkerLines × SystemPass). HasWorked system z.0 z.1 z.2) (λ j. (zeroth j, same_Some worker one there j, same_Some task.pass pass theirs j))
      (has_worked first worker task parts.head run.0 ended.0)
  have_worked first (worker ∷ workers) (task ∷ tasks) own run ended (suc i) one pass there theirs =
      let parts = heads (own_of task) (record { items = worker.items; number = first; proc = worker.proc }) (map own_of tasks) (owns_from (first + 1) workers) own in
      let next : first + 1 + i ≡ first + suc i = omega arith in
      subst (λ (n : ℕ). HasWorked system n one pass) next (have_worked (first + 1) workers tasks parts.tail run.1 ended.1 i one pass there theirs)

-- So many tasks have begun, and these passes are left.
pub record IsFilled (system : SystemSeen) (workers : List WorkerLines) (tasks : List WorkerTask) (passes rest : List SystemPass) : Type 0 where
  pub left : rest ≡ drop (length tasks) passes
  pub own : map own_of tasks ++ owns_from (length tasks) (drop (length tasks) workers) ≡ owns_from 0 workers
  pub in_run : (refused : Bool) → AreInRun system refused tasks

pub none_filled : (system : SystemSeen) (workers : List WorkerLines) (passes : List SystemPass) → IsFilled system workers [] passes passes
none_filled system workers passes = record { left = refl; own = refl; in_run = λ refused. tt }

-- where workers may work on their passes, a task may begin on each
pub may_begin : (system : SystemSeen) (workers : List WorkerLines) (passes : List SystemPass) → MayWork system 0 workers passes
    → (place : ℕ) (worker : WorkerLines) (pass : SystemPass) → slice_get workers place ≡ Some worker → slice_get passes place ≡ Some pass → MayBegin system pass worker.items
may_begin system workers passes may place worker pass there here =
    fresh_for system (0 + place) worker pass (may.fresh place worker pass there here) (All-found (IsReady system.plan) workers place worker may.ready there)

-- what stands first behind so many elements
first_behind : {A : Type 0} (xs : List A) (n : ℕ) (x : A) (rest : List A) → x ∷ rest ≡ drop n xs → (slice_get xs n ≡ Some x) × (rest ≡ drop (suc n) xs)
first_behind [] zero x rest e = cc
first_behind [] (suc n) x rest e = cc
first_behind (y ∷ ys) zero x rest e = let parts = heads x y rest ys e in (ap Some (sym parts.head), parts.tail)
first_behind (y ∷ ys) (suc n) x rest e = first_behind ys n x rest e

none_behind : {A : Type 0} (xs : List A) (n : ℕ) → [] ≡ drop n xs → length xs ≤ n
none_behind [] n e = omega arith
none_behind (x ∷ xs) zero e = cc
none_behind (x ∷ xs) (suc n) e = let less = none_behind xs n e in omega (arith, less)

begun_not_ended : (at : TaskAt) → at ≡ Between → has_ended at ≡ true → ⊥
begun_not_ended Between new ended = cc
begun_not_ended (Calling call) new ended = cc
begun_not_ended (Swapping swap) new ended = cc
begun_not_ended Over new ended = cc

module _ (system : SystemSeen) (workers : List WorkerLines) (tasks : List WorkerTask) (passes rest : List SystemPass) (pass : SystemPass) (may : MayWork system 0 workers passes)
    (filled : IsFilled system workers tasks passes (pass ∷ rest)) where
  at_pass : (slice_get passes (length tasks) ≡ Some pass) × (rest ≡ drop (suc (length tasks)) passes)
  at_pass = first_behind passes (length tasks) pass rest filled.left

  -- its worker is there
  pub worker_there : length tasks < length workers
  worker_there = let within = slice_get_within passes (length tasks) pass at_pass.0 in omega (arith, within, may.many)

  module _ (worker : WorkerLines) (there : slice_get workers (length tasks) ≡ Some worker) where
    fresh : IsFresh system (length tasks) worker pass
    fresh =
        let plain : 0 + length tasks ≡ length tasks = omega arith in
        subst (λ (n : ℕ). IsFresh system n worker pass) plain (may.fresh (length tasks) worker pass there at_pass.0)

    -- with a task for the worker on this pass one more has begun
    pub one_filled : (task : WorkerTask) → task.pass ≡ pass → task.items.now ≡ worker.items → task.at ≡ Between → (MayBegin system pass worker.items → IsTask system task)
        → IsFilled system workers (tasks ++ task ∷ []) passes rest
    one_filled task on items new is_task =
        let long : length (tasks ++ task ∷ []) ≡ suc (length tasks) = length_push tasks task ∙ add-one (length tasks) in
        let own : own_of task ≡ record { items = worker.items; number = length tasks; proc = worker.proc } =
        λ j. record {
          items = items j;
          number = (ap (λ (p : SystemPass). p.view.number) on ∙ fresh.caller) j;
          proc = (ap (λ (p : SystemPass). p.view.turn.proc) on ∙ fresh.proc) j;
        } in
        let next : drop (length tasks) workers ≡ worker ∷ drop (length tasks + 1) workers = drop_at workers (length tasks) worker there in
        record {
          left = at_pass.1 ∙ ap (λ n. drop n passes) (sym long);
          own =
              ap (λ (n : ℕ). map own_of (tasks ++ task ∷ []) ++ owns_from n (drop n workers)) (long ∙ sym (add-one (length tasks)))
              ∙ ap (λ (owns : List Own). owns ++ owns_from (length tasks + 1) (drop (length tasks + 1) workers)) (map-append own_of tasks (task ∷ []))
              ∙ append_assoc (map own_of tasks) (own_of task ∷ []) (owns_from (length tasks + 1) (drop (length tasks + 1) workers))
              ∙ ap (λ (o : Own). map own_of tasks ++ o ∷ owns_from (length tasks + 1) (drop (length tasks + 1) workers)) own
              ∙ ap (λ (ws : List WorkerLines). map own_of tasks ++ owns_from (length tasks) ws) (sym next)
              ∙ filled.own;
          in_run = λ refused. in_run_push system refused tasks task (filled.in_run refused) (record {
            task_is = is_task (may_begin system workers passes may (length tasks) worker pass there at_pass.0);
            done = λ none ended. absurd (begun_not_ended task.at new ended);
          });
        }

-- when all have begun
pub all_filled : (system : SystemSeen) (workers : List WorkerLines) (tasks : List WorkerTask) (passes : List SystemPass) → length passes ≡ length workers → IsFilled system workers tasks passes []
    → map own_of tasks ≡ owns_from 0 workers
all_filled system workers tasks passes many filled =
    let past = none_behind passes (length tasks) filled.left in
    let none : drop (length tasks) workers ≡ [] = drop_of_length-le workers {i = length tasks} (omega (arith, many, past)) in
    sym (append-nil (map own_of tasks)) ∙ ap (λ (ws : List WorkerLines). map own_of tasks ++ owns_from (length tasks) ws) (sym none) ∙ filled.own

length-owns_from : (first : ℕ) (workers : List WorkerLines) → length (owns_from first workers) ≡ length workers
length-owns_from first [] = refl
length-owns_from first (worker ∷ workers) = ap suc (length-owns_from (first + 1) workers)

-- there is a task for each worker
pub many_tasks : (workers : List WorkerLines) (tasks : List WorkerTask) → map own_of tasks ≡ owns_from 0 workers → length tasks ≡ length workers
many_tasks workers tasks own = sym (length-map tasks own_of) ∙ ap length own ∙ length-owns_from 0 workers

pub none_long : {A : Type 0} (xs : List A) → 0 ≡ length xs → xs ≡ []
none_long [] e = refl
none_long (x ∷ xs) e = cc
