-- Tasks of a run, of which one after the other makes a step.
use Rattle.std.proofs.Common.{◌≡◌, ℕ, zero, suc, ◌+◌, ◌<◌, Bool, true, false, List, [], ◌∷◌, length, get_or, map, take, refl, sym, ap, ◌∙◌, subst, arith, add-one}
use Rattle.std.specs.Prelude.{slice_set}
use Rattle.std.proofs.lemmas.List.{length-map}
use Rattle.co_system.specs.Systems.{SystemSeen}
use Rattle.task_workers.specs.Rounds.{AreInRun, HaveEnded, IsInRun, Own, own_of}
use Rattle.task_workers.specs.Tasks.{has_ended}
use Rattle.task_workers.specs.declared.tasks.WorkerTask.{WorkerTask}

pub not_both : {A : Type 0} → true ≡ false → A
not_both e = cc

module _ (system : SystemSeen) where
  -- what is said of a run in which no task was refused memory is not said where one was
  pub in_run_on : (before after : Bool) (task : WorkerTask) → (after ≡ false → before ≡ false) → IsInRun system before task → IsInRun system after task
  in_run_on before after task kept run = record { task_is = run.task_is; done = λ none. run.done (kept none) }

  pub are_in_run_on : (before after : Bool) (tasks : List WorkerTask) → (after ≡ false → before ≡ false) → AreInRun system before tasks → AreInRun system after tasks
  are_in_run_on before after [] kept run = tt
  are_in_run_on before after (task ∷ tasks) kept run = (in_run_on before after task kept run.0, are_in_run_on before after tasks kept run.1)

  pub in_run_at : (refused : Bool) (tasks : List WorkerTask) (i : ℕ) (none : WorkerTask) → i < length tasks → AreInRun system refused tasks → IsInRun system refused (get_or tasks i none)
  in_run_at refused [] i none less run = absurd (omega (arith, less))
  in_run_at refused (task ∷ tasks) zero none less run = run.0
  in_run_at refused (task ∷ tasks) (suc i) none less run = in_run_at refused tasks i none (omega (arith, less)) run.1

  pub in_run_set : (refused : Bool) (tasks : List WorkerTask) (i : ℕ) (task : WorkerTask) → AreInRun system refused tasks
      → IsInRun system refused task → AreInRun system refused (slice_set tasks i task)
  in_run_set refused [] i task run one = tt
  in_run_set refused (first ∷ tasks) zero task run one = (one, run.1)
  in_run_set refused (first ∷ tasks) (suc i) task run one = (run.0, in_run_set refused tasks i task run.1 one)

pub own_set : (tasks : List WorkerTask) (i : ℕ) (task none : WorkerTask) → own_of task ≡ own_of (get_or tasks i none) → map own_of (slice_set tasks i task) ≡ map own_of tasks
own_set [] i task none own = refl
own_set (first ∷ tasks) zero task none own = ap (λ (o : Own). o ∷ map own_of tasks) own
own_set (first ∷ tasks) (suc i) task none own = ap (λ (owns : List Own). own_of first ∷ owns) (own_set tasks i task none own)

ended_set : (tasks : List WorkerTask) (i : ℕ) (task : WorkerTask) → HaveEnded (take i tasks) → has_ended task.at ≡ true → HaveEnded (take (suc i) (slice_set tasks i task))
ended_set [] i task ended one = tt
ended_set (first ∷ tasks) zero task ended one = (one, tt)
ended_set (first ∷ tasks) (suc i) task ended one = (ended.0, ended_set tasks i task ended.1 one)

-- so many tasks of the round have made their steps
pub record IsInRound (system : SystemSeen) (first : List WorkerTask) (before : Bool) (i : ℕ) (tasks : List WorkerTask) (going refused : Bool) : Type 0 where
  pub own : map own_of tasks ≡ map own_of first
  pub in_run : AreInRun system refused tasks
  pub ended : going ≡ false → HaveEnded (take i tasks)
  pub kept : refused ≡ false → before ≡ false

module _ (system : SystemSeen) (first tasks : List WorkerTask) (before going refused : Bool) (i : ℕ) (round : IsInRound system first before i tasks going refused) where
  still_long : length tasks ≡ length first
  still_long = sym (length-map tasks own_of) ∙ ap length round.own ∙ length-map first own_of

  -- the next task may make its step
  pub may_turn : (none : WorkerTask) → i < length first → IsInRun system refused (get_or tasks i none)
  may_turn none less = in_run_at system refused tasks i none (omega (arith, less, still_long)) round.in_run

  -- and has made it
  pub turned : (task none : WorkerTask) (now after : Bool) → own_of task ≡ own_of (get_or tasks i none) → IsInRun system after task
      → (now ≡ false → (going ≡ false) × (has_ended task.at ≡ true)) → (after ≡ false → refused ≡ false)
      → IsInRound system first before (i + 1) (slice_set tasks i task) now after
  turned task none now after own run ended kept = record {
    own = own_set tasks i task none own ∙ round.own;
    in_run = in_run_set system after tasks i task (are_in_run_on system refused after tasks kept round.in_run) run;
    ended = λ neither.
        let both = ended neither in
        subst (λ (n : ℕ). HaveEnded (take n (slice_set tasks i task))) (sym (add-one i)) (ended_set tasks i task (round.ended both.0) both.1);
    kept = λ none_refused. round.kept (kept none_refused);
  }
