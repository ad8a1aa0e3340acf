-- A step of a task at a line, which has begun before it is tried.
use Rattle.std.proofs.Common.{◌≡◌, ◌+◌, ◌<◌, false, Some, None, Ok, Err, length, sym, subst}
use Rattle.std.specs.Prelude.{slice_get}
use Rattle.std.proofs.lemmas.Option.{slice_get_within}
use Rattle.k42_memory.specs.declared.Memory.{Memory as NoMemory}
use Rattle.script_text.specs.declared.script.CallLine.{CallLine}
use Rattle.script_text.specs.declared.script.Item.TheVariants.{Line}
use Rattle.co_system.specs.Systems.{SystemPass, SystemSeen}
use Rattle.k42_workers.specs.Passes.{HasFew}
use Rattle.task_workers.specs.Steps.{HasStepped, behind_item, step_behind}
use Rattle.task_workers.specs.Tasks.{IsOnWay, IsTask, has_ended}
use Rattle.task_workers.specs.Tries.{HasTried, IsOfLine, IsSame, MayTry, begun_at}
use Rattle.task_workers.specs.declared.tasks.TaskAt.{TaskAt}
use Rattle.task_workers.specs.declared.tasks.TaskAt.TheVariants.{Over}
use Rattle.task_workers.specs.declared.tasks.TaskCause.{TaskCause}
use Rattle.task_workers.specs.declared.tasks.TaskStep.TheVariants.{Again, Memory}
use Rattle.task_workers.specs.declared.tasks.WorkerTask.{WorkerTask}
use Rattle.task_workers.proofs.LinesBegun.{begun_way, may_try}
use Rattle.task_workers.proofs.LinesDone.{still_on, still_going, nothing_drawn}
use Rattle.task_workers.proofs.ItemsDone.{line_done, line_given_up, line_held}

module _ (system : SystemSeen) (shaped : length system.sys.shapes ≡ length system.plan.objects) (task : WorkerTask) (is_task : IsTask system task) (going : has_ended task.at ≡ false) (line : CallLine)
    (next : slice_get task.items.now task.done ≡ Some (Line line)) (b : WorkerTask) (begun : b ≡ record task { at = begun_at line task.at }) where
  way : IsOnWay system (begun_at line task.at) task
  way = begun_way system task is_task.ready shaped line next task.at going is_task.way

  tries : HasFew task.pass.view × MayTry system (begun_at line task.at) task.pass × IsOfLine line (begun_at line task.at)
  tries = may_try system task is_task.ready shaped line next task.at going way

  pub few_begun : HasFew b.pass.view
  few_begun = subst (λ (t : WorkerTask). HasFew t.pass.view) (sym begun) tries.0

  pub may_begun : MayTry system b.at b.pass
  may_begun = subst (λ (t : WorkerTask). MayTry system t.at t.pass) (sym begun) tries.1

  pub left_begun : b.done < length b.items.now
  left_begun = subst (λ (t : WorkerTask). t.done < length t.items.now) (sym begun) (slice_get_within task.items.now task.done (Line line) next)

  module _ (at : TaskAt) (new : SystemPass) where
    pub done_begun : IsSame system b.pass new → ((l : CallLine) → IsOfLine l b.at → HasTried {E = NoMemory} system l b.inside (Ok None) b.at at b.pass new)
        → HasStepped system (step_behind (b.done + 1) (length b.items.now)) task (behind_item b.inside (record b { pass = new; at = at }))
    done_begun =
        subst (λ (t : WorkerTask). IsSame system t.pass new → ((l : CallLine) → IsOfLine l t.at → HasTried {E = NoMemory} system l t.inside (Ok None) t.at at t.pass new)
        → HasStepped system (step_behind (t.done + 1) (length t.items.now)) task (behind_item t.inside (record t { pass = new; at = at })))
        (sym begun) (λ same tried. line_done system task is_task.ready line next (begun_at line task.at) tries.2 way new same (tried line tries.2))

    pub held_begun : (cause : TaskCause) → IsSame system b.pass new → ((l : CallLine) → IsOfLine l b.at → HasTried {E = NoMemory} system l b.inside (Ok (Some cause)) b.at at b.pass new)
        → HasStepped system (Again cause) task (record b { pass = new; at = at })
    held_begun cause =
        subst (λ (t : WorkerTask). IsSame system t.pass new → ((l : CallLine) → IsOfLine l t.at → HasTried {E = NoMemory} system l t.inside (Ok (Some cause)) t.at at t.pass new)
        → HasStepped system (Again cause) task (record t { pass = new; at = at }))
        (sym begun) (λ same tried.
        let held = tried line tries.2 in
        line_held system task is_task.ready new same line next (begun_at line task.at) at cause
        (still_on system task line next (begun_at line task.at) tries.2 way new same cause at held) held
        (still_going system task line next (begun_at line task.at) tries.2 way new same cause at held)
        (nothing_drawn system task line next (begun_at line task.at) tries.2 way new same cause at held))

    pub given_up_begun : (none : NoMemory) → IsSame system b.pass new → ((l : CallLine) → IsOfLine l b.at → HasTried system l b.inside (Err none) b.at at b.pass new)
        → HasStepped system Memory task (record b { pass = new; at = Over })
    given_up_begun none =
        subst (λ (t : WorkerTask). IsSame system t.pass new → ((l : CallLine) → IsOfLine l t.at → HasTried system l t.inside (Err none) t.at at t.pass new)
        → HasStepped system Memory task (record t { pass = new; at = Over }))
        (sym begun) (λ same tried. line_given_up system task is_task.ready new same line next (tried line tries.2))
