-- What a step of a task brings: an item that was followed, a line that was held up or given up, or the end.
use Rattle.std.proofs.Common.{◌≡◌, inl, inr, ℕ, suc, ◌+◌, ◌<◌, ◌≤◌, Bool, true, false, Some, None, List, length, refl, sym, ap, ◌∙◌, subst, arith, add-one}
use Rattle.std.specs.Prelude.{◌↔◌, if◌then◌else◌, nat_lt, slice_get}
use Rattle.std.specs.Borrow.{Bor}
use Rattle.std.proofs.lemmas.Bool.Decides.{nat_tests}
use Rattle.std.proofs.lemmas.Option.{same_Some, slice_get_within}
use Rattle.script_text.specs.declared.script.CallLine.{CallLine}
use Rattle.script_text.specs.declared.script.Item.{Item}
use Rattle.script_text.specs.declared.script.Item.TheVariants.{Begin, End, Line}
use Rattle.script_text.specs.declared.script.WorkerLines.{WorkerLines}
use Rattle.co_system.specs.Systems.{SystemPass, SystemSeen}
use Rattle.k42_runtime.specs.Systems.{IsAtRest, IsPassHere}
use Rattle.k42_workers.specs.Lines.{Follows}
use Rattle.k42_workers.specs.Passes.{GoesOnBy, HasWorked, IsBetween, IsReady, StaysAs, standing_of}
use Rattle.k42_workers.specs.UnderWay.{IsAt}
use Rattle.k42_workers.proofs.Answered.{at_next, at_rest, at_start, worked}
use Rattle.task_workers.specs.Steps.{HasFollowed, HasStepped, IsSameTask, behind_item, step_behind}
use Rattle.task_workers.specs.Tasks.{MayBegin, IsBetweenItems, IsOnWay, IsTask, has_ended, worker_of, worker_on}
use Rattle.task_workers.specs.Tries.{IsDone, IsGivenUp, IsHeldUp, IsOfLine, IsSame, begun_at}
use Rattle.task_workers.specs.declared.tasks.TaskAt.{TaskAt}
use Rattle.task_workers.specs.declared.tasks.TaskAt.TheVariants.{Between, Over}
use Rattle.task_workers.specs.declared.tasks.TaskCause.{TaskCause}
use Rattle.task_workers.specs.declared.tasks.TaskStep.{TaskStep}
use Rattle.task_workers.specs.declared.tasks.TaskStep.TheVariants.{Again, Going, Ended, Memory}
use Rattle.task_workers.specs.declared.tasks.WorkerTask.{WorkerTask}
use Rattle.task_workers.proofs.LinesBegun.{between_at}
use Rattle.task_workers.proofs.LinesDone.{line_behind}

module _ (system : SystemSeen) (task : WorkerTask) (ready : IsReady system.plan (worker_of task)) where
  module _ (new : SystemPass) (same : IsSame system task.pass new) where
    same_task : (done : ℕ) (inside : Bool) (at : TaskAt) → IsSameTask task (record task { pass = new; done = done; inside = inside; at = at })
    same_task done inside at = record { items = refl; number = same.number; proc = same.proc }

    same_worker : worker_of task ≡ worker_on new task.items.now
    same_worker = ap (λ (proc : ℕ). record (worker_of task) { proc = proc }) (sym same.proc)

    ready_still : IsReady system.plan (worker_on new task.items.now)
    ready_still = subst (IsReady system.plan) same_worker ready

    module _ (item : Item) (next : slice_get task.items.now task.done ≡ Some item) (after : Bool)
        (at : IsAt system task.pass.view.number (worker_of task) (suc task.done) after new)
        (follows : Follows item task.pass.view.turn.proc task.inside after (standing_of task.pass.view) (standing_of new.view)) where
      -- the task behind the item
      gone : TaskAt → WorkerTask
      gone place = record task { pass = new; done = task.done + 1; inside = after; at = place }

      followed : (place : TaskAt) → HasFollowed task (record task { pass = new; done = task.done + 1; inside = after; at = place })
      followed place = record { item = item; next = next; done = refl; follows = follows }

      at_item : IsAt system new.view.number (worker_on new task.items.now) (task.done + 1) after new
      at_item = subst (λ (z : ℕ × WorkerLines × ℕ). IsAt system z.0 z.1 z.2 after new) (λ j. (sym same.number j, same_worker j, sym (add-one task.done) j)) at

      pub item_done : HasStepped system (step_behind (task.done + 1) (length task.items.now)) task (behind_item after (record task { pass = new }))
      item_done = by (nat_lt (task.done + 1) (length task.items.now)) refl
        where
          by : (less : Bool) → nat_lt (task.done + 1) (length task.items.now) ≡ less
              → HasStepped system (if less then Going else Ended) task (record task { pass = new; done = task.done + 1; inside = after; at = if less then Between else Over })
          by true is =
              let left : task.done + 1 < length task.items.now = grind (arith, nat_tests, is) in
              record {
                task = record { here = same.here; ready = ready_still; way = record { at_item = at_item; within = omega (arith, left) } };
                same = same_task (task.done + 1) after Between;
                over = refl;
                brought = (followed Between, refl, left);
              }
          by false is =
              let none : length task.items.now ≤ task.done + 1 = grind (arith, nat_tests, is) in
              let last = slice_get_within task.items.now task.done item next in
              let done : HasWorked system new.view.number (worker_on new task.items.now) new = worked system new.view.number (worker_on new task.items.now) (task.done + 1) after new none at_item in
              record {
                task = record { here = same.here; ready = ready_still; way = done.rests };
                same = same_task (task.done + 1) after Over;
                over = refl;
                brought = (record { all = omega (arith, none, last); rests = done.rests; lines = done.done }, inl (followed Over));
              }

    module _ (line : CallLine) (next : slice_get task.items.now task.done ≡ Some (Line line)) where
      pub line_held : (at after : TaskAt) (cause : TaskCause) → IsOnWay system after (record task { pass = new; at = after }) → IsHeldUp system line cause at after task.pass new
          → has_ended after ≡ false → new.view.taker.mine ≡ task.pass.view.taker.mine → HasStepped system (Again cause) task (record task { pass = new; at = after })
      line_held at after cause way held going drawn = record {
        task = record { here = same.here; ready = ready_still; way = way };
        same = same_task task.done task.inside after;
        over = going;
        brought = record { held = held.held; stays = held.stays; drawn = drawn; done = refl; left = slice_get_within task.items.now task.done (Line line) next };
      }

      pub line_given_up : IsGivenUp system (begun_at line task.at) task.pass new → HasStepped system Memory task (record task { pass = new; at = Over })
      line_given_up given = record {
        task = record { here = same.here; ready = ready_still; way = given.rests };
        same = same_task task.done task.inside Over;
        over = refl;
        brought = record {
          line = line;
          next = next;
          done = refl;
          left = slice_get_within task.items.now task.done (Line line) next;
          rests = given.rests;
          ended = given.ended;
        };
      }

-- an item that opens or ends a block is followed
pub item_followed : (system : SystemSeen) (task : WorkerTask) → IsReady system.plan (worker_of task) → IsBetweenItems system task → (item : Item) → slice_get task.items.now task.done ≡ Some item
    → (after : Bool) (new : SystemPass) → IsSame system task.pass new → IsBetween new.view → GoesOnBy item task.pass.view new.view
    → Follows item task.pass.view.turn.proc task.inside after (standing_of task.pass.view) (standing_of new.view)
    → HasStepped system (step_behind (task.done + 1) (length task.items.now)) task (behind_item after (record task { pass = new }))
item_followed system task ready between item next after new same idle on follows =
    let at = between.at_item in
    item_done system task ready new same item next after
    (at_next system task.pass.view.number (worker_of task) task.done task.inside task.pass at item after new next same.here idle on follows)
    follows

-- a line that was answered
pub line_done : (system : SystemSeen) (task : WorkerTask) → IsReady system.plan (worker_of task) → (line : CallLine) (next : slice_get task.items.now task.done ≡ Some (Line line))
    → (at : TaskAt) (of : IsOfLine line at) (way : IsOnWay system at task) (new : SystemPass) (same : IsSame system task.pass new) → IsDone line task.inside at task.pass new
    → HasStepped system (step_behind (task.done + 1) (length task.items.now)) task (behind_item task.inside (record task { pass = new }))
line_done system task ready line next at of way new same done =
    item_done system task ready new same (Line line) next task.inside (line_behind system task line next at of way new same done)
    (refl, done.answered)

module _ (system : SystemSeen) (task : WorkerTask) (is_task : IsTask system task) (going : has_ended task.at ≡ false) where
  -- a block is opened
  pub begin_followed : slice_get task.items.now task.done ≡ Some Begin → HasStepped system (step_behind (task.done + 1) (length task.items.now)) task (behind_item true task)
  begin_followed next =
      let between = between_at system task task.at going is_task.way (λ line other. absurd (let no : Begin ≡ Line line = same_Some Begin (Line line) (sym next ∙ other) in cc)) in
      item_followed system task is_task.ready between Begin next true task.pass (record { here = is_task.here; number = refl; proc = refl }) between.at_item.between
      (record { number = refl; proc = refl; graces = refl }) (refl, refl)

  -- or ended, with its activity
  pub end_followed : slice_get task.items.now task.done ≡ Some End → (new : SystemPass) → IsPassHere system new → IsAtRest new.view
      → standing_of new.view ≡ record (standing_of task.pass.view) { active = None } → StaysAs task.pass.view new.view
      → HasStepped system (step_behind (task.done + 1) (length task.items.now)) task (behind_item false (record task { pass = new }))
  end_followed next new here rests left same =
      let between = between_at system task task.at going is_task.way (λ line other. absurd (let no : End ≡ Line line = same_Some End (Line line) (sym next ∙ other) in cc)) in
      item_followed system task is_task.ready between End next false new (record { here = here; number = same.number; proc = same.proc }) (at_rest new.view rests).0 same (refl, left)

  -- no item is left
  pub none_left : length task.items.now ≤ task.done → HasStepped system Ended task (record task { at = Over })
  none_left past =
      let between = between_at system task task.at going is_task.way (λ line other. absurd (let less = slice_get_within task.items.now task.done (Line line) other in omega (arith, less, past))) in
      let at = between.at_item in
      let done : HasWorked system task.pass.view.number (worker_of task) task.pass = worked system task.pass.view.number (worker_of task) task.done task.inside task.pass past at in
      let all : task.done ≡ length task.items.now = let within = between.within in omega (arith, past, within) in
      record {
        task = record { here = at.here; ready = is_task.ready; way = done.rests };
        same = record { items = refl; number = refl; proc = refl };
        over = refl;
        brought = (record { all = all; rests = done.rests; lines = done.done }, inr (record { none = all; pass = refl }));
      }

-- the end comes just where all items are done
pub ends_at_all : (system : SystemSeen) (result : TaskStep) (old new : WorkerTask) → HasStepped system result old new → (result ≡ Ended) ↔ (new.done ≡ length new.items.now)
ends_at_all system (Again cause) old new step = (λ e. cc, λ all. absurd (let left = step.brought.left in omega (arith, left, all)))
ends_at_all system Going old new step = (λ e. cc, λ all. absurd (let left = step.brought.2 in omega (arith, left, all)))
ends_at_all system Ended old new step = (λ e. step.brought.0.all, λ all. refl)
ends_at_all system Memory old new step = (λ e. cc, λ all. absurd (let left = step.brought.left in omega (arith, left, all)))

-- a task on a fresh pass
pub task_begun : (system : SystemSeen) (pass : SystemPass) (items : Bor (List Item)) → MayBegin system pass items.now
    → IsTask system (record { pass = pass; items = items; done = 0; inside = false; at = Between })
task_begun system pass items may = record {
  here = may.fresh.here;
  ready = may.ready;
  way = record { at_item = at_start system pass.view.number (worker_on pass items.now) pass may.fresh may.ready; within = omega arith };
}
