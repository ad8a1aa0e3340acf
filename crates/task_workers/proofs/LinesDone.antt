-- A line of a task that was tried once: where the task is then.
use Rattle.std.proofs.Common.{◌≡◌, ℕ, suc, ◌+◌, ◌≤◌, Bool, true, false, Option, Some, None, List, drop, refl, sym, ap, ◌∙◌, subst, arith, add-one}
use Rattle.std.specs.Prelude.{if◌then◌else◌, slice_get}
use Rattle.std.proofs.lemmas.Option.{same_Some, none-some}
use Rattle.k42_places.proofs.Rests.{drop_at}
use Rattle.k42_kinds.specs.declared.operation.Reply.{Reply}
use Rattle.k42_kinds.specs.declared.entry.Act.{Act}
use Rattle.k42_kinds.specs.declared.entry.Act.TheVariants.{Call, Swap}
use Rattle.k42_kinds.specs.declared.entry.Entry.{Entry}
use Rattle.k42_kinds.specs.declared.operation.Op.{Op}
use Rattle.script_text.specs.Sound.{BlocksMatch, IsCall}
use Rattle.script_text.specs.declared.script.CallLine.{CallLine}
use Rattle.script_text.specs.declared.script.Item.TheVariants.{Line}
use Rattle.script_text.specs.declared.script.WorkerLines.{WorkerLines}
use Rattle.co_system.specs.Systems.{SystemPass, SystemSeen}
use Rattle.k42_workers.specs.Lines.{Standing, IsLatest, GoesOn, IsTimed, AnswersLine, IsOpened}
use Rattle.k42_workers.specs.Passes.{standing_of}
use Rattle.k42_workers.specs.UnderWay.{IsAt, IsUnderWay}
use Rattle.k42_workers.proofs.Working.{under_way_on}
use Rattle.task_workers.specs.Tasks.{IsInLine, IsOnWay, IsWithin, has_ended, lines_behind, standing_in, without_own, worker_of, worker_on}
use Rattle.task_workers.specs.Tries.{IsDone, IsHeldUp, IsOfLine, IsSame, StaysUnderWay, graces_with}
use Rattle.task_workers.specs.declared.tasks.TaskAt.{TaskAt}
use Rattle.task_workers.specs.declared.tasks.TaskAt.TheVariants.{Between, Calling, Swapping, Over}
use Rattle.task_workers.specs.declared.tasks.TaskCause.{TaskCause}
use Rattle.task_workers.specs.declared.tasks.WorkerTask.{WorkerTask}
use Rattle.task_workers.proofs.LinesBegun.{outside_swap, same_line}

AreLatest : Option ℕ → List (Entry Op Reply) → Type 0
AreLatest active entries = (generation : ℕ) → active ≡ Some generation → IsLatest generation entries

-- a call in its own activity is one of no block
goes_without : (inside : Bool) (active : Option ℕ) (entries : List (Entry Op Reply)) (generation : ℕ) → ((p : ℕ) → active ≡ Some p → IsLatest p entries) → GoesOn active entries generation
    → GoesOn (if inside then active else None) entries generation
goes_without true active entries generation latest on = on
goes_without false None entries generation latest on = on
goes_without false (Some p) entries generation latest on = subst (λ (g : ℕ). IsLatest g entries) (sym on) (latest p refl)

timed_without : (act : Act Op) (inside : Bool) (old : Standing) (drawn after : Option ℕ)
    → ((op : Op) → act ≡ Call op → (p : ℕ) → old.active ≡ Some p → IsLatest p old.entries) → IsTimed act inside old drawn after
    → IsTimed act inside (without_own inside old) drawn after
timed_without (Call op) inside old drawn after latest timed = record {
  generation = timed.generation;
  drawn_in = timed.drawn_in;
  goes_on = goes_without inside old.active old.entries timed.generation (latest op refl) timed.goes_on;
  left = timed.left;
}
timed_without (Swap to) inside old drawn after latest timed = record { drawn_in = timed.drawn_in; left = timed.left }

-- a call goes on behind all that was drawn before
risen : (active : Option ℕ) (entries : List (Entry Op Reply)) (generation : ℕ) → ((p : ℕ) → active ≡ Some p → IsLatest p entries) → GoesOn active entries generation → IsLatest generation entries
risen (Some p) entries generation latest on = subst (λ (g : ℕ). IsLatest g entries) (sym on) (latest p refl)
risen None entries generation latest on = on

levelled : (active : Option ℕ) (entries : List (Entry Op Reply)) (generation f : ℕ) → GoesOn active entries generation → active ≡ Some f → Some generation ≡ Some f
levelled (Some p) entries generation f on is = ap Some on ∙ is
levelled None entries generation f on is = absurd (none-some f is)

opened_is : (old new : Standing) → (opened : IsOpened old new) → new ≡ record { entries = old.entries; active = Some opened.generation }
opened_is old new opened = λ j. record { entries = opened.entries j; active = opened.active j }

-- in a block its activity may be opened
opened_on : (worker : WorkerLines) (place : ℕ) (old new : Standing) → IsUnderWay worker place true old → IsOpened old new → IsUnderWay worker place true new
opened_on worker place old new way opened = subst (IsUnderWay worker place true) (sym (opened_is old new opened)) (record {
  deeds = way.deeds;
  made = way.made;
  in_step = way.in_step;
  begun = way.begun;
  block = way.block;
  done = way.done;
  blocks = way.blocks;
  many = way.many;
  matches = way.matches;
  outside = λ out. cc;
  within = way.within;
  earlier = way.earlier;
  latest = λ generation is. subst (λ (g : ℕ). IsLatest g old.entries) (same_Some opened.generation generation is) (risen old.active old.entries opened.generation way.latest opened.goes_on);
  level = λ some i entry generation there same drawn. levelled old.active old.entries opened.generation generation opened.goes_on (way.level some i entry generation there same drawn);
})

-- besides the activity of a call that is its own, the way is as before
opened_without : (worker : WorkerLines) (place : ℕ) (inside : Bool) (old new : Standing) → IsUnderWay worker place inside (without_own inside old) → IsOpened old new
    → IsUnderWay worker place inside (without_own inside new)
opened_without worker place true old new way opened = opened_on worker place old new way opened
opened_without worker place false old new way opened = subst (λ (entries : List (Entry Op Reply)). IsUnderWay worker place false (record { entries = entries; active = None })) (sym opened.entries) way

drawn_without : (worker : WorkerLines) (place : ℕ) (inside : Bool) (old new : Standing) → inside ≡ false → new.entries ≡ old.entries → IsUnderWay worker place inside (without_own inside old)
    → IsUnderWay worker place inside (without_own inside new)
drawn_without worker place true old new out same way = absurd (cc)
drawn_without worker place false old new out same way = subst (λ (entries : List (Entry Op Reply)). IsUnderWay worker place false (record { entries = entries; active = None })) (sym same) way

module _ (system : SystemSeen) (task : WorkerTask) (line : CallLine) (next : slice_get task.items.now task.done ≡ Some (Line line)) where
  line_on : (at : TaskAt) → IsOfLine line at → IsOnWay system at task → IsInLine system at task
  line_on Between of way = absurd of
  line_on (Calling call) of way = way
  line_on (Swapping swap) of way = way
  line_on Over of way = absurd of

  module _ (at : TaskAt) (of : IsOfLine line at) (way : IsOnWay system at task) (new : SystemPass) (same : IsSame system task.pass new) where
    on : IsInLine system at task
    on = line_on at of way

    on_latest : (op : Op) → line.act ≡ Call op → (p : ℕ) → task.pass.view.turn.active ≡ Some p → IsLatest p task.pass.view.taker.mine
    on_latest op is = on.latest op (ap (λ (one : CallLine). one.act) (same_line on.line line (slice_get task.items.now task.done) on.next next) ∙ is)

    -- a line that was answered is behind the task
    pub answered : IsDone line task.inside at task.pass new → AnswersLine line task.pass.view.turn.proc task.inside (standing_in task) (standing_of new.view)
    answered done =
        let is = done.answered in
        record {
          entry = is.entry;
          drawn = is.drawn;
          deed = is.deed;
          processor = is.processor;
          kept = is.kept;
          timed = timed_without line.act task.inside (standing_of task.pass.view) is.entry.generation new.view.turn.active on_latest is.timed;
        }

    pub line_behind : IsDone line task.inside at task.pass new → IsAt system task.pass.view.number (worker_of task) (suc task.done) task.inside new
    line_behind done = record {
      here = same.here;
      between = done.between;
      caller = same.number;
      proc = same.proc;
      graces =
          let left = on.within in let few = done.graces in
          rw (← add-one task.done)
          (fewer new.view.graces (graces_with at task.pass.view) (lines_behind (task.done + 1) task.items.now) (lines_behind 0 task.items.now) few left);
      way = under_way_on (worker_of task) task.done task.inside task.inside (Line line) (standing_in task) (standing_of new.view) next on.way (refl, answered done);
    }
      where
        fewer : (a b c d : ℕ) → a ≤ b → b + c ≤ d → a + c ≤ d
        fewer a b c d few left = omega (arith, few, left)

    -- and one that was held up is under way still
    module _ (cause : TaskCause) (after : TaskAt) (held : IsHeldUp system line cause at after task.pass new) where
      within_after : IsWithin (record task { pass = new; at = after }) (graces_with after new.view)
      within_after = let left = on.within in let few = held.graces in omega (arith, left, few)

      worker_same : worker_of task ≡ worker_on new task.items.now
      worker_same = ap (λ (proc : ℕ). record (worker_of task) { proc = proc }) (sym same.proc)

      matches : (inside : Bool) → BlocksMatch inside (drop task.done task.items.now) false → inside ≡ true → IsCall line.act
      matches inside fits = (subst (λ items. BlocksMatch inside items false) (drop_at task.items.now task.done (Line line) next) fits).0

      stays_way : (after : TaskAt) → IsOfLine line after → StaysUnderWay after task.pass new → IsUnderWay (worker_of task) task.done task.inside (without_own task.inside (standing_of new.view))
      stays_way Between of stays = absurd of
      stays_way (Calling call) of stays = opened_without (worker_of task) task.done task.inside (standing_of task.pass.view) (standing_of new.view) on.way stays
      stays_way (Swapping swap) of stays =
          drawn_without (worker_of task) task.done task.inside (standing_of task.pass.view) (standing_of new.view)
          (outside_swap swap.to task.inside (λ inside. subst IsCall of.1 (matches task.inside on.way.matches inside))) stays on.way
      stays_way Over of stays = absurd of

      latest_in : (op : Op) → line.act ≡ Call op → IsOpened (standing_of task.pass.view) (standing_of new.view) → (generation : ℕ) → new.view.turn.active ≡ Some generation
          → IsLatest generation new.view.taker.mine
      latest_in op is opened generation active =
          subst (λ (entries : List (Entry Op Reply)). IsLatest generation entries) (sym opened.entries)
          (subst (λ (g : ℕ). IsLatest g task.pass.view.taker.mine) (same_Some opened.generation generation (sym opened.active ∙ active))
          (risen task.pass.view.turn.active task.pass.view.taker.mine opened.generation (on_latest op is) opened.goes_on))

      opened_in : (place : TaskAt) (op : Op) → IsOfLine line place → line.act ≡ Call op → StaysUnderWay place task.pass new → IsOpened (standing_of task.pass.view) (standing_of new.view)
      opened_in Between op of is stays = absurd of
      opened_in (Calling call) op of is stays = stays
      opened_in (Swapping swap) op of is stays = absurd (let no : Swap swap.to ≡ Call op = sym of.1 ∙ is in cc)
      opened_in Over op of is stays = absurd of

      still_in_line : IsInLine system after (record task { pass = new; at = after })
      still_in_line = record {
        line = line;
        next = next;
        of = held.of;
        may = held.may;
        way = subst (λ (w : WorkerLines). IsUnderWay w task.done task.inside (without_own task.inside (standing_of new.view))) worker_same (stays_way after held.of held.stays);
        latest = λ op is. latest_in op is (opened_in after op held.of is held.stays);
        within = within_after;
      }

      pub still_on : IsOnWay system after (record task { pass = new; at = after })
      still_on = by after held.of still_in_line
        where
          by : (place : TaskAt) → IsOfLine line place → IsInLine system place (record task { pass = new; at = after }) → IsOnWay system place (record task { pass = new; at = after })
          by Between of in_line = absurd of
          by (Calling call) of in_line = in_line
          by (Swapping swap) of in_line = in_line
          by Over of in_line = absurd of

      pub still_going : has_ended after ≡ false
      still_going = goes_on after held.of
        where
          goes_on : (at : TaskAt) → IsOfLine line at → has_ended at ≡ false
          goes_on Between of = refl
          goes_on (Calling call) of = refl
          goes_on (Swapping swap) of = refl
          goes_on Over of = absurd of

      pub nothing_drawn : new.view.taker.mine ≡ task.pass.view.taker.mine
      nothing_drawn = drawn after held.stays
        where
          drawn : (at : TaskAt) → StaysUnderWay at task.pass new → new.view.taker.mine ≡ task.pass.view.taker.mine
          drawn Between stays = absurd stays
          drawn (Calling call) stays = stays.entries
          drawn (Swapping swap) stays = stays
          drawn Over stays = absurd stays
