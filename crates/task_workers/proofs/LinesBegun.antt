-- A line of a task begins: then its call or its swap is under way, and may be tried.
use Rattle.std.proofs.Common.{◌≡◌, ℕ, suc, ◌+◌, ◌≤◌, Bool, true, false, Option, Some, None, length, refl, sym, ap, ◌∙◌, subst, arith}
use Rattle.std.specs.Prelude.{slice_get}
use Rattle.std.proofs.lemmas.List.Elements.{recursion_from_All}
use Rattle.std.proofs.lemmas.Option.{same_Some}
use Rattle.k42_places.proofs.Rests.{drop_at}
use Rattle.k42_kinds.specs.declared.operation.Op.{Op}
use Rattle.k42_kinds.specs.declared.operation.Reply.{Reply}
use Rattle.k42_kinds.specs.declared.entry.Act.{Act}
use Rattle.k42_kinds.specs.declared.entry.Act.TheVariants.{Call, Swap}
use Rattle.k42_kinds.specs.declared.entry.To.{To}
use Rattle.script_text.specs.Lawful.{call_lines}
use Rattle.script_text.specs.Sound.{IsCall}
use Rattle.script_text.specs.declared.script.CallLine.{CallLine}
use Rattle.script_text.specs.declared.script.Item.{Item}
use Rattle.script_text.specs.declared.script.Item.TheVariants.{Line}
use Rattle.k42_board.specs.declared.view.PassView.{PassView}
use Rattle.co_system.specs.Systems.{SystemPart, SystemSeen}
use Rattle.k42_workers.specs.Lines.{Standing}
use Rattle.k42_workers.specs.Passes.{HasFew, IsReady, MayAnswer, MayAsk, MayAskLine, RestsFor, standing_of}
use Rattle.k42_workers.specs.UnderWay.{IsAt, IsUnderWay}
use Rattle.k42_workers.proofs.Answered.{line_at, line_in, many_under_way, may_follow}
use Rattle.task_workers.specs.Tasks.{IsBetweenItems, IsInLine, IsOnWay, IsWithin, has_ended, lines_behind, standing_in, without_own, worker_of}
use Rattle.task_workers.specs.Tries.{IsOfLine, MayTry, begun_at, graces_with, started}
use Rattle.task_workers.specs.declared.tasks.TaskAt.{TaskAt}
use Rattle.task_workers.specs.declared.tasks.TaskAt.TheVariants.{Between, Calling, Swapping, Over}
use Rattle.task_workers.specs.declared.tasks.WorkerTask.{WorkerTask}

-- between two items no activity but that of a block is open
pub without_none : (inside : Bool) (standing : Standing) → (inside ≡ false → standing.active ≡ None) → standing ≡ without_own inside standing
without_none true standing none = refl
without_none false standing none = λ j. record standing { active = none refl j }

-- a swap is made in no block
pub outside_swap : (to : To) (inside : Bool) → (inside ≡ true → IsCall (Swap to)) → inside ≡ false
outside_swap to true call = absurd (call refl)
outside_swap to false call = refl

pub same_line : (one other : CallLine) (found : Option Item) → found ≡ Some (Line one) → found ≡ Some (Line other) → one ≡ other
same_line one other found first second = ap (λ (item : Item). line_in item one) (same_Some (Line one) (Line other) (sym first ∙ second))

abbrev pub is_under_way : TaskAt → Bool
is_under_way Between = false
is_under_way (Calling call) = true
is_under_way (Swapping swap) = true
is_under_way Over = false

started_going : (object : ℕ) (act : Act Op) → is_under_way (started object act) ≡ true
started_going object (Call op) = refl
started_going object (Swap to) = refl

stays_going : (line : CallLine) (at : TaskAt) → has_ended at ≡ false → is_under_way (begun_at line at) ≡ true
stays_going line Between going = started_going line.object line.act
stays_going line (Calling call) going = refl
stays_going line (Swapping swap) going = refl
stays_going line Over going = absurd (cc)

-- where a call or a swap is under way, the next line is
pub line_under_way : (system : SystemSeen) (task : WorkerTask) (at : TaskAt) → is_under_way at ≡ true → IsOnWay system at task → IsInLine system at task
line_under_way system task Between under way = cc
line_under_way system task (Calling call) under way = way
line_under_way system task (Swapping swap) under way = way
line_under_way system task Over under way = cc

with_graces : (at : TaskAt) (v : PassView SystemPart Op Reply) → v.graces ≤ graces_with at v
with_graces Between v = omega arith
with_graces (Calling call) v = omega arith
with_graces (Swapping swap) v = omega arith
with_graces Over v = omega arith

-- what the next line may need
lines_next : (task : WorkerTask) (line : CallLine) → slice_get task.items.now task.done ≡ Some (Line line)
    → lines_behind task.done task.items.now ≡ suc (lines_behind (task.done + 1) task.items.now)
lines_next task line next = ap (λ items. length (call_lines items)) (drop_at task.items.now task.done (Line line) next)

module _ (system : SystemSeen) (task : WorkerTask) (ready : IsReady system.plan (worker_of task)) (shaped : length system.sys.shapes ≡ length system.plan.objects) (line : CallLine)
    (next : slice_get task.items.now task.done ≡ Some (Line line)) where
  asked : MayAskLine system.plan line
  asked = line_at (MayAskLine system.plan) task.items.now task.done line (recursion_from_All (MayAskLine system.plan) (call_lines task.items.now) ready.asked) next

  module _ (between : IsBetweenItems system task) where
    at : IsAt system task.pass.view.number (worker_of task) task.done task.inside task.pass
    at = between.at_item

    may : MayAnswer system.plan line task.pass.view
    may = may_follow system task.pass.view.number (worker_of task) task.done task.inside task.pass at (Line line) next ready

    within : (graces : ℕ) → graces ≤ task.pass.view.graces + 1 → IsWithin task graces
    within graces one = let more = lines_next task line next in let has = at.graces in omega (arith, has, more, one)

    in_line : (at : TaskAt) → IsOfLine line at → MayTry system at task.pass → graces_with at task.pass.view ≤ task.pass.view.graces + 1
        → IsInLine system at task
    in_line place of may one = record {
      line = line;
      next = next;
      of = of;
      may = may;
      way = subst (IsUnderWay (worker_of task) task.done task.inside) (without_none task.inside (standing_of task.pass.view) (λ out. (at.way.outside out).1)) at.way;
      latest = λ op is. at.way.latest;
      within = within (graces_with place task.pass.view) one;
    }

    starts : (act : Act Op) → line.act ≡ act → IsOnWay system (started line.object act) task
    starts (Call op) is =
        in_line (started line.object (Call op)) (refl, is) (refl, subst (MayAsk system.plan line.object) is asked, at.between)
        (omega arith)
    starts (Swap to) is =
        let asks = subst (MayAsk system.plan line.object) is asked in
        let there = asks.0 in
        in_line (started line.object (Swap to)) (refl, is) (
          refl,
          asks.1,
          (
            refl,
            record {
              rests = subst (λ act. RestsFor act task.pass.view) is may.rests;
              there = omega (arith, shaped, there);
            },
          ),
        )
        (omega arith)

  -- a line that begins is under way
  pub begun_way : (at : TaskAt) → has_ended at ≡ false → IsOnWay system at task → IsOnWay system (begun_at line at) task
  begun_way Between going way = starts way line.act refl
  begun_way (Calling call) going way = way
  begun_way (Swapping swap) going way = way
  begun_way Over going way = absurd (cc)

  few_in : (at : TaskAt) → IsInLine system at task → HasFew task.pass.view
  few_in at in_line =
      let many = many_under_way (worker_of task) task.done task.inside (standing_in task) in_line.way in
      let more = lines_next task line next in let few = ready.few in
      record {
        entries = omega (arith, many, more, few);
        graces = let left = in_line.within in let one = with_graces at task.pass.view in omega (arith, left, one, few);
      }

  -- and may be tried
  pub may_try : (at : TaskAt) → has_ended at ≡ false → IsOnWay system (begun_at line at) task → HasFew task.pass.view × MayTry system (begun_at line at) task.pass × IsOfLine line (begun_at line at)
  may_try at going way =
      let place = begun_at line at in let in_line = line_under_way system task place (stays_going line at going) way in
      let same = same_line in_line.line line (slice_get task.items.now task.done) in_line.next next in
      (few_in place in_line, in_line.may, subst (λ (one : CallLine). IsOfLine one place) same in_line.of)

-- an item that is no line is not under way
pub between_at : (system : SystemSeen) (task : WorkerTask) (at : TaskAt) → has_ended at ≡ false → IsOnWay system at task
    → ((line : CallLine) → slice_get task.items.now task.done ≡ Some (Line line) → ⊥) → IsBetweenItems system task
between_at system task Between going way none = way
between_at system task (Calling call) going way none = absurd (none way.line way.next)
between_at system task (Swapping swap) going way none = absurd (none way.line way.next)
between_at system task Over going way none = absurd (cc)
