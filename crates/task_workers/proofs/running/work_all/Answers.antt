use Rattle.std.proofs.Common.{◌≡◌, ◌∙◌, false, List, length, map, sym, ap, subst, arith}
use Rattle.std.proofs.lemmas.List.{length-map}
use Rattle.co_system.specs.Systems.{SystemPass}
use Rattle.k42_workers.specs.Passes.{HaveWorked}
use Rattle.k42_workers.proofs.Ended.{whole}
use Rattle.k42_workers.proofs.Halved.{where_ok}
use Rattle.task_workers.specs.Rounds.{own_of, owns_from}
use Rattle.task_workers.specs.declared.tasks.WorkerTask.{WorkerTask}
use Rattle.task_workers.proofs.Crewed.{have_worked, many_tasks}
use Rattle.task_workers.proofs.running.work_all.Goals as goal

pub run_rounds-requires : goal.run_rounds-requires
run_rounds-requires g c = rw c.as_mut_slice.ensures.value (c.in_ok-tasks.ensures.in_run false)

pub returns-clause-many : goal.returns-clause-many
returns-clause-many g c =
    let made = c.in_ok-tasks.tasks in let new = c.run_rounds.new.tasks in let workers = c.args.workers.now in
    let begun : map own_of made.items ≡ owns_from 0 workers = c.in_ok-tasks.ensures.own in
    let own : map own_of new ≡ owns_from 0 workers = c.run_rounds.ensures.own ∙ ap (map own_of) c.as_mut_slice.ensures.value ∙ begun in
    let first = many_tasks workers made.items begun in let last = many_tasks workers new own in
    let same = whole new made.items made.len (omega (arith, first, last, made.ok.0)) (omega (arith, made.ok.0)) in
    where_ok (λ worked. worked.items ≡ map (λ (task : WorkerTask). task.pass) new) (λ worked. length worked.items ≡ length c.args.passes.items)
    (λ worked is. ap length is ∙ length-map new (λ (task : WorkerTask). task.pass) ∙ last ∙ sym c.requires.many) c.passes_of.result (rw same at c.passes_of.ensures)

pub returns-clause-worked : goal.returns-clause-worked
returns-clause-worked g c =
    let system = c.args.system.now in
    let made = c.in_ok-tasks.tasks in let new = c.run_rounds.new.tasks in let workers = c.args.workers.now in
    let begun : map own_of made.items ≡ owns_from 0 workers = c.in_ok-tasks.ensures.own in
    let own : map own_of new ≡ owns_from 0 workers = c.run_rounds.ensures.own ∙ ap (map own_of) c.as_mut_slice.ensures.value ∙ begun in
    let first = many_tasks workers made.items begun in let last = many_tasks workers new own in
    let same = whole new made.items made.len (omega (arith, first, last, made.ok.0)) (omega (arith, made.ok.0)) in
    where_ok (λ worked. worked.items ≡ map (λ (task : WorkerTask). task.pass) new) (λ worked. HaveWorked system 0 workers worked.items)
    (λ worked is. subst (λ (passes : List SystemPass). HaveWorked system 0 workers passes) (sym is)
    (have_worked system 0 workers new own c.in_ok-run_rounds.ensures.in_run c.in_ok-run_rounds.ensures.ended))
    c.passes_of.result (rw same at c.passes_of.ensures)
