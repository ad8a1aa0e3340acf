use Rattle.std.proofs.Common.{◌≡◌, length, ◌∙◌, ap, arith}
use Rattle.k42_workers.specs.Passes.{HaveWorked}
use Rattle.k42_workers.proofs.Ended.{whole}
use Rattle.k42_workers.proofs.running.run_script.Goals as goal

pub end_run-requires-clause-worked : goal.end_run-requires-clause-worked
end_run-requires-clause-worked g c =
    let made = c.in_ok-system in
    let new = c.work_all.new.passes in
    let same : length new ≡ length made.passes.items = c.work_all.ensures.many ∙ ap length c.as_mut_slice.ensures.value in
    let worked : HaveWorked made.system 0 c.args.script.now.workers new = rw c.as_slice.ensures at c.in_ok-work_all.ensures.worked in
    rw (whole new made.passes.items made.passes.len (omega (arith, same, made.passes.ok.0)) (omega (arith, made.passes.ok.0))) worked
