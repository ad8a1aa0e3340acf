use Rattle.std.proofs.Common.{◌+◌, ◌/◌, length, take, drop, ◌++◌, ◌∙◌}
use Rattle.k42_workers.specs.Passes.{HasWorked, HaveWorked}
use Rattle.k42_workers.proofs.Halved.{where_both, stays_done, pair_both}
use Rattle.k42_workers.proofs.workers.+crew.Goals as goal

pub work_all-returns-clause-worked : goal.work_all-returns-clause-worked
work_all-returns-clause-worked g t c =
    let system = c.args.system.now in
    let first = c.args.first in
    let workers = c.args.workers.now in
    let n = length workers / 2 in
    let halves = c.work_halves-one in
    let front = halves.new.front in
    let back = halves.new.back in
    let done = halves.ensures in
    let left = HaveWorked system first (take n workers) front in
    where_both halves.result.1 left (HaveWorked system (first + n) (drop n workers) back) (HaveWorked system first workers (front ++ back))
    (pair_both (HasWorked system) first n workers front back (done.front_many ∙ c.split_at_mut-front.ensures.front_len))
    (stays_done left halves.result.0 halves.result.1 c.in_ok-one.field-0 c.in_ok-one.was (rw c.split_at.ensures.front at done.front))
    (rw c.split_at.ensures.back at done.back)
