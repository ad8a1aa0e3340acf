use Rattle.std.proofs.Common.{◌≡◌, ◌+◌, ◌<◌, length, get_or, subst, arith}
use Rattle.std.specs.Prelude.{Some, slice_get, slice_set}
use Rattle.std.proofs.lemmas.Option.{slice_get-get_or}
use Rattle.k42_workers.specs.Passes.{IsFresh, HasWorked, HaveWorked}
use Rattle.k42_workers.proofs.Halved.{where_done, pair_alone, some_there}
use Rattle.k42_workers.proofs.workers.work_alone.Goals as goal

pub work-requires-clause-fresh : goal.work-requires-clause-fresh
work-requires-clause-fresh g c =
    let may = c.requires.may in
    let some : 0 < length c.args.workers.now = some_there c.args.workers.now c.is_empty.result c.is_empty.ensures c.if-is_empty.false in
    let worker = c.index-workers-0.result in
    let pass = c.index-passes-0.result in
    let zeroth : c.args.number + 0 ≡ c.args.number = omega arith in
    let fresh = may.fresh 0 (get_or c.args.workers.now 0 worker) (get_or c.args.passes.now 0 pass) (slice_get-get_or c.args.workers.now 0 worker some) (slice_get-get_or c.args.passes.now 0 pass (omega (arith, some, may.many))) in
    subst (λ n. IsFresh c.args.system.now n worker (get_or c.args.passes.now 0 pass)) zeroth (rw (c.index-workers-0.is) fresh)

pub returns-clause-worked : goal.returns-clause-worked
returns-clause-worked g c =
    let some : 0 < length c.args.workers.now = some_there c.args.workers.now c.is_empty.result c.is_empty.ensures c.if-is_empty.false in
    let worker = c.index-workers-0.result in
    let found : slice_get c.args.workers.now 0 ≡ Some worker = rw (c.index-workers-0.is) (slice_get-get_or c.args.workers.now 0 worker some) in
    where_done c.work.result (HasWorked c.args.system.now c.args.number worker c.work.new.pass) (HaveWorked c.args.system.now c.args.number c.args.workers.now (slice_set c.args.passes.now 0 c.work.new.pass))
    (λ done. pair_alone (HasWorked c.args.system.now) c.args.number c.args.workers.now c.args.passes.now worker c.work.new.pass c.requires.few found done) c.work.ensures.worked
