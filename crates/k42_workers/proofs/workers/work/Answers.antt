use Rattle.std.proofs.Common.{◌≡◌, length, refl, add-one}
use Rattle.std.specs.Prelude.{Some, slice_get}
use Rattle.std.proofs.lemmas.Option.{slice_get_read}
use Rattle.k42_workers.proofs.Answered.{at_start, may_follow, at_next}
use Rattle.k42_workers.proofs.workers.work.Goals as goal

pub loop-item-init : goal.loop-item-init
loop-item-init g c = at_start c.args.system.now c.args.number c.args.worker.now c.args.pass.now c.requires.fresh c.requires.ready

pub follow-requires-clause-may : goal.follow-requires-clause-may
follow-requires-clause-may g c =
    let l = c.loop-item in
    let items = c.as_slice-item-items in
    let read : slice_get items.result.now l.item-index ≡ Some c.item-item.result = slice_get_read items.result.now (length items.result.now) l.item-index c.item-item.result refl c.loop-item-test.true c.item-item.is in
    may_follow c.args.system.now c.args.number c.args.worker.now l.item-index l.inside l.pass l.invariant c.item-item.result (rw (← items.ensures) read) c.requires.ready

pub loop-item-preserved : goal.loop-item-preserved
loop-item-preserved g c =
    let l = c.loop-item in
    let items = c.as_slice-item-items in
    let read : slice_get items.result.now l.item-index ≡ Some c.item-item.result = slice_get_read items.result.now (length items.result.now) l.item-index c.item-item.result refl c.loop-item-test.true c.item-item.is in
    let did = c.in-Ok.ensures in
    rw add-one (at_next c.args.system.now c.args.number c.args.worker.now l.item-index l.inside l.pass l.invariant c.item-item.result c.in-Ok.after c.follow.new.pass (rw (← items.ensures) read) did.here did.between did.caller did.follows)
