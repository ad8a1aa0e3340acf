use Rattle.std.proofs.Common.{rules}
use Rattle.k42_crews.specs.Ready.{AreAll}
use Rattle.k42_runtime.specs.Systems.{IsPlanned, is_live_by}
use Rattle.k42_crews.proofs.FreePasses.{may_close}
use Rattle.k42_crews.proofs.crews.close.Goals as goal

pub close-requires-after_bounds : goal.close-requires-after_bounds
close-requires-after_bounds g c κs within =
    let all : AreAll c.args.system c.args.passes.items = search rules in
    let planned : IsPlanned (is_live_by g.L.Layout.shapes g.L.Layout.tag_of) c.args.system = search rules in
    may_close _ c.args.system c.args.passes.items planned c.requires.keeps c.requires.free all
