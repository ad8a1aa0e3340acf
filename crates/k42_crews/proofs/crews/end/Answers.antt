use Rattle.std.proofs.Common.{rules}
use Rattle.k42_crews.specs.Ready.{AreAll}
use Rattle.k42_crews.proofs.FreePasses.{may_end}
use Rattle.k42_crews.proofs.crews.end.Goals as goal

pub end-requires-after_bounds : goal.end-requires-after_bounds
end-requires-after_bounds g c κs within =
    let all : AreAll c.args.system c.args.passes.items = search rules in
    may_end c.args.system c.args.passes.items c.requires all
