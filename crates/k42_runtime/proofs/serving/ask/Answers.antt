use Rattle.k42_board.specs.Plan.{layouts_on}
use Rattle.k42_runtime.proofs.CallInside.{kept_out, let_inside}
use Rattle.k42_runtime.proofs.serving.ask.Goals as goal

pub returns-in-Admitted-clause-went : goal.returns-in-Admitted-clause-went
returns-in-Admitted-clause-went g c =
    let_inside (layouts_on g.L.Kind.object g.L.Layout.shapes g.L.Layout.tag_of g.L.Layout.ways g.L.Layout.whole g.L.Layout.serves g.L.Layout.admitted g.L.Layout.act_of c.args.sys.now.procs c.args.sys.now.callers) c.args.sys.now.layouts c.args.pass.now.seat c.args.object c.args.pass.now.view c.knock.new.pass.view
    _ c.in-Admitted.ensures.knocked

pub returns-in-Blocked-clause-went : goal.returns-in-Blocked-clause-went
returns-in-Blocked-clause-went g c =
    kept_out (layouts_on g.L.Kind.object g.L.Layout.shapes g.L.Layout.tag_of g.L.Layout.ways g.L.Layout.whole g.L.Layout.serves g.L.Layout.admitted g.L.Layout.act_of c.args.sys.now.procs c.args.sys.now.callers) c.args.sys.now.layouts c.args.pass.now.seat c.args.object c.args.pass.now.view c.knock.new.pass.view
    c.in-Blocked.ensures.knocked
