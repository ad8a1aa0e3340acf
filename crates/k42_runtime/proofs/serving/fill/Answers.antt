use Rattle.std.proofs.Common.{◌<◌, ◌≤◌, arith}
use Rattle.k42_board.specs.Plan.{layouts_on}
use Rattle.k42_runtime.proofs.CallInside.{led_there, led_elsewhere, found_held, gave_way, on_err}
use Rattle.k42_runtime.proofs.serving.fill.Goals as goal

pub returns-in-Filled-Installed-clause-went : goal.returns-in-Filled-Installed-clause-went
returns-in-Filled-Installed-clause-went g c =
    led_there (layouts_on g.L.Kind.object g.L.Layout.shapes g.L.Layout.tag_of g.L.Layout.ways g.L.Layout.whole g.L.Layout.serves g.L.Layout.admitted g.L.Layout.act_of c.args.sys.now.procs c.args.sys.now.callers) c.args.sys.now.layouts c.args.pass.now.seat c.args.object c.args.pass.now.view c.try_miss.new.pass.view
    c.in_ok-try_miss.field-0 c.in-Filled-Installed.field-0 _ c.in-Filled-Installed.is c.in-Filled-Installed.field-0-is
    c.in_ok-try_miss.ensures.filled c.in_ok-try_miss.ensures.there

pub returns-in-Filled-Elsewhere-clause-went : goal.returns-in-Filled-Elsewhere-clause-went
returns-in-Filled-Elsewhere-clause-went g c =
    led_elsewhere (layouts_on g.L.Kind.object g.L.Layout.shapes g.L.Layout.tag_of g.L.Layout.ways g.L.Layout.whole g.L.Layout.serves g.L.Layout.admitted g.L.Layout.act_of c.args.sys.now.procs c.args.sys.now.callers) c.args.sys.now.layouts c.args.pass.now.seat c.args.object c.args.pass.now.view c.try_miss.new.pass.view
    c.in_ok-try_miss.field-0 c.in-Filled-Elsewhere.field-0 c.in-Filled-Elsewhere.word c.in-Filled-Elsewhere.is c.in-Filled-Elsewhere.field-0-is
    c.in_ok-try_miss.ensures.filled c.in_ok-try_miss.ensures.there

pub returns-in-Held-clause-went : goal.returns-in-Held-clause-went
returns-in-Held-clause-went g c =
    let few : c.procs-procs.result ≤ 8 = c.procs-procs.ensures.few in let is = c.procs-procs.ensures.is in let lt = c.requires.ours.proc in
    let there : c.args.pass.now.view.turn.proc < 8 = omega (arith, few, is, lt) in
    found_held c.args.object c.args.pass.now.view c.try_miss.new.pass.view c.in_ok-try_miss.field-0 c.in-Held.holder there c.in-Held.is c.in_ok-try_miss.ensures.held

pub returns-in_err-try_miss-clause-memory : goal.returns-in_err-try_miss-clause-memory
returns-in_err-try_miss-clause-memory g c =
    on_err c.from_residual.result (gave_way c.args.object c.args.pass.now.view c.try_miss.new.pass.view c.in_err-try_miss.ensures.memory)
