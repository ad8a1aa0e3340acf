use Rattle.std.proofs.Common.{◌≡◌, ℕ, List, Option, ◌++◌, length, take, ◌∙◌, subst}
use Rattle.k42_board.specs.Noting.{notes_due}
use Rattle.k42_board.specs.Steps.{Always}
use Rattle.k42_board.specs.declared.view.Row.{Row}
use Rattle.k42_quiesce.specs.Reclaiming.{Reclaims, AreRowsFreed}
use Rattle.k42_runtime.specs.Reclaims.{with_rows}
use Rattle.k42_runtime.specs.Systems.{SystemSeen}
use Rattle.k42_runtime.proofs.RowsReclaimed.{serves_all, notes_all, grows_graced}
use Rattle.k42_board.specs.Plan.{layouts_on}
use Rattle.k42_runtime.proofs.system.System.reclaim.Goals as goal

pub returns-clause-reclaimed : goal.returns-clause-reclaimed
returns-clause-reclaimed g c =
    let old = c.args.pass.now in let mid = c.collect.new.pass in let w = c.grace.new.pass.view in let new = c.reclaim.new.pass in
    let more = c.collect.ensures.collected.0 in let collected = c.collect.ensures.collected.2 in let graced = c.grace.ensures.graced in
    let F = layouts_on g.L.Kind.object g.L.Layout.shapes g.L.Layout.tag_of g.L.Layout.ways g.L.Layout.whole g.L.Layout.serves g.L.Layout.admitted g.L.Layout.act_of c.self.inside.sys.procs c.self.inside.sys.callers in let declared = c.self.inside.sys.layouts in
    let seat : new.seat ≡ old.seat = c.reclaim.ensures.same.seat ∙ c.grace.ensures.same.seat ∙ collected.seat in
    let noted : w.visitor.noted ≡ notes_due (with_rows more old.view) = notes_all F declared mid.seat old mid more w collected graced in
    let rows : take w.granted w.rows ≡ old.view.rows ++ more = serves_all F declared mid.seat old mid more w collected graced in
    let freed : Reclaims F.procs (length declared) (notes_due (with_rows more old.view)) w.log new.view.log c.reclaim.result =
    subst (λ (noted : List (Option ℕ)). Reclaims F.procs (length declared) noted w.log new.view.log c.reclaim.result) noted c.reclaim.ensures.freed in
    record {
      collected = more;
      popped = c.reclaim.ensures.same.popped ∙ c.grace.ensures.same.popped ∙ collected.popped;
      pushed = c.reclaim.ensures.same.pushed ∙ c.grace.ensures.same.pushed ∙ collected.pushed;
      log = w.log;
      graced = grows_graced F declared mid.seat old mid more w collected graced;
      freed =
          subst (λ (x : SystemSeen _). Reclaims x.sys.procs (length x.sys.layouts) (notes_due (with_rows more old.view)) w.log new.view.log c.reclaim.result) c.self.view_is
          freed;
      rows =
          subst (λ (x : SystemSeen _). Always (layouts_on g.L.Kind.object g.L.Layout.shapes g.L.Layout.tag_of g.L.Layout.ways g.L.Layout.whole g.L.Layout.serves g.L.Layout.admitted g.L.Layout.act_of x.sys.procs x.sys.callers) x.sys.layouts old.seat new.view (AreRowsFreed (old.view.rows ++ more))) c.self.view_is
          (subst (λ (z : ℕ × List Row). Always F declared z.0 new.view (AreRowsFreed z.1)) (λ j. (seat j, rows j)) c.reclaim.ensures.rows);
    }
