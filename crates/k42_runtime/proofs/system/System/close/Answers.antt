use Rattle.std.proofs.Common.{◌≡◌, ◌++◌, List, length, sym, ap, ◌∙◌, subst, arith}
use Rattle.k42_rule.specs.Finishing.{AreAtRest, AreLastLists, kept_in, lists_in, logged_in, with_none_kept}
use Rattle.k42_rule.proofs.GivenLists.{given_rest, given_lists, all_kept}
use Rattle.k42_stamp.specs.Lists.{AreLists, IsMerged}
use Rattle.k42_stamp.specs.Merging.{entries_in}
use Rattle.k42_board.specs.Seen.{PassSeen}
use Rattle.k42_runtime.specs.Histories.{MayEnd}
use Rattle.k42_runtime.specs.Systems.{SystemSeen}
use Rattle.k42_runtime.proofs.Closed.{TraceLaw, at_rest, few_passes, come_back, lists_are, closed}
use Rattle.std.proofs.Common.{ℕ}
use Rattle.k42_stamp.specs.Layouts.{layouts_with}
use Rattle.k42_runtime.proofs.Traces.{homes_in}
use Rattle.k42_runtime.proofs.system.System.close.Goals as goal

pub finish-requires-after_bounds : goal.finish-requires-after_bounds
finish-requires-after_bounds g c κs within =
    let system : SystemSeen _ = record { sys = c.self.inside.sys; plan = c.self.inside.plan } in
    let passes = c.args.passes.items in
    let F = layouts_with g.L.Kind.object g.L.Layout.shapes g.L.Layout.tag_of g.L.Layout.ways g.L.Layout.whole g.L.Layout.serves g.L.Layout.admitted g.L.Layout.act_of c.self.inside.sys.procs in
    let may : MayEnd system passes = subst (λ s. MayEnd s passes) (sym c.self.view_is) c.requires.may_end in
    let given : c.give_logs.new.passes ≡ with_none_kept passes = c.give_logs.ensures.passes ∙ ap (λ (ps : List (PassSeen _ _ _)). with_none_kept ps) c.as_mut_slice.ensures.value in
    subst (AreAtRest system.sys) (sym (come_back passes c.give_logs.new.passes c.args.passes.len given c.args.passes.ok.0))
    (given_rest system.sys passes (at_rest _ system passes c.self.invariant may))

pub of-journal-requires-clause-lists : goal.of-journal-requires-clause-lists
of-journal-requires-clause-lists g c =
    let system : SystemSeen _ = record { sys = c.self.inside.sys; plan = c.self.inside.plan } in
    let passes = c.args.passes.items in
    let F = layouts_with g.L.Kind.object g.L.Layout.shapes g.L.Layout.tag_of g.L.Layout.ways g.L.Layout.whole g.L.Layout.serves g.L.Layout.admitted g.L.Layout.act_of c.self.inside.sys.procs in
    let given : c.give_logs.new.passes ≡ with_none_kept passes = c.give_logs.ensures.passes ∙ ap (λ (ps : List (PassSeen _ _ _)). with_none_kept ps) c.as_mut_slice.ensures.value in
    let drawn =
    ap (λ (ps : List (PassSeen _ _ _)). lists_in ps) (come_back passes c.give_logs.new.passes c.args.passes.len given c.args.passes.ok.0) ∙ given_lists passes in
    let same : logged_in c.give_logs.new.logs.items ≡ lists_in passes =
    c.give_logs.ensures.logs
    ∙ (λ j. logged_in (c.in-Ok.ensures.items j) ++ kept_in (c.as_mut_slice.ensures.value j))
    ∙ all_kept passes c.requires.all in
    let last : AreLastLists (F (homes_in system)) system.sys.layouts (length system.sys.callers) (lists_in passes) =
    subst (AreLastLists (F (homes_in system)) system.sys.layouts (length system.sys.callers)) drawn c.finish.ensures in
    subst AreLists (sym same) (lists_are (F (homes_in system)) system.sys.layouts (length system.sys.callers) (lists_in passes) last)

pub of-journal-requires-clause-fits : goal.of-journal-requires-clause-fits
of-journal-requires-clause-fits g c =
    let system : SystemSeen _ = record { sys = c.self.inside.sys; plan = c.self.inside.plan } in
    let passes = c.args.passes.items in
    let F = layouts_with g.L.Kind.object g.L.Layout.shapes g.L.Layout.tag_of g.L.Layout.ways g.L.Layout.whole g.L.Layout.serves g.L.Layout.admitted g.L.Layout.act_of c.self.inside.sys.procs in
    let may : MayEnd system passes = subst (λ s. MayEnd s passes) (sym c.self.view_is) c.requires.may_end in
    let same : logged_in c.give_logs.new.logs.items ≡ kept_in c.as_mut_slice.result.now =
    c.give_logs.ensures.logs ∙ ap (λ logs. logged_in logs ++ kept_in c.as_mut_slice.result.now) c.in-Ok.ensures.items in
    let kept = ap entries_in same in
    let many = ap (λ (ps : List (PassSeen _ _ _)). length ps) c.as_mut_slice.ensures.value in
    omega (arith, kept, many, c.give_logs.ensures.few, few_passes _ system passes c.self.invariant may)

pub returns-clause-ok : goal.returns-clause-ok
returns-clause-ok g c =
    let system : SystemSeen _ = record { sys = c.self.inside.sys; plan = c.self.inside.plan } in
    let passes = c.args.passes.items in
    let F = layouts_with g.L.Kind.object g.L.Layout.shapes g.L.Layout.tag_of g.L.Layout.ways g.L.Layout.whole g.L.Layout.serves g.L.Layout.admitted g.L.Layout.act_of c.self.inside.sys.procs in
    let given : c.give_logs.new.passes ≡ with_none_kept passes = c.give_logs.ensures.passes ∙ ap (λ (ps : List (PassSeen _ _ _)). with_none_kept ps) c.as_mut_slice.ensures.value in
    let drawn =
    ap (λ (ps : List (PassSeen _ _ _)). lists_in ps) (come_back passes c.give_logs.new.passes c.args.passes.len given c.args.passes.ok.0) ∙ given_lists passes in
    let same : logged_in c.give_logs.new.logs.items ≡ lists_in passes =
    c.give_logs.ensures.logs
    ∙ (λ j. logged_in (c.in-Ok.ensures.items j) ++ kept_in (c.as_mut_slice.ensures.value j))
    ∙ all_kept passes c.requires.all in
    let last : AreLastLists (F (homes_in system)) system.sys.layouts (length system.sys.callers) (lists_in passes) =
    subst (AreLastLists (F (homes_in system)) system.sys.layouts (length system.sys.callers)) drawn c.finish.ensures in
    let merged : IsMerged (lists_in passes) c.of-journal.result = subst (λ ls. IsMerged ls c.of-journal.result) same c.of-journal.ensures in
    rw (← c.self.view_is)
    (closed F _ system c.self.invariant (subst (λ (n : ℕ). TraceLaw (layouts_with g.L.Kind.object g.L.Layout.shapes g.L.Layout.tag_of g.L.Layout.ways g.L.Layout.whole g.L.Layout.serves g.L.Layout.admitted g.L.Layout.act_of n) n) c.procs.ensures.is c.trace_at_rest_is_a_history.ensures) (lists_in passes) c.of-journal.result last merged)
