use Rattle.std.proofs.Common.{refl, ◌≡◌, ℕ, suc, ◌<◌, List, ◌∷◌, Some, length, sym, ap, ◌∙◌, subst, arith}
use Rattle.std.specs.List.{slice_get}
use Rattle.k42_rule.specs.Finishing.{AreAtRest, AreLastLists, lists_in}
use Rattle.k42_board.specs.Plan.{layouts_on}
use Rattle.k42_board.specs.Seen.{SysSeen, PassSeen}
use Rattle.k42_board.specs.Views.{pass_in}
use mathlib.Core.Option.{some}
use Rattle.k42_rule.proofs.Ending.{are_last, first_removed, all_views}
use Rattle.k42_rule.proofs.sys.Sys.finish.Goals as goal

-- the first pass was taken off the list
parted : {L P O R : Type 0} (sys inside : SysSeen L) (passes rest : List (PassSeen P O R)) (first : PassSeen P O R) → inside ≡ sys → AreAtRest sys passes
    → 0 < length inside.callers → (0 < length passes → passes ≡ first ∷ rest)
    → (passes ≡ first ∷ rest) × (first.table ≡ inside.table) × ((i : ℕ) (x : PassSeen P O R) → slice_get rest i ≡ Some x → x.table ≡ inside.table)
parted {L} {P} {O} {R} sys inside passes rest first is at_rest lt whole =
    let many = at_rest.many in let same = ap (λ (s : SysSeen L). length s.callers) is in
    let all = whole (omega (arith, many, same, lt)) in (
      all,
      (at_rest.each 0 first (ap (λ (l : List (PassSeen P O R)). slice_get l 0) all)).ours ∙ sym (ap (λ (s : SysSeen L). s.table) is),
      λ i x e. (at_rest.each (suc i) x (ap (λ (l : List (PassSeen P O R)). slice_get l (suc i)) all ∙ e)).ours ∙ sym (ap (λ (s : SysSeen L). s.table) is),
    )

pub gather-requires-clause-ours : goal.gather-requires-clause-ours
gather-requires-clause-ours g c κs within =
    let parts = parted c.args.self _ c.args.passes.items c.remove.new.self.items c.remove.result c.self.view_is c.requires c.self.invariant.6
    (λ lt. first_removed _ _ _ lt c.remove.ensures.value c.remove.ensures.items) in
    (ap (λ (p : PassSeen _ _ _). p.table) c.seat.view_is ∙ parts.1, c.self.invariant.0)

pub gather-requires-clause-theirs : goal.gather-requires-clause-theirs
gather-requires-clause-theirs g c κs within =
    let parts = parted c.args.self _ c.args.passes.items c.remove.new.self.items c.remove.result c.self.view_is c.requires c.self.invariant.6
    (λ lt. first_removed _ _ _ lt c.remove.ensures.value c.remove.ensures.items) in
    λ i x e. parts.2 i x e

pub close-requires-after_bounds : goal.close-requires-after_bounds
close-requires-after_bounds g c κs within =
    let parts = parted c.args.self _ c.args.passes.items c.remove.new.self.items c.remove.result c.self.view_is c.requires c.self.invariant.6
    (λ lt. first_removed _ _ _ lt c.remove.ensures.value c.remove.ensures.items) in
    c.gather.ensures.ours.0 ∙ ap (λ (p : PassSeen _ _ _). p.table) c.seat.view_is ∙ parts.1

pub returns : goal.returns
returns g c =
    let parts = parted c.args.self _ c.args.passes.items c.remove.new.self.items c.remove.result c.self.view_is c.requires c.self.invariant.6
    (λ lt. first_removed _ _ _ lt c.remove.ensures.value c.remove.ensures.items) in
    let mirrors = c.seat.invariant.0 in let own = c.seat.inside.seat.me in
    let same : pass_in own.0 ≡ c.remove.result.view = ap (λ (p : PassSeen _ _ _). p.view) c.seat.view_is in
    let crew = all_views c.args.passes.items c.remove.new.self.items c.remove.result own c.gather.new.seat.me parts.0 mirrors.seat same c.gather.ensures.crew in
    let closed = c.close.ensures in
    subst
    (λ (s : SysSeen _). AreLastLists
    (layouts_on g.L.Kind.object g.L.Layout.shapes g.L.Layout.tag_of g.L.Layout.ways g.L.Layout.whole g.L.Layout.serves g.L.Layout.admitted g.L.Layout.act_of s.procs s.callers)
    s.layouts (length s.callers) (lists_in c.args.passes.items))
    c.self.view_is
    (are_last _ _ _ c.args.passes.items (subst (λ (s : SysSeen _). AreAtRest s c.args.passes.items) (sym c.self.view_is) c.requires) c.gather.new.seat.id closed.0
    (closed.1.0, closed.1.1 ∙ ap some crew) (lists_in c.args.passes.items) refl)
