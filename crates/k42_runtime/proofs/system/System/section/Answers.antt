use Rattle.std.proofs.Common.{rules, ◌≡◌, ◌+◌, ◌≤◌, ◌++◌, ℕ, List, length, sym, ap, ◌∙◌, subst, arith}
use Rattle.k42_limits.specs.declared.TheConstants.{CALLERS}
use Rattle.k42_kinds.specs.declared.entry.Entry.{Entry}
use Rattle.k42_rule.specs.Finishing.{logged_in}
use Rattle.k42_rule.specs.Sections.{rests_in}
use Rattle.k42_stamp.specs.Lists.{AreLists, IsMergedFrom}
use Rattle.k42_stamp.specs.Merging.{entries_in}
use Rattle.k42_board.specs.Seen.{PassSeen}
use Rattle.k42_runtime.specs.Histories.{MayEnd}
use Rattle.k42_runtime.specs.Sections.{MaySection}
use Rattle.k42_runtime.specs.Systems.{SystemSeen}
use Rattle.k42_runtime.proofs.Closed.{at_rest, few_passes}
use Rattle.k42_runtime.proofs.SectionLists.{is_section, may_again}
use Rattle.k42_runtime.proofs.system.System.section.Goals as goal

pub given_of-first-requires-clause-callers : goal.given_of-first-requires-clause-callers
given_of-first-requires-clause-callers g c κs within =
    few_passes _ (record { sys = c.self.inside.sys; plan = c.self.inside.plan }) c.args.passes.now c.self.invariant
    (subst (λ (s : SystemSeen _). MayEnd s c.args.passes.now) (sym c.self.view_is) c.requires.may_end)

pub overflow_add-first : goal.overflow_add-first
overflow_add-first g c =
    let many : length c.args.passes.now ≤ CALLERS =
    few_passes _ (record { sys = c.self.inside.sys; plan = c.self.inside.plan }) c.args.passes.now c.self.invariant
    (subst (λ (s : SystemSeen _). MayEnd s c.args.passes.now) (sym c.self.view_is) c.requires.may_end) in
    let few : c.given_of-first.result ≤ 4611686018427387904 = omega (arith, many, c.given_of-first.ensures.few) in
    search (rules, few)

pub give_section-requires-clause-may : goal.give_section-requires-clause-may
give_section-requires-clause-may g c κs within = record {
  rest =
      at_rest _ (record { sys = c.self.inside.sys; plan = c.self.inside.plan }) c.args.passes.now c.self.invariant
      (subst (λ (s : SystemSeen _). MayEnd s c.args.passes.now) (sym c.self.view_is) c.requires.may_end);
  keeps = c.requires.keeps;
  even = c.requires.even;
}

pub of-requires-clause-lists : goal.of-requires-clause-lists
of-requires-clause-lists g c =
    let same : logged_in c.give_section.new.logs.items ≡ rests_in c.args.passes.now =
    c.give_section.ensures.logs ∙ (λ j. logged_in (c.in_ok-logs.ensures.items j) ++ rests_in c.args.passes.now) in
    subst AreLists (sym same) c.give_section.ensures.cut.rests

pub of-requires-clause-fits : goal.of-requires-clause-fits
of-requires-clause-fits g c =
    let same : logged_in c.give_section.new.logs.items ≡ rests_in c.args.passes.now =
    c.give_section.ensures.logs ∙ (λ j. logged_in (c.in_ok-logs.ensures.items j) ++ rests_in c.args.passes.now) in
    let many : length c.args.passes.now ≤ CALLERS =
    few_passes _ (record { sys = c.self.inside.sys; plan = c.self.inside.plan }) c.args.passes.now c.self.invariant
    (subst (λ (s : SystemSeen _). MayEnd s c.args.passes.now) (sym c.self.view_is) c.requires.may_end) in
    let kept : entries_in (logged_in c.give_section.new.logs.items) ≡ entries_in (rests_in c.args.passes.now) = ap entries_in same in
    omega (arith, kept, many, c.give_section.ensures.few, c.given_of-first.ensures.few)

pub returns-clause-ok : goal.returns-clause-ok
returns-clause-ok g c =
    let same : logged_in c.give_section.new.logs.items ≡ rests_in c.args.passes.now =
    c.give_section.ensures.logs ∙ (λ j. logged_in (c.in_ok-logs.ensures.items j) ++ rests_in c.args.passes.now) in
    is_section c.args.passes.now c.give_section.new.passes c.of.result (c.given_of-first.result + 1) c.lists_have_a_merge.ensures
    c.sections_merge_to_the_whole.ensures c.give_section.ensures.cut (ap (λ (n : ℕ). n + 1) c.given_of-first.ensures.is)
    (subst (λ (ls : List (List (Entry _ _))). IsMergedFrom (c.given_of-first.result + 1) ls c.of.result) same c.of.ensures) c.give_section.ensures.passes

pub returns-clause-again : goal.returns-clause-again
returns-clause-again g c =
    subst (λ (ps : List (PassSeen _ _ _)). MaySection c.args.self.now ps) (sym c.give_section.ensures.passes) (may_again c.args.self.now c.args.passes.now c.requires)
