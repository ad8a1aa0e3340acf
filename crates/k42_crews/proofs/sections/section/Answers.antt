use Rattle.std.proofs.Common.{rules, ◌≡◌, ◌∙◌, sym}
use Rattle.k42_board.specs.declared.keep.Keep.TheVariants.{Sections}
use Rattle.k42_rule.specs.Sections.{AreEven}
use Rattle.k42_crews.specs.Ready.{AreAll}
use Rattle.k42_crews.proofs.FreePasses.{give_again, may_section, section_callers}
use Rattle.k42_crews.proofs.sections.section.Goals as goal

pub section-requires : goal.section-requires
section-requires g c =
    let keeps : c.keep.result ≡ Sections = search rules in
    let all : AreAll c.args.system.now c.args.passes.now = search rules in
    let even : AreEven c.args.passes.now = search rules in
    let may = may_section c.args.system.now c.args.passes.now (sym c.keep.ensures.table ∙ keeps) c.requires all even in search (rules, may)

pub returns-clause-callers : goal.returns-clause-callers
returns-clause-callers g c = section_callers c.args.system.now c.args.passes.now c.section.new.passes c.in_ok-section.field-0 c.in_ok-section.ensures.ok

pub returns-clause-again : goal.returns-clause-again
returns-clause-again g c =
    let keeps : c.keep.result ≡ Sections = search rules in
    let all : AreAll c.args.system.now c.args.passes.now = search rules in
    let even : AreEven c.args.passes.now = search rules in
    give_again c.args.system.now c.args.passes.now c.section.new.passes c.in_ok-section.field-0 c.in_ok-section.ensures.ok c.section.ensures.again
    (record { all = all; keeps = sym c.keep.ensures.plan ∙ keeps; even = even })
