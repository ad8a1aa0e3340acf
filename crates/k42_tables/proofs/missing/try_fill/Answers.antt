use Rattle.std.proofs.Common.{◌≡◌, ◌∙◌, arith}
use Rattle.k42_board.specs.Plan.{layouts_on}
use Rattle.k42_tables.proofs.Missed.{IsTried, tried_at, has_filled, installed_served}
use Rattle.k42_tables.proofs.NamedCell.{IsLearned, learned_by, shape_learned, in_its_row, may_install}
use Rattle.k42_tables.proofs.missing.try_fill.Goals as goal

pub represent-requires-clause-row : goal.represent-requires-clause-row
represent-requires-clause-row g c κs within =
    let F = layouts_on g.L.Kind.object g.L.Layout.shapes g.L.Layout.tag_of g.L.Layout.ways g.L.Layout.whole g.L.Layout.serves g.L.Layout.admitted g.L.Layout.act_of c.args.sys.now.procs c.args.sys.now.callers in
    let alike = (g.met.L.Layout g.world.𝓛 g.world.𝓜 g.world.𝓡 ((λ s x. x), (λ x. x), (λ x. x), λ x. x)).alike in
    let v = c.args.pass.now.view in let declared = c.args.sys.now.layouts in let root = c.root_step-word in let layout = c.with_tag-layout in
    let is : IsLearned F declared c.args.object root.result v layout.result =
    learned_by F declared c.args.object root.result v layout.result alike root.ensures.takes.finds c.declared.result c.declared.ensures.is layout.ensures.same
    c.layout_in-tag.result layout.ensures.tagged c.layout_in-tag.ensures.is c.args.sys.now.shapes c.requires.ours.shapes c.declared.ensures.shapes in
    in_its_row F declared c.args.object root.result v layout.result is c.incarnation_in-row.result c.processor.result c.cell_for-place.result c.cell_number-cell.result c.lock-holder.result c.shape.result
    root.new.pass.view c.lock-holder.new.pass.view c.requires.may.missed c.requires.ours.proc c.incarnation_in-row.ensures c.shape.ensures c.processor.ensures.is c.cell_for-place.ensures
    c.cell_number-cell.ensures root.ensures.takes.knows c.lock-holder.ensures.takes.knows

tried : (g : _) (c : goal.After-filled_at g) → IsTried c.args.object c.root_step-word.result c.incarnation_in-row.result c.cell_for-place.result c.args.pass.now.view c.represent.new.pass.view
tried g c =
    let F = layouts_on g.L.Kind.object g.L.Layout.shapes g.L.Layout.tag_of g.L.Layout.ways g.L.Layout.whole g.L.Layout.serves g.L.Layout.admitted g.L.Layout.act_of c.args.sys.now.procs c.args.sys.now.callers in
    let alike = (g.met.L.Layout g.world.𝓛 g.world.𝓜 g.world.𝓡 ((λ s x. x), (λ x. x), (λ x. x), λ x. x)).alike in
    let v = c.args.pass.now.view in let declared = c.args.sys.now.layouts in let root = c.root_step-word in let layout = c.with_tag-layout in
    let free : c.lock-holder.result ≡ 0 = (let not = c.if-holder-gt0.false in omega (arith, not)) in
    let is : IsLearned F declared c.args.object root.result v layout.result =
    learned_by F declared c.args.object root.result v layout.result alike root.ensures.takes.finds c.declared.result c.declared.ensures.is layout.ensures.same
    c.layout_in-tag.result layout.ensures.tagged c.layout_in-tag.ensures.is c.args.sys.now.shapes c.requires.ours.shapes c.declared.ensures.shapes in
    tried_at c.args.object root.result c.incarnation_in-row.result c.processor.result c.cell_for-place.result c.cell_number-cell.result c.lock-holder.result c.shape.result
    v root.new.pass.view c.lock-holder.new.pass.view c.represent.new.pass.view
    root.ensures.takes.finds root.ensures.takes.knows c.incarnation_in-row.ensures (c.shape.ensures ∙ shape_learned F declared c.args.object root.result v layout.result is) c.processor.ensures.is
    c.cell_for-place.ensures c.cell_number-cell.ensures c.lock-holder.ensures.takes.knows free c.requires.may.free c.in-Ok.ensures.made

pub install_step-found-requires-after_bounds : goal.install_step-found-requires-after_bounds
install_step-found-requires-after_bounds g c κs within =
    let F = layouts_on g.L.Kind.object g.L.Layout.shapes g.L.Layout.tag_of g.L.Layout.ways g.L.Layout.whole g.L.Layout.serves g.L.Layout.admitted g.L.Layout.act_of c.args.sys.now.procs c.args.sys.now.callers in
    let alike = (g.met.L.Layout g.world.𝓛 g.world.𝓜 g.world.𝓡 ((λ s x. x), (λ x. x), (λ x. x), λ x. x)).alike in
    let v = c.args.pass.now.view in let declared = c.args.sys.now.layouts in let root = c.root_step-word in let layout = c.with_tag-layout in
    let free : c.lock-holder.result ≡ 0 = (let not = c.if-holder-gt0.false in omega (arith, not)) in
    let is : IsLearned F declared c.args.object root.result v layout.result =
    learned_by F declared c.args.object root.result v layout.result alike root.ensures.takes.finds c.declared.result c.declared.ensures.is layout.ensures.same
    c.layout_in-tag.result layout.ensures.tagged c.layout_in-tag.ensures.is c.args.sys.now.shapes c.requires.ours.shapes c.declared.ensures.shapes in
    record {
      ours = c.represent.ensures.same.table ∙ c.lock-holder.ensures.same.table ∙ root.ensures.same.table ∙ c.requires.ours.table;
      may =
          may_install _ c.args.object root.result c.incarnation_in-row.result c.cell_for-place.result v c.represent.new.pass.view c.requires.may
          (tried_at c.args.object root.result c.incarnation_in-row.result c.processor.result c.cell_for-place.result c.cell_number-cell.result c.lock-holder.result c.shape.result
          v root.new.pass.view c.lock-holder.new.pass.view c.represent.new.pass.view
          root.ensures.takes.finds root.ensures.takes.knows c.incarnation_in-row.ensures (c.shape.ensures ∙ shape_learned F declared c.args.object root.result v layout.result is) c.processor.ensures.is
          c.cell_for-place.ensures c.cell_number-cell.ensures c.lock-holder.ensures.takes.knows free c.requires.may.free c.in-Ok.ensures.made);
    }

pub returns-clause-filled : goal.returns-clause-filled
returns-clause-filled g c =
    let seat = c.represent.ensures.same.seat ∙ c.lock-holder.ensures.same.seat ∙ c.root_step-word.ensures.same.seat in
    has_filled _ _ c.args.pass.now.seat c.args.object c.root_step-word.result c.incarnation_in-row.result c.cell_for-place.result c.args.pass.now.view c.represent.new.pass.view c.install_step-found.new.pass.view
    (tried g c) c.install_step-found.result c.represent.new.pass.seat seat c.filled_at.result c.install_step-found.ensures.takes c.filled_at.ensures

pub returns-clause-served : goal.returns-clause-served
returns-clause-served g c =
    rw c.filled_at.ensures
    (installed_served _ _ c.install_step-found.new.pass.seat c.args.object c.root_step-word.result c.incarnation_in-row.result c.cell_for-place.result c.args.pass.now.view c.represent.new.pass.view
    c.install_step-found.new.pass.view (tried g c) c.install_step-found.result c.rows_inside_are_present.ensures c.cells_inside_are_open.ensures c.requires.ours.proc c.install_step-found.ensures.takes.knows)
