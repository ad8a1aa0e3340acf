use Rattle.std.proofs.Common.{◌≡◌, ◌⊎◌, ℕ, true, false, Some, sym, ap, ◌∙◌, subst}
use Rattle.std.specs.Prelude.{is_some, unwrap_or}
use Rattle.k42_board.specs.Taking.{HoldsHome, MayPut}
use Rattle.k42_tables.proofs.Represented.{out_view, back_view, holds_back, left_view, handled, may_put_filled, part_back, on_ok, on_err}
use Rattle.k42_tables.proofs.Waited.{same_on}
use Rattle.k42_tables.proofs.filling.represent.Goals as goal

pub put-requires-clause-may : goal.put-requires-clause-may
put-requires-clause-may g c κs within =
    let sys = c.args.sys.now in let made = c.fill_part-made in let taken = c.take-content.result in
    let met = g.met.L.Layout g.world.𝓛 g.world.𝓜 g.world.𝓡 ((λ s x. x), (λ x. x), (λ x. x), λ x. x) in
    subst (MayPut _ sys.layouts c.take-content.new.pass.seat c.args.cell made.new.content) (sym c.take-content.ensures.moved.back.knows)
    (may_put_filled _ c.layouts_are_lawful.ensures (λ layout other same tags. (met.agrees layout other same tags).ways) sys.layouts c.take-content.new.pass.seat c.args.cell
    c.args.place c.args.layout.now c.args.pass.now.view c.requires.row taken c.take-content.ensures.number made.new.content made.ensures.same c.requires.holds.cell
    (subst
    (λ procs. (made.new.content.part ≡ taken.part) ⊎ (made.new.content.part ≡ Some (unwrap_or taken.part ((g.L.Layout.ways c.args.layout.now).empty procs c.args.place))))
    c.procs-procs.ensures.is (part_back made.result taken.part made.new.content.part _ made.ensures.ok made.ensures.memory)))

pub unlock-requires-after_bounds : goal.unlock-requires-after_bounds
unlock-requires-after_bounds g c κs within =
    let made = c.fill_part-made.new.content in
    let back = c.put.ensures.back.knows ∙ ap (back_view c.args.cell made) c.take-content.ensures.moved.back.knows in
    record {
      ours = c.put.ensures.same.table ∙ c.take-content.ensures.moved.same.table ∙ c.requires.ours.table;
      may = subst (HoldsHome c.args.cell) (sym back) (holds_back c.args.cell c.take-content.result made c.args.pass.now.view c.take-content.ensures.number c.requires.holds);
    }

pub returns-clause-same : goal.returns-clause-same
returns-clause-same g c =
    same_on (same_on c.take-content.ensures.moved.same c.put.ensures.same) (c.unlock.ensures 0).same

pub returns-clause-made : goal.returns-clause-made
returns-clause-made g c =
    let made = c.fill_part-made in let n : ℕ = c.args.cell in let content = c.take-content.result in let v = c.args.pass.now.view in
    let knows : c.unlock.new.pass.view ≡ left_view n (back_view n made.new.content (out_view n content v)) =
    (c.unlock.ensures 0).takes.knows ∙ ap (left_view n) (c.put.ensures.back.knows ∙ ap (back_view n made.new.content) c.take-content.ensures.moved.back.knows) in
    on_ok made.result made.ensures.ok
    (λ full. knows ∙ handled n content made.new.content v c.take-content.ensures.number c.requires.holds c.processor-home.ensures.settled.back true (ap is_some full))

pub returns-clause-memory : goal.returns-clause-memory
returns-clause-memory g c =
    let made = c.fill_part-made in let n : ℕ = c.args.cell in let content = c.take-content.result in let v = c.args.pass.now.view in
    let knows : c.unlock.new.pass.view ≡ left_view n (back_view n made.new.content (out_view n content v)) =
    (c.unlock.ensures 0).takes.knows ∙ ap (left_view n) (c.put.ensures.back.knows ∙ ap (back_view n made.new.content) c.take-content.ensures.moved.back.knows) in
    on_err made.result made.ensures.memory
    (λ none. knows ∙ handled n content made.new.content v c.take-content.ensures.number c.requires.holds c.processor-home.ensures.settled.back false (ap is_some none.1))
