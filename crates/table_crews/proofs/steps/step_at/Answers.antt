use Rattle.std.proofs.Common.{◌≡◌, ◌<◌, ℕ, Bool, ◌+◌, ◌*◌, ◌%◌, ◌++◌, List, [], ◌∷◌, Some, length, arith, refl, sym, ap, ◌∙◌, subst}
use Rattle.std.specs.Option.{unwrap_or}
use Rattle.std.specs.Prelude.{is_some}
use Rattle.std.proofs.lemmas.Bool.Decides.{nat_tests}
use Rattle.k42_kinds.specs.LayoutLaws.{IsReached}
use Rattle.k42_kinds.specs.declared.entry.Reach.TheVariants.{One}
use Rattle.k42_kinds.specs.declared.entry.Act.TheVariants.{Call}
use Rattle.k42_kinds.specs.declared.entry.Answer.TheVariants.{Replied}
use Rattle.k42_board.specs.Plan.{layouts_on}
use Rattle.k42_limits.specs.declared.TheConstants.{PASS_ENTRIES}
use Rattle.k42_joined.specs.Drawing.{first_cell}
use Rattle.k42_board.specs.Drawing.{MayDrawCall, drawn_at, entry_call, numbers_of}
use Rattle.k42_board.specs.Log.{took}
use Rattle.k42_board.specs.Taking.{MayPut, CELLS}
use Rattle.k42_board.specs.Words.{lock_word}
use Rattle.k42_board.specs.declared.view.PassView.{PassView}
use Rattle.k42_board.specs.declared.view.StepName.TheVariants as steps
use Rattle.table_crews.proofs.CellBack.{went_through, through_drawn, through_serving, through_free}
use Rattle.table_crews.proofs.OneCell.{lifted_at, taken_from, at_one, mine_stays, reached, within, may_draw, may_put_drawn, told_last}
use Rattle.table_crews.proofs.steps.step_at.Goals as goal

pub step_part-requires-clause-reached : goal.step_part-requires-clause-reached
step_part-requires-clause-reached g c κs inside_lifetimes =
    let procs : ℕ = c.args.sys.now.procs in let callers : List ℕ = c.args.sys.now.callers in let v = c.args.pass.now.view in let w = c.take-cell.new.pass.view in
    let F = layouts_on g.L.Kind.object g.L.Layout.shapes g.L.Layout.tag_of g.L.Layout.ways g.L.Layout.whole g.L.Layout.serves g.L.Layout.admitted g.L.Layout.act_of procs callers in
    let laws = c.layouts_are_lawful.ensures in
    let met = g.met.L.Layout g.world.𝓛 g.world.𝓜 g.world.𝓡 ((λ s x. x), (λ x. x), (λ x. x), λ x. x) in
    let layout = c.args.layout.now in let op = c.args.op.now in let inside = c.args.inside.now in let p : ℕ = c.in-One.place in let content = c.take-cell.result in
    let n : ℕ = (inside.object * 2 + inside.incarnation % 2) * 8 + p in
    let e = taken_from n c.lock.result content v c.reserve.new.self.view c.lock.new.pass.view w c.in_ok-reserve.ensures.same.view c.lock.ensures.takes.knows c.take-cell.ensures.moved.back.knows in
    let reach =
    subst (λ (z : ℕ × ℕ). (g.L.Layout.ways layout).reach z.0 op z.1 ≡ One p) (λ k. (c.procs.ensures.is k, c.processor.ensures.is k)) (sym c.reach.ensures ∙ c.in-One.is) in
    let is =
    at_one F laws c.args.sys.now.layouts met.agrees v w n c.lock.result content inside layout op p c.requires.serving
    c.requires.inside.0 c.requires.layout.0 c.requires.layout.1 c.requires.layout.2 c.requires.free.ours.proc c.requires.takes reach e in
    subst (λ (k : ℕ). IsReached (g.L.Layout.ways layout) (g.L.Layout.whole layout) (unwrap_or content.part ((g.L.Layout.ways layout).empty k p)) op) (sym c.procs-3.ensures.is)
    (reached F laws c.args.sys.now.layouts met.agrees content (lifted_at n c.lock.new.pass.view) w c.take-cell.ensures.moved.back.knows layout op inside.object inside.incarnation p is c.take-cell.ensures.number c.take-cell.ensures.row)

pub draw_call-stamp-requires-clause-may : goal.draw_call-stamp-requires-clause-may
draw_call-stamp-requires-clause-may g c κs inside_lifetimes =
    let procs : ℕ = c.args.sys.now.procs in let callers : List ℕ = c.args.sys.now.callers in let v = c.args.pass.now.view in let w = c.take-cell.new.pass.view in
    let F = layouts_on g.L.Kind.object g.L.Layout.shapes g.L.Layout.tag_of g.L.Layout.ways g.L.Layout.whole g.L.Layout.serves g.L.Layout.admitted g.L.Layout.act_of procs callers in
    let laws = c.layouts_are_lawful.ensures in
    let met = g.met.L.Layout g.world.𝓛 g.world.𝓜 g.world.𝓡 ((λ s x. x), (λ x. x), (λ x. x), λ x. x) in
    let layout = c.args.layout.now in let op = c.args.op.now in let inside = c.args.inside.now in let p : ℕ = c.in-One.place in let content = c.take-cell.result in
    let n : ℕ = (inside.object * 2 + inside.incarnation % 2) * 8 + p in
    let e = taken_from n c.lock.result content v c.reserve.new.self.view c.lock.new.pass.view w c.in_ok-reserve.ensures.same.view c.lock.ensures.takes.knows c.take-cell.ensures.moved.back.knows in
    let reach =
    subst (λ (z : ℕ × ℕ). (g.L.Layout.ways layout).reach z.0 op z.1 ≡ One p) (λ k. (c.procs.ensures.is k, c.processor.ensures.is k)) (sym c.reach.ensures ∙ c.in-One.is) in
    let is =
    at_one F laws c.args.sys.now.layouts met.agrees v w n c.lock.result content inside layout op p c.requires.serving
    c.requires.inside.0 c.requires.layout.0 c.requires.layout.1 c.requires.layout.2 c.requires.free.ours.proc c.requires.takes reach e in
    let due = unwrap_or content.part ((g.L.Layout.ways layout).empty procs p) in
    let after = (g.L.Layout.ways layout).part_after due op in
    let count = c.procs-3.ensures.is in
    let moved =
    subst (λ (k : ℕ). c.step_part.new.cell ≡ record content { part = Some ((g.L.Layout.ways layout).part_after (unwrap_or content.part ((g.L.Layout.ways layout).empty k p)) op) }) count
    c.in_ok-reply.ensures.moved in
    let items : c.push_reserved.new.self.items ≡ record content { part = Some after } ∷ [] = c.push_reserved.ensures.items ∙ (λ k. c.in_ok-cells.ensures.items k ++ moved k ∷ []) in
    let replied =
    subst (λ (k : ℕ). c.in_ok-reply.reply ≡ (g.L.Layout.ways layout).part_reply (unwrap_or content.part ((g.L.Layout.ways layout).empty k p)) op) count c.in_ok-reply.ensures.replied in
    let mine : length w.taker.mine ≡ length v.taker.mine = ap (λ (x : PassView _ _ _). length x.taker.mine) e ∙ ap length (mine_stays n c.lock.result v) in
    let few : length w.taker.mine < PASS_ENTRIES = grind (arith, nat_tests, c.if-drawn-ge-PASS_ENTRIES.false, mine, c.drawn.ensures) in
    subst (λ cells. MayDrawCall F c.args.sys.now.layouts cells op c.in_ok-reply.reply w) (sym items)
    (may_draw F laws c.args.sys.now.layouts met.agrees content (lifted_at n c.lock.new.pass.view) w c.take-cell.ensures.moved.back.knows layout op inside.object inside.incarnation p is c.take-cell.ensures.number
    after c.in_ok-reply.reply replied refl few)

pub put-requires-clause-may : goal.put-requires-clause-may
put-requires-clause-may g c κs inside_lifetimes =
    let procs : ℕ = c.args.sys.now.procs in let callers : List ℕ = c.args.sys.now.callers in let v = c.args.pass.now.view in let w = c.take-cell.new.pass.view in
    let F = layouts_on g.L.Kind.object g.L.Layout.shapes g.L.Layout.tag_of g.L.Layout.ways g.L.Layout.whole g.L.Layout.serves g.L.Layout.admitted g.L.Layout.act_of procs callers in
    let laws = c.layouts_are_lawful.ensures in
    let met = g.met.L.Layout g.world.𝓛 g.world.𝓜 g.world.𝓡 ((λ s x. x), (λ x. x), (λ x. x), λ x. x) in
    let layout = c.args.layout.now in let op = c.args.op.now in let inside = c.args.inside.now in let p : ℕ = c.in-One.place in let content = c.take-cell.result in
    let n : ℕ = (inside.object * 2 + inside.incarnation % 2) * 8 + p in
    let e = taken_from n c.lock.result content v c.reserve.new.self.view c.lock.new.pass.view w c.in_ok-reserve.ensures.same.view c.lock.ensures.takes.knows c.take-cell.ensures.moved.back.knows in
    let reach =
    subst (λ (z : ℕ × ℕ). (g.L.Layout.ways layout).reach z.0 op z.1 ≡ One p) (λ k. (c.procs.ensures.is k, c.processor.ensures.is k)) (sym c.reach.ensures ∙ c.in-One.is) in
    let is =
    at_one F laws c.args.sys.now.layouts met.agrees v w n c.lock.result content inside layout op p c.requires.serving
    c.requires.inside.0 c.requires.layout.0 c.requires.layout.1 c.requires.layout.2 c.requires.free.ours.proc c.requires.takes reach e in
    let due = unwrap_or content.part ((g.L.Layout.ways layout).empty procs p) in
    let after = (g.L.Layout.ways layout).part_after due op in
    let count = c.procs-3.ensures.is in
    let moved =
    subst (λ (k : ℕ). c.step_part.new.cell ≡ record content { part = Some ((g.L.Layout.ways layout).part_after (unwrap_or content.part ((g.L.Layout.ways layout).empty k p)) op) }) count
    c.in_ok-reply.ensures.moved in
    let items : c.push_reserved.new.self.items ≡ record content { part = Some after } ∷ [] = c.push_reserved.ensures.items ∙ (λ k. c.in_ok-cells.ensures.items k ++ moved k ∷ []) in
    let there = within F laws c.args.sys.now.layouts met.agrees content (lifted_at n c.lock.new.pass.view) w c.take-cell.ensures.moved.back.knows layout op inside.object inside.incarnation p is c.take-cell.ensures.number in
    let number = c.take-cell.ensures.number in let object = c.requires.inside.1 in let most = c.procs.ensures.few in let count = c.procs.ensures.is in
    let few : content.number < CELLS = omega (arith, number, object, most, count, there) in
    let cells = numbers_of c.push_reserved.new.self.items in let word : ℕ = lock_word (first_cell cells) in
    let entry = entry_call w cells (Call op) (Replied c.in_ok-reply.reply) in
    let draws = λ (x : PassView _ _ _). took steps.Draw word 0 (drawn_at (record content { part = Some after } ∷ []) entry x) in
    let u = c.draw_call-stamp.new.pass in
    let known : u.view ≡ draws w = c.draw_call-stamp.ensures.drawn.knows ∙ (λ k. took steps.Draw word 0 (drawn_at (items k) entry w)) in
    subst (λ (n : ℕ). MayPut F c.args.sys.now.layouts u.seat n c.in-Some.cell u.view) number
    (may_put_drawn F laws c.args.sys.now.layouts u.seat word content after entry (lifted_at n c.lock.new.pass.view) u.view
    (known ∙ ap draws c.take-cell.ensures.moved.back.knows) c.in-Some.cell few
    (told_last u.view.notes (record content { part = Some after }) c.push_reserved.new.self.items c.draw_call-stamp.new.cells.items c.pop.new.self.items c.in-Some.cell items c.draw_call-stamp.ensures.told
    c.in-Some.ensures.items))

pub returns-clause-free : goal.returns-clause-free
returns-clause-free g c =
    let inside = c.args.inside.now in let p : ℕ = c.in-One.place in let content = c.take-cell.result in let n : ℕ = (inside.object * 2 + inside.incarnation % 2) * 8 + p in
    let w = c.take-cell.new.pass.view in let items = c.push_reserved.new.self.items in let cells = numbers_of items in let word : ℕ = lock_word (first_cell cells) in
    let entry = entry_call w cells (Call c.args.op.now) (Replied c.in_ok-reply.reply) in let full : Bool = is_some c.in-Some.cell.part in
    let free : c.lock.result ≡ 0 = grind (arith, nat_tests, c.if-lock-ne0.false) in
    let e =
    went_through n word c.lock.result full content items entry c.args.pass.now.view c.reserve.new.self.view c.lock.new.pass.view w c.draw_call-stamp.new.pass.view
    c.put.new.pass.view c.unlock.new.pass.view c.in_ok-reserve.ensures.same.view free c.lock.ensures.takes.knows c.take-cell.ensures.moved.back.knows
    c.draw_call-stamp.ensures.drawn.knows c.put.ensures.back.knows (c.unlock.ensures 0).takes.knows in
    through_free n word full content items entry c.args.pass.now c.unlock.new.pass e c.args.sys.now c.take-cell.ensures.number c.requires.free
    ((c.unlock.ensures 0).same.table ∙ c.put.ensures.same.table ∙ c.draw_call-stamp.ensures.drawn.drawer.table ∙ c.take-cell.ensures.moved.same.table ∙ c.lock.ensures.same.table
    ∙ c.in_ok-reserve.ensures.same.table)
    ((c.unlock.ensures 0).same.queue ∙ c.put.ensures.same.queue ∙ c.draw_call-stamp.ensures.drawn.drawer.queue ∙ c.take-cell.ensures.moved.same.queue ∙ c.lock.ensures.same.queue
    ∙ c.in_ok-reserve.ensures.same.queue)
    ((c.unlock.ensures 0).same.keep ∙ c.put.ensures.same.keep ∙ c.draw_call-stamp.ensures.drawn.drawer.keep ∙ c.take-cell.ensures.moved.same.keep ∙ c.lock.ensures.same.keep
    ∙ c.in_ok-reserve.ensures.same.keep)

pub returns-clause-serving : goal.returns-clause-serving
returns-clause-serving g c =
    let inside = c.args.inside.now in let p : ℕ = c.in-One.place in let content = c.take-cell.result in let n : ℕ = (inside.object * 2 + inside.incarnation % 2) * 8 + p in
    let w = c.take-cell.new.pass.view in let items = c.push_reserved.new.self.items in let cells = numbers_of items in let word : ℕ = lock_word (first_cell cells) in
    let entry = entry_call w cells (Call c.args.op.now) (Replied c.in_ok-reply.reply) in let full : Bool = is_some c.in-Some.cell.part in
    let free : c.lock.result ≡ 0 = grind (arith, nat_tests, c.if-lock-ne0.false) in
    let e =
    went_through n word c.lock.result full content items entry c.args.pass.now.view c.reserve.new.self.view c.lock.new.pass.view w c.draw_call-stamp.new.pass.view
    c.put.new.pass.view c.unlock.new.pass.view c.in_ok-reserve.ensures.same.view free c.lock.ensures.takes.knows c.take-cell.ensures.moved.back.knows
    c.draw_call-stamp.ensures.drawn.knows c.put.ensures.back.knows (c.unlock.ensures 0).takes.knows in
    through_serving n word full content items entry c.args.pass.now c.unlock.new.pass e c.requires.serving

pub returns-clause-drawn : goal.returns-clause-drawn
returns-clause-drawn g c =
    let inside = c.args.inside.now in let p : ℕ = c.in-One.place in let content = c.take-cell.result in let n : ℕ = (inside.object * 2 + inside.incarnation % 2) * 8 + p in
    let w = c.take-cell.new.pass.view in let items = c.push_reserved.new.self.items in let cells = numbers_of items in let word : ℕ = lock_word (first_cell cells) in
    let entry = entry_call w cells (Call c.args.op.now) (Replied c.in_ok-reply.reply) in let full : Bool = is_some c.in-Some.cell.part in
    let free : c.lock.result ≡ 0 = grind (arith, nat_tests, c.if-lock-ne0.false) in
    let e =
    went_through n word c.lock.result full content items entry c.args.pass.now.view c.reserve.new.self.view c.lock.new.pass.view w c.draw_call-stamp.new.pass.view
    c.put.new.pass.view c.unlock.new.pass.view c.in_ok-reserve.ensures.same.view free c.lock.ensures.takes.knows c.take-cell.ensures.moved.back.knows
    c.draw_call-stamp.ensures.drawn.knows c.put.ensures.back.knows (c.unlock.ensures 0).takes.knows in
    through_drawn n word full content items entry c.args.pass.now c.unlock.new.pass e c.draw_call-stamp.result c.draw_call-stamp.ensures.stamp
