use Rattle.std.proofs.Common.{◌≡◌, ℕ, ◌+◌, ◌<◌, cond, [], ◌∷◌, ◌++◌, None, length, take, drop, refl, sym, ap, subst, ◌∙◌, arith}
use Rattle.std.specs.Option.{unwrap_or}
use Rattle.std.proofs.lemmas.List.{length-append, append_assoc}
use Rattle.k42_board.specs.declared.cell.Content.{Content}
use Rattle.k42_mediator.specs.Parts.{parts_from, filled}
use Rattle.k42_runtime.specs.Stepping.{row_behind}
use Rattle.k42_runtime.proofs.CallStepped.{front_kept, front_popped, set_behind, own_behind, on_err_1, on_ok_1, on_ok_3, on_err_3}
use Rattle.k42_runtime.proofs.stepping.+step_behind.Goals as goal

pub returns-clause-cells : goal.returns-clause-cells
returns-clause-cells g t c =
    let ways = g.L.Layout.ways c.args.layout.now in let procs : ℕ = c.args.procs in let op = c.args.op.now in
    let parts = c.args.parts.now.items in let k : ℕ = length parts in let x = c.in_ok-part.field-0.part in
    let cell = c.in-Some.cell.now in let others = c.in-Some.others.now in let all = c.push_reserved.new.self.items in
    let back = c.step_behind-reply.new.parts.items in
    let pushed : all ≡ parts ++ x ∷ [] = c.push_reserved.ensures.items in
    let place : c.len-place.result ≡ k = c.len-place.ensures ∙ c.args.parts.now.ok.0 in
    let long : length all ≡ k + 1 = ap length pushed ∙ length-append parts (x ∷ []) in
    let e : row_behind ways procs all others ≡ row_behind ways procs parts c.args.cells.now =
    (λ j. pushed j ++ parts_from ways procs (long j) others) ∙ append_assoc parts (x ∷ []) (parts_from ways procs (k + 1) others)
    ∙ ap (λ y. parts ++ y ∷ parts_from ways procs (k + 1) others) (c.in_ok-part.ensures.part ∙ ap (λ p. unwrap_or cell.part (ways.empty procs p)) place)
    ∙ ap (λ cs. parts ++ parts_from ways procs k cs) (sym c.in-Some.ensures.cases.0) in
    let row = ways.row_after (row_behind ways procs parts c.args.cells.now) op in
    let same : ways.row_after (row_behind ways procs all others) op ≡ row = ap (λ ys. ways.row_after ys op) e in
    let sized = c.requires.row.same in let added = length-append parts (parts_from ways procs k c.args.cells.now) in
    let some : 0 < length (parts_from ways procs k c.args.cells.now) = subst (λ cs. 0 < length (parts_from ways procs k cs)) (sym c.in-Some.ensures.cases.0) (omega arith) in
    let within : k < length row = omega (arith, sized, added, some) in
    on_ok_3 c.step_behind-reply.result (λ (kept : back ≡ take (length all) (ways.row_after (row_behind ways procs all others) op))
    (set : c.settle.new.cell ≡ record c.lift_part.new.cell { part = c.pop.result })
    (rest : c.step_behind-reply.new.cells ≡ filled (drop (length all) (ways.row_after (row_behind ways procs all others) op)) others).
    subst (λ cs. c.settle.new.cell ∷ c.step_behind-reply.new.cells ≡ filled (drop k row) cs) (sym c.in-Some.ensures.cases.0)
    (set_behind k (length all) c.step_behind-reply.new.parts.len row back c.pop.new.self.items c.pop.result cell c.settle.new.cell others c.step_behind-reply.new.cells
    within long (kept ∙ ap (take (length all)) same) c.step_behind-reply.new.parts.ok.0 c.pop.ensures.variant.1 c.pop.ensures.items
    (set ∙ ap (λ (z : Content _ _ _). record z { part = c.pop.result }) c.in_ok-part.ensures.lifted) (rest ∙ ap (λ ys. filled (drop (length all) ys) others) same)))
    c.step_behind-reply.ensures.parts c.settle.ensures.made c.step_behind-reply.ensures.cells

pub returns-clause-cells_kept : goal.returns-clause-cells_kept
returns-clause-cells_kept g t c =
    let ways = g.L.Layout.ways c.args.layout.now in let procs : ℕ = c.args.procs in let op = c.args.op.now in
    let parts = c.args.parts.now.items in let k : ℕ = length parts in let x = c.in_ok-part.field-0.part in
    let cell = c.in-Some.cell.now in let others = c.in-Some.others.now in let all = c.push_reserved.new.self.items in
    let back = c.step_behind-reply.new.parts.items in
    let pushed : all ≡ parts ++ x ∷ [] = c.push_reserved.ensures.items in
    let place : c.len-place.result ≡ k = c.len-place.ensures ∙ c.args.parts.now.ok.0 in
    let long : length all ≡ k + 1 = ap length pushed ∙ length-append parts (x ∷ []) in
    on_err_3 c.step_behind-reply.result (λ (kept : back ≡ all)
    (set : c.settle.new.cell ≡ record c.lift_part.new.cell { part = cond c.in_ok-part.field-0.own c.pop.result None })
    (rest : c.step_behind-reply.new.cells ≡ others).
    own_behind parts all back c.pop.new.self.items cell.part (ways.empty procs c.len-place.result) c.in_ok-part.field-0.own c.pop.result cell c.lift_part.new.cell c.settle.new.cell others c.step_behind-reply.new.cells
    c.step_behind-reply.new.parts.len (pushed ∙ ap (λ y. parts ++ y ∷ []) c.in_ok-part.ensures.part) kept c.step_behind-reply.new.parts.ok.0 c.pop.ensures.variant.1 c.pop.ensures.items c.in_ok-part.ensures.own refl c.in_ok-part.ensures.lifted set rest
    ∙ sym c.in-Some.ensures.cases.0)
    c.step_behind-reply.ensures.parts_kept c.settle.ensures.memory c.step_behind-reply.ensures.cells_kept

pub returns-clause-parts : goal.returns-clause-parts
returns-clause-parts g t c =
    let ways = g.L.Layout.ways c.args.layout.now in let procs : ℕ = c.args.procs in let op = c.args.op.now in
    let parts = c.args.parts.now.items in let k : ℕ = length parts in let x = c.in_ok-part.field-0.part in
    let cell = c.in-Some.cell.now in let others = c.in-Some.others.now in let all = c.push_reserved.new.self.items in
    let back = c.step_behind-reply.new.parts.items in
    let pushed : all ≡ parts ++ x ∷ [] = c.push_reserved.ensures.items in
    let place : c.len-place.result ≡ k = c.len-place.ensures ∙ c.args.parts.now.ok.0 in
    let long : length all ≡ k + 1 = ap length pushed ∙ length-append parts (x ∷ []) in
    let e : row_behind ways procs all others ≡ row_behind ways procs parts c.args.cells.now =
    (λ j. pushed j ++ parts_from ways procs (long j) others) ∙ append_assoc parts (x ∷ []) (parts_from ways procs (k + 1) others)
    ∙ ap (λ y. parts ++ y ∷ parts_from ways procs (k + 1) others) (c.in_ok-part.ensures.part ∙ ap (λ p. unwrap_or cell.part (ways.empty procs p)) place)
    ∙ ap (λ cs. parts ++ parts_from ways procs k cs) (sym c.in-Some.ensures.cases.0) in
    let row = ways.row_after (row_behind ways procs parts c.args.cells.now) op in
    let same : ways.row_after (row_behind ways procs all others) op ≡ row = ap (λ ys. ways.row_after ys op) e in
    let sized = c.requires.row.same in let added = length-append parts (parts_from ways procs k c.args.cells.now) in
    let some : 0 < length (parts_from ways procs k c.args.cells.now) = subst (λ cs. 0 < length (parts_from ways procs k cs)) (sym c.in-Some.ensures.cases.0) (omega arith) in
    let within : k < length row = omega (arith, sized, added, some) in
    on_ok_1 c.step_behind-reply.result (λ (kept : back ≡ take (length all) (ways.row_after (row_behind ways procs all others) op)).
    front_popped k (length all) c.step_behind-reply.new.parts.len row back c.pop.new.self.items c.pop.result within long (kept ∙ ap (take (length all)) same)
    c.step_behind-reply.new.parts.ok.0 c.pop.ensures.variant.1 c.pop.ensures.items)
    c.step_behind-reply.ensures.parts

pub returns-clause-parts_kept : goal.returns-clause-parts_kept
returns-clause-parts_kept g t c =
    let ways = g.L.Layout.ways c.args.layout.now in let procs : ℕ = c.args.procs in let op = c.args.op.now in
    let parts = c.args.parts.now.items in let k : ℕ = length parts in let x = c.in_ok-part.field-0.part in
    let cell = c.in-Some.cell.now in let others = c.in-Some.others.now in let all = c.push_reserved.new.self.items in
    let back = c.step_behind-reply.new.parts.items in
    let pushed : all ≡ parts ++ x ∷ [] = c.push_reserved.ensures.items in
    let place : c.len-place.result ≡ k = c.len-place.ensures ∙ c.args.parts.now.ok.0 in
    let long : length all ≡ k + 1 = ap length pushed ∙ length-append parts (x ∷ []) in
    on_err_1 c.step_behind-reply.result (λ (kept : back ≡ all).
    front_kept c.step_behind-reply.new.parts.len parts all back c.pop.new.self.items x c.pop.result pushed kept c.step_behind-reply.new.parts.ok.0
    c.pop.ensures.variant.1 c.pop.ensures.items)
    c.step_behind-reply.ensures.parts_kept
