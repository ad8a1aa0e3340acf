use Rattle.std.proofs.Common.{◌≡◌, ℕ, ◌+◌, [], ◌∷◌, ◌++◌, length, sym, ap, ◌∙◌, subst}
use Rattle.std.specs.Option.{unwrap_or}
use Rattle.std.specs.Result.{IfOk}
use Rattle.std.proofs.lemmas.List.{length-append, append_assoc}
use Rattle.k42_mediator.specs.Parts.{parts_from, AreKept}
use Rattle.k42_mediator.proofs.PartsMoved.{kept_same}
use Rattle.k42_mediator.proofs.parts.+export_behind.Goals as goal

pub returns-in_err-part-clause-kept : goal.returns-in_err-part-clause-kept
returns-in_err-part-clause-kept g t c =
    let ways = g.L.Layout.ways c.args.layout.now in let cells = c.args.cells.now in let k : ℕ = length c.args.parts.now.items in
    let same : cells ≡ c.lift_part.new.cell ∷ c.in-Some.others.now = c.in-Some.ensures.cases.0 ∙ ap (λ x. x ∷ c.in-Some.others.now) (sym c.in_err-part.ensures.memory) in
    subst (λ xs. AreKept ways c.args.procs (k + length cells) k cells xs) same (kept_same ways c.args.procs (k + length cells) k cells)

pub returns-in-Some-pop-clause-state : goal.returns-in-Some-pop-clause-state
returns-in-Some-pop-clause-state g t c =
    let ways = g.L.Layout.ways c.args.layout.now in let procs : ℕ = c.args.procs in
    let parts = c.args.parts.now.items in let k : ℕ = length parts in let x = c.in_ok-part.part in
    let cell = c.in-Some.cell.now in let others = c.in-Some.others.now in
    let pushed : c.push_reserved.new.self.items ≡ parts ++ x ∷ [] = c.push_reserved.ensures.items in
    let place : c.len-place.result ≡ k = c.len-place.ensures ∙ c.args.parts.now.ok.0 in
    let long : length c.push_reserved.new.self.items ≡ k + 1 = ap length pushed ∙ length-append parts (x ∷ []) in
    let e : c.push_reserved.new.self.items ++ parts_from ways procs (length c.push_reserved.new.self.items) others ≡ parts ++ parts_from ways procs k c.args.cells.now =
    (λ j. pushed j ++ parts_from ways procs (long j) others) ∙ append_assoc parts (x ∷ []) (parts_from ways procs (k + 1) others)
    ∙ ap (λ y. parts ++ y ∷ parts_from ways procs (k + 1) others) (c.in_ok-part.ensures.part ∙ ap (λ p. unwrap_or cell.part (ways.empty procs p)) place)
    ∙ ap (λ cs. parts ++ parts_from ways procs k cs) (sym c.in-Some.ensures.cases.0) in
    subst (λ ys. IfOk c.export_behind-state.result (λ state. state ≡ ways.combine ys)) e c.export_behind-state.ensures.state
