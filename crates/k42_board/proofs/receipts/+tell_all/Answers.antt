use Rattle.std.proofs.Common.{◌∷◌, List, ap, sym, subst}
use Rattle.k42_board.specs.Drawing.{AreTold}
use Rattle.k42_board.specs.Steps.{Seated}
use Rattle.k42_board.specs.Views.{pass_in}
use Rattle.k42_board.specs.declared.cell.Content.{Content}
use Rattle.k42_board.specs.declared.view.Note.{Note}
use Rattle.k42_board.proofs.CellsTold.{more_told}
use Rattle.k42_board.proofs.receipts.+tell_all.Goals as goal

pub returns-after-closes-gt0-2-clause-told : goal.returns-after-closes-gt0-2-clause-told
returns-after-closes-gt0-2-clause-told g t c =
    let notes = (pass_in c.args.seat.now.me.0).notes in
    let further = c.tell_all.ensures.told in
    let same = ap (λ (m : Seated _ _ _). (pass_in m.0).notes) c.tell_cell.ensures.seated in
    subst (λ (xs : List (Content _ _ _)). AreTold notes xs (c.tell_cell.new.cell ∷ c.tell_all.new.cells)) (sym c.in-Some.ensures.cases.0)
    (more_told notes c.in-Some.cell.now c.tell_cell.new.cell c.in-Some.others.now c.tell_all.new.cells c.tell_cell.ensures.told
    (subst (λ (ns : List (Note _ _ _)). AreTold ns c.in-Some.others.now c.tell_all.new.cells) same further))
