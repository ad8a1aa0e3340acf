use Rattle.std.proofs.Common.{◌≡◌, ◌∙◌, List, length, refl, sym, arith}
use Rattle.std.specs.Prelude.{Some, slice_get}
use Rattle.std.specs.Bool.{Decides}
use Rattle.std.proofs.lemmas.Option.{slice_get_read, same_Some}
use Rattle.record_text.specs.Told.{generations_by}
use Rattle.record_text.specs.Referee.Courses.{IsWalked, StandsAtLine, MayTell}
use Rattle.record_text.specs.Referee.Pasts.{AreWalked}
use Rattle.record_text.specs.Rules.{KeepsGenerations}
use Rattle.record_text.specs.declared.record.RecordLine.{RecordLine}
use Rattle.record_text.proofs.Referee.Crews.{walked_more, tells_decided, standing_here}
use Rattle.record_text.proofs.judging.passes.Goals.{After-index_mut-course, After-may_tell}
use Rattle.record_text.proofs.judging.passes.Goals as goal

there_of : (c : After-index_mut-course) → slice_get c.args.courses.now.items c.args.line.now.worker ≡ Some c.index_mut-course.result.now
there_of c =
    let courses = c.args.courses.now in
    slice_get_read courses.items (length courses.items) c.args.line.now.worker c.index_mut-course.result.now refl (omega (arith, c.requires.worker, c.requires.size, courses.ok.0)) c.index_mut-course.ensures.value

standing_of : (c : After-index_mut-course) → StandsAtLine c.lines_of-worker.result.now.items c.index_mut-course.result.now
standing_of c = standing_here c.args.script.now c.args.line.now.worker c.args.courses.now.items c.requires.stands c.lines_of-worker.result.now c.index_mut-course.result.now c.lines_of-worker.ensures (there_of c)

walked_of : (c : After-index_mut-course) (before : List RecordLine) → AreWalked c.args.script.now before c.args.courses.now.items → IsWalked c.lines_of-worker.result.now.items (generations_by c.args.line.now.worker before) c.index_mut-course.result.now
walked_of c before walked = walked.each c.args.line.now.worker c.lines_of-worker.result.now c.index_mut-course.result.now c.lines_of-worker.ensures (there_of c)

told_of : (c : After-may_tell) (before : List RecordLine) → IsWalked c.lines_of-worker.result.now.items (generations_by c.args.line.now.worker before) c.index_mut-course.result.now → StandsAtLine c.lines_of-worker.result.now.items c.index_mut-course.result.now → Decides c.may_tell.result (KeepsGenerations c.args.script.now before c.args.line.now)
told_of c before walked standing =
    let line = c.args.line.now in
    let lines = c.lines_of-worker.result.now in
    tells_decided c.args.script.now before line lines c.lines_of-worker.ensures (generations_by line.worker before) refl c.may_tell.result
    (c.may_tell.ensures lines.items (generations_by line.worker before) walked standing)

pub returns-then-not-may_tell-clause-told : goal.returns-then-not-may_tell-clause-told
returns-then-not-may_tell-clause-told c = λ before walked.
    let at = goal.at.returns-then-not-may_tell-clause-told c in
    let decides = told_of at.After-may_tell before (walked_of at.After-index_mut-course before walked) (standing_of at.After-index_mut-course) in
    (λ no. cc no, λ keeps. absurd (grind (arith, decides.1 keeps, c.if-not-may_tell.true)))

pub pass-requires : goal.pass-requires
pass-requires c = (standing_of (goal.at.pass-requires c).After-index_mut-course).bounded

pub returns-clause-told : goal.returns-clause-told
returns-clause-told c = λ before walked.
    let at = goal.at.returns-clause-told c in
    let decides = told_of at.After-may_tell before (walked_of at.After-index_mut-course before walked) (standing_of at.After-index_mut-course) in
    (λ _. decides.0 (grind (arith, c.if-not-may_tell.false)), λ _. refl)

pub returns-clause-kept : goal.returns-clause-kept
returns-clause-kept c = λ before walked yes.
    let first = (goal.at.returns-clause-kept c).After-index_mut-course in
    let line = c.args.line.now in
    let lines = c.lines_of-worker.result.now in
    let told = generations_by line.worker before in
    let here = walked_of first before walked in
    let may : MayTell lines.items told lines.proc line.extra = (c.may_tell.ensures lines.items told here (standing_of first)).0 (grind (arith, c.if-not-may_tell.false)) in
    walked_more c.args.script.now before c.args.courses.now.items line.worker c.pass.new.self walked line refl (λ own same.
    let one : lines ≡ own = same_Some lines own (sym c.lines_of-worker.ensures ∙ same) in
    rw (← one) (rw c.generation_of.ensures at (c.pass.ensures lines.items told here (standing_of first) (rw c.generation_of.ensures may.generation))))
