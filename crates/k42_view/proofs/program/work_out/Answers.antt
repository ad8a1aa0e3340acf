use Rattle.k42_view.proofs.Dues.{worked_out}
use Rattle.k42_view.proofs.program.work_out.Goals as goal

pub returns-clause-ok : goal.returns-clause-ok
returns-clause-ok g c =
    let output = c.in_ok-view.field-0 in
    worked_out c.args.window (g.S.Source.left c.args.source.now) (g.S.Source.left c.read_input.new.source) c.in_ok-bytes.bytes.items output.status output.text.items c.in_ok-bytes.ensures.bytes (rw c.deref.ensures.value at c.in_ok-view.ensures)
