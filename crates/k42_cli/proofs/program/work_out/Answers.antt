use Rattle.std.proofs.Common.{ap}
use Rattle.k42_cli.proofs.Endings.{worked_out}
use Rattle.k42_cli.proofs.program.work_out.Goals as goal

pub returns-clause-ok : goal.returns-clause-ok
returns-clause-ok g c =
    let output = c.in_ok-work.field-0 in
    worked_out c.args.form (g.S.Source.left c.args.source.now) (g.S.Source.left c.input_of.new.source) c.in_ok-bytes.bytes.items output.status output.text.items output.history c.in_ok-bytes.ensures.bytes (λ same. ap g.S.Source.left (c.input_of.ensures.unread same))
    c.in_ok-work.ensures.due c.in_ok-work.ensures.short
