use Rattle.std.proofs.Common.{sym, ◌∙◌}
use Rattle.k42_input.proofs.CutVerdicts.{short_where_lawful}
use Rattle.k42_cli.proofs.work.check.Goals as goal

pub returns-in_ok-text-in-Ok-clause-short : goal.returns-in_ok-text-in-Ok-clause-short
returns-in_ok-text-in-Ok-clause-short c = λ ok. short_where_lawful c.in-Ok.script c.args.input.now c.in_ok-verdict-in-Ok.verdict c.in_ok-verdict-in-Ok.ensures (sym c.status.ensures ∙ ok)
