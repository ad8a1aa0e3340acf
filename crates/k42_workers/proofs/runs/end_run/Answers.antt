use Rattle.std.proofs.Common.{ℕ}
use Rattle.std.specs.Prelude.{All}
use Rattle.k42_kinds.specs.declared.operation.Op.{Op}
use Rattle.k42_kinds.specs.declared.operation.Reply.{Reply}
use Rattle.k42_kinds.specs.declared.entry.Entry.{Entry}
use Rattle.script_text.specs.Lawful.{IsLawful}
use Rattle.record_text.specs.Histories.{record_of}
use Rattle.record_text.specs.Rules.{IsLawfulRecord}
use Rattle.record_text.specs.Spelling.{HasGeneration}
use Rattle.co_system.specs.Systems.{HistorySeen}
use Rattle.k42_workers.specs.Workers.{IsRunOf}
use Rattle.k42_workers.proofs.Halved.{where_ok}
use Rattle.k42_workers.proofs.Judged.{lawful, generations, judged_lawful}
use Rattle.k42_workers.proofs.runs.end_run.Goals as goal

pub returns-clause-lawful : goal.returns-clause-lawful
returns-clause-lawful c = where_ok (λ (history : HistorySeen). IsRunOf c.args.script.now history.entries) (λ history. IsLawful c.args.script.now history.entries) (λ history run. lawful c.args.script.now history.entries run) c.closed.result c.closed.ensures.closed

pub returns-clause-recorded : goal.returns-clause-recorded
returns-clause-recorded c = where_ok (λ (history : HistorySeen). IsRunOf c.args.script.now history.entries) (λ history. (version : ℕ) → IsLawfulRecord c.args.script.now (record_of c.args.script.now history.entries version)) (λ history run. judged_lawful c.args.script.now history.entries run) c.closed.result c.closed.ensures.closed

pub returns-clause-generations : goal.returns-clause-generations
returns-clause-generations c = where_ok (λ (history : HistorySeen). IsRunOf c.args.script.now history.entries) (λ history. All (λ (entry : Entry Op Reply). HasGeneration entry.act entry.generation) history.entries) (λ history run. generations c.args.script.now history.entries run) c.closed.result c.closed.ensures.closed
