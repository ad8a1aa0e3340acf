use Rattle.k42_cli.proofs.Records.{run_where_ok}
use Rattle.k42_cli.proofs.work.history_of.Goals as goal

pub returns-in-One : goal.returns-in-One
returns-in-One g c = run_where_ok c.args.script.now c.requires c.run_script.result c.run_script.ensures.lawful c.run_script.ensures.plan c.run_script.ensures.recorded c.run_script.ensures.generations

pub returns-in-Tasks : goal.returns-in-Tasks
returns-in-Tasks g c = run_where_ok c.args.script.now c.requires c.run_tasks.result c.run_tasks.ensures.lawful c.run_tasks.ensures.plan c.run_tasks.ensures.recorded c.run_tasks.ensures.generations
