use Rattle.script_text.proofs.ReaderSteps.{shows_worker}
use Rattle.script_text.proofs.reading.Reading.add_worker.Goals as goal

pub returns : goal.returns
returns c =
    rw (c.in_ok-push_last.ensures, c.replace-items.ensures.value, c.in_ok-declare.ensures, c.replace-items.ensures.after, c.new.ensures)
    (shows_worker c.args.self.now c.args.worker c.requires.kept c.requires.closed)
