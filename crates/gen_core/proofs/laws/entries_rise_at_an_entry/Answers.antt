use Rattle.gen_core.proofs.Entries.{entries_rise}
use Rattle.gen_core.proofs.laws.entries_rise_at_an_entry.Goals as goal

pub returns : goal.returns
returns c = entries_rise
