use Rattle.record_picture.proofs.MarkedFaults.{unmarked}
use Rattle.record_picture.proofs.fault_laws.no_other_entry_is_marked.Goals as goal

pub returns-clause-elsewhere : goal.returns-clause-elsewhere
returns-clause-elsewhere c lanes before lines line rule elsewhere = unmarked lanes before lines line rule elsewhere
