use Rattle.record_picture.proofs.MarkedFaults.{veiled}
use Rattle.record_picture.proofs.fault_laws.what_stands_behind_the_faulty_entry_is_veiled.Goals as goal

pub returns : goal.returns
returns c script written window place rule line found = veiled script written window place rule line found
