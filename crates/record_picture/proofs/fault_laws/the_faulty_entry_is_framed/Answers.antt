use Rattle.record_picture.proofs.MarkedFaults.{framed}
use Rattle.record_picture.proofs.fault_laws.the_faulty_entry_is_framed.Goals as goal

pub returns : goal.returns
returns c script written window place rule line found = framed script written window place rule line found
