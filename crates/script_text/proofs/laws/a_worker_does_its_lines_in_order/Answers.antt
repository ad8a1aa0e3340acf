use Rattle.script_text.proofs.WorkerOrders.{lines_in_order}
use Rattle.script_text.proofs.laws.a_worker_does_its_lines_in_order.Goals as goal

pub returns : goal.returns
returns c = lines_in_order
