use Rattle.record_text.proofs.Openings.{made_of_lines}
use Rattle.record_text.proofs.laws.a_record_is_its_lines.Goals as goal

pub returns : goal.returns
returns c = made_of_lines
