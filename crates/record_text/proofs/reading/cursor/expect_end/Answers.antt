use Rattle.std.proofs.Common.{sym}
use Rattle.record_text.proofs.Reader.ByteCuts.{at_end-pieces_of}
use Rattle.record_text.proofs.reading.cursor.expect_end.Goals as goal

pub returns-in-Some : goal.returns-in-Some
returns-in-Some c = rw c.in-Some.is (sym (at_end-pieces_of c.in-Some.field-0.now))
