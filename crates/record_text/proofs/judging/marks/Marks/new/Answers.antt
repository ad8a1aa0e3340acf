use Rattle.std.proofs.Common.{◌+◌, ◌*◌, arith}
use Rattle.std.proofs.lemmas.List.{get_or-replicate}
use Rattle.record_text.proofs.judging.marks.Marks.new.Goals as goal

pub returns : goal.returns
returns c = record { each = λ worker object w o. get_or-replicate 256 (worker * 16 + object) c.args.mark 0 (omega (arith, w, o)) }
