use Rattle.std.proofs.Common.{refl, append_assoc}
use Rattle.std.proofs.lemmas.Result.{IfOk-equal}
use Rattle.record_picture.specs.Head.{verdict_line}
use Rattle.record_picture.proofs.head.put_verdict_line.Goals as goal

pub returns : goal.returns
unfolding verdict_line
returns c = IfOk-equal c.put_fixed-2.result c.put_fixed-2.new.out.items _ _ c.put_fixed-2.ensures
    (simp (c.in_ok-put_verdict.ensures, c.in_ok-put_fixed.ensures, append_assoc) refl)
