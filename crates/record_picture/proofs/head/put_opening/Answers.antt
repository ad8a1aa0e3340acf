use Rattle.std.proofs.Common.{refl, append_assoc}
use Rattle.std.proofs.lemmas.Result.{IfOk-equal}
use Rattle.record_picture.specs.Head.{opening}
use Rattle.record_picture.proofs.head.put_opening.Goals as goal

pub returns : goal.returns
unfolding opening
returns c = IfOk-equal c.put_fixed.result c.put_fixed.new.out.items _ _ c.put_fixed.ensures
    (simp (c.in_ok-put_numbered-2.ensures, c.in_ok-put_numbered.ensures, c.width_of.ensures, c.height_of.ensures, append_assoc) refl)
