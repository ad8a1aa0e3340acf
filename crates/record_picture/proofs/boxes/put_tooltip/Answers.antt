use Rattle.std.proofs.Common.{refl, append_assoc}
use Rattle.std.proofs.lemmas.Result.{IfOk-equal}
use Rattle.record_picture.specs.Boxes.{box_tooltip}
use Rattle.record_picture.proofs.boxes.put_tooltip.Goals as goal

pub returns : goal.returns
unfolding box_tooltip
returns c = IfOk-equal c.put_fixed.result c.put_fixed.new.out.items _ _ c.put_fixed.ensures
    (simp (c.in_ok-put_worded.ensures, c.as_slice.ensures.value, c.in_ok-text.ensures, append_assoc) refl)
