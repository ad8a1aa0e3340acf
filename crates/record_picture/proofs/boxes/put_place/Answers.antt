use Rattle.std.proofs.Common.{refl, append_assoc}
use Rattle.std.proofs.lemmas.Result.{IfOk-equal}
use Rattle.record_picture.specs.Boxes.{box_place}
use Rattle.record_picture.proofs.boxes.put_place.Goals as goal

pub returns : goal.returns
unfolding box_place
returns c = IfOk-equal c.put_numbered-3.result c.put_numbered-3.new.out.items _ _ c.put_numbered-3.ensures
    (simp (c.in_ok-put_numbered-2.ensures, c.in_ok-put_numbered.ensures, c.from.ensures, c.column_left.ensures, c.lane_top.ensures, append_assoc) refl)
