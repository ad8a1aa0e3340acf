use Rattle.std.proofs.Common.{refl, append_assoc}
use Rattle.std.proofs.lemmas.Result.{IfOk-equal}
use Rattle.record_picture.specs.Frames.{frame}
use Rattle.record_picture.proofs.frames.put_frame.Goals as goal

pub returns : goal.returns
unfolding frame
returns c = IfOk-equal c.put_fixed.result c.put_fixed.new.out.items _ _ c.put_fixed.ensures
    (simp (c.in_ok-put_numbered-3.ensures, c.in_ok-put_numbered-2.ensures, c.in_ok-put_numbered.ensures, c.from.ensures, c.column_left.ensures, c.lane_top.ensures, append_assoc) refl)
