use Rattle.std.proofs.Common.{refl, append_assoc}
use Rattle.std.proofs.lemmas.Result.{IfOk-equal}
use Rattle.record_picture.specs.Lanes.{lane_name}
use Rattle.record_picture.proofs.lanes.put_lane_name.Goals as goal

pub returns : goal.returns
unfolding lane_name
returns c = IfOk-equal c.put_worded.result c.put_worded.new.out.items _ _ c.put_worded.ensures
    (simp (c.in_ok-put_numbered-2.ensures, c.in_ok-put_numbered.ensures, c.lane_top-top.ensures, append_assoc) refl)
