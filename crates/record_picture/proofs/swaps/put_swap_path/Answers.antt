use Rattle.std.proofs.Common.{refl, append_assoc}
use Rattle.std.proofs.lemmas.Result.{IfOk-equal}
use Rattle.record_picture.specs.Swaps.{swap_path}
use Rattle.record_picture.proofs.swaps.put_swap_path.Goals as goal

pub returns : goal.returns
unfolding swap_path
returns c = IfOk-equal c.put_fixed.result c.put_fixed.new.out.items _ _ c.put_fixed.ensures
    (simp (c.in_ok-put_numbered-2.ensures, c.in_ok-put_numbered.ensures, c.column_left.ensures, c.lane_top.ensures, append_assoc) refl)
