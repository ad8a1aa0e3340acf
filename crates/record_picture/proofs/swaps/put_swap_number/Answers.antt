use Rattle.std.proofs.Common.{refl, append_assoc}
use Rattle.std.proofs.lemmas.Result.{IfOk-equal}
use Rattle.record_picture.specs.Swaps.{swap_number}
use Rattle.record_picture.proofs.swaps.put_swap_number.Goals as goal

pub returns : goal.returns
unfolding swap_number
returns c = IfOk-equal c.put_worded.result c.put_worded.new.out.items _ _ c.put_worded.ensures
    (simp (c.in_ok-put_numbered-2.ensures, c.in_ok-put_numbered.ensures, c.from.ensures, c.column_left.ensures, c.label_of.ensures, append_assoc) refl)
