use Rattle.std.proofs.Common.{◌≡◌, ◌≤◌, ◌++◌, drop}
use Rattle.record_picture.specs.Frames.{frames_from}
use Rattle.record_picture.proofs.frames.put_frames_from.Given as goal

abbrev pub invariant-loop-line : goal.invariant-loop-line
invariant-loop-line l =
    (l.trail.column ≡ l.line-index) × (l.trail.former ≤ l.trail.column)
    × (l.out.items ++ frames_from l.lane l.trail.left.now l.trail.former l.trail.column (drop l.line-index l.lines) ≡ l.initial.out.items ++ frames_from l.lane l.joined 0 0 l.lines)
