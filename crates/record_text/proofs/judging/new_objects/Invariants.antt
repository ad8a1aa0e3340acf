use Rattle.std.proofs.Common.{◌≡◌, map, take}
use Rattle.record_text.proofs.Referee.Verdicts.{fresh_of}
use Rattle.record_text.proofs.judging.new_objects.Given as goal

abbrev pub invariant-loop-object : goal.invariant-loop-object
invariant-loop-object l = l.objects.items ≡ map fresh_of (take l.object-index l.declared)
