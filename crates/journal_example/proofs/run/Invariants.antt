use Rattle.k42_crews.specs.Ready.{AreFree}
use Rattle.journal_example.proofs.run.Given as goal

-- between two turns nothing is under way
abbrev pub invariant-loop-place : goal.invariant-loop-place
invariant-loop-place g l = AreFree (record { sys = l.system-inside.sys; plan = l.system-inside.plan }) l.passes.items
