use Rattle.k42_joined.proofs.SafeStates.{sound_safe}
use Rattle.k42_rule.proofs.laws.shown_states_are_safe.Goals as goal

pub returns : goal.returns
returns g c = rw (← c.sys.view_is) (λ table rule. sound_safe _ c.sys.invariant.5 _ rule.state rule.sound)
