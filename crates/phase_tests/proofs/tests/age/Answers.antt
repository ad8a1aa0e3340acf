use Rattle.std.proofs.Common.{◌≡◌, [], ◌∷◌, get_or, set, sym, subst, ◌∙◌}
use Rattle.k42_limits.specs.declared.TheConstants.{LAST_INCARNATION}
use Rattle.phase_core.specs.Plain.{Phases, Object}
use Rattle.phase_core.specs.State.{new_phases, of_two}
use Rattle.phase_core.specs.Sound.{IsSound}
use Rattle.phase_core.proofs.AtTheLast.{IsSound-aged}
use Rattle.phase_tests.proofs.tests.age.Goals as goal

-- the state with this for its first object, empty at the last incarnation
abbrev aged : Phases → Object → Phases
aged s o = record s {
  objects = set s.objects 0 (record o {
    incarnation = LAST_INCARNATION;
    entries = set o.entries 0 (record { tag = 0; layout = 0; cell = 0; incarnation = LAST_INCARNATION });
  });
}

IsSound-new :
    (s : Phases) (o none : Object) → s ≡ new_phases 1 (of_two 0 ∷ []) (0 ∷ []) → o ≡ get_or s.objects 0 none
    → IsSound (aged s o)
IsSound-new s o none new first =
    subst (λ o. IsSound (aged s o)) (sym first)
    (subst (λ s. IsSound (aged s (get_or s.objects 0 none))) (sym new) IsSound-aged)

pub returns : goal.returns
returns c = IsSound-new _ _ _ (c.state.view_is ∙ c.requires) (c.object.view_is ∙ c.index_mut-object.ensures.value)
