-- Plans without a fault, and plans of which each has the fault that is named first.
use Rattle.std.proofs.Common.{◌≡◌, ℕ, zero, suc, Bool, true, false, List, [], ◌∷◌, Some, None, refl}
use Rattle.k42_runtime.specs.Plans.{plan_fault}
use Rattle.k42_runtime.specs.declared.plan.PlanFault.TheVariants.{Procs, Objects, Callers, Processor, Dead}

-- a live layout and the dead one, for these examples
data Kept : Type 0 where
  hits : Kept
  dead : Kept

abbrev is_live : Kept → Bool
is_live hits = true
is_live dead = false

-- so many of one thing
many : {A : Type 0} → ℕ → A → List A
many zero a = []
many (suc n) a = a ∷ many n a

two_processors : plan_fault is_live 2 (hits ∷ []) (0 ∷ 1 ∷ 1 ∷ []) ≡ None
two_processors = refl

as_large_as_can_be : plan_fault is_live 8 (many 16 hits) (many 16 7) ≡ None
unfolding many
as_large_as_can_be = refl

no_processor : plan_fault is_live 0 (hits ∷ []) (0 ∷ []) ≡ Some Procs
no_processor = refl

nine_processors : plan_fault is_live 9 (hits ∷ []) (0 ∷ []) ≡ Some Procs
nine_processors = refl

no_object : plan_fault is_live 1 [] (0 ∷ []) ≡ Some Objects
no_object = refl

seventeen_objects : plan_fault is_live 1 (many 17 hits) (0 ∷ []) ≡ Some Objects
unfolding many
seventeen_objects = refl

no_caller : plan_fault is_live 1 (hits ∷ []) [] ≡ Some Callers
no_caller = refl

seventeen_callers : plan_fault is_live 1 (hits ∷ []) (many 17 0) ≡ Some Callers
unfolding many
seventeen_callers = refl

-- the first of two callers on processors that are not there
two_strays : plan_fault is_live 2 (hits ∷ []) (1 ∷ 2 ∷ 0 ∷ 5 ∷ []) ≡ Some (Processor 1)
two_strays = refl

-- each fault comes before the later ones
all_at_once : plan_fault is_live 0 [] [] ≡ Some Procs
all_at_once = refl

objects_before_callers : plan_fault is_live 1 [] [] ≡ Some Objects
objects_before_callers = refl

callers_before_strays : plan_fault is_live 1 (hits ∷ []) (many 17 3) ≡ Some Callers
unfolding many
callers_before_strays = refl

-- the first of two objects that would start dead
two_dead : plan_fault is_live 1 (hits ∷ dead ∷ hits ∷ dead ∷ []) (0 ∷ []) ≡ Some (Dead 1)
two_dead = refl

strays_before_the_dead : plan_fault is_live 1 (dead ∷ []) (3 ∷ []) ≡ Some (Processor 0)
strays_before_the_dead = refl
