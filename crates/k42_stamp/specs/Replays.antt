-- Lists of steps, and what each of them is answered.
use Rattle.std.specs.Prelude.{◌≡◌, List, [], ◌∷◌, ⊤}

-- how a step moves a state, what it is answered there, and what the step itself tells of its answer
pub record Steps (X E A : Type 0) : Type 0 where
  pub moves : X → E → X
  pub answers : X → E → A
  pub tells : E → A

-- the state after the steps
abbrev pub replayed : {X E A : Type 0} → Steps X E A → X → List E → X
replayed k x [] = x
replayed k x (e ∷ es) = replayed k (k.moves x e) es

-- each step tells what it is answered after those before it
abbrev pub Answered : {X E A : Type 0} → Steps X E A → X → List E → Type 0
Answered k x [] = ⊤
Answered k x (e ∷ es) = (k.answers x e ≡ k.tells e) × Answered k (k.moves x e) es
