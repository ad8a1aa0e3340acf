-- A step that comes late stands as well before steps that have nothing to do with it.
use Rattle.std.proofs.Common.{◌≡◌, List, [], ◌∷◌, ◌++◌, refl, sym, ◌∙◌}
use Rattle.std.specs.List.{AllByRecursion}
use Rattle.k42_stamp.specs.Replays.{Steps, replayed, Answered}

pub replayed-append : {X E A : Type 0} (k : Steps X E A) (x : X) (es fs : List E) → replayed k x (es ++ fs) ≡ replayed k (replayed k x es) fs
replayed-append k x [] fs = refl
replayed-append k x (e ∷ es) fs = replayed-append k (k.moves x e) es fs

answered-append : {X E A : Type 0} (k : Steps X E A) (x : X) (es fs : List E) → Answered k x es → Answered k (replayed k x es) fs → Answered k x (es ++ fs)
answered-append k x [] fs a b = b
answered-append k x (e ∷ es) fs a b = (a.0, answered-append k (k.moves x e) es fs a.1 b)

answered_front : {X E A : Type 0} (k : Steps X E A) (x : X) (es fs : List E) → Answered k x (es ++ fs) → Answered k x es
answered_front k x [] fs a = tt
answered_front k x (e ∷ es) fs a = (a.0, answered_front k (k.moves x e) es fs a.1)

answered_back : {X E A : Type 0} (k : Steps X E A) (x : X) (es fs : List E) → Answered k x (es ++ fs) → Answered k (replayed k x es) fs
answered_back k x [] fs a = a
answered_back k x (e ∷ es) fs a = answered_back k (k.moves x e) es fs a.1

-- steps of which each leaves the other alone
pub record AreApart {X E A : Type 0} (k : Steps X E A) (Apart : E → E → Type 0) : Type 0 where
  pub swap : (x : X) (e f : E) → Apart e f → k.moves (k.moves x e) f ≡ k.moves (k.moves x f) e
  pub first : (x : X) (e f : E) → Apart e f → k.answers (k.moves x f) e ≡ k.answers x e
  pub second : (x : X) (e f : E) → Apart e f → k.answers (k.moves x e) f ≡ k.answers x f

module _ {X E A : Type 0} (k : Steps X E A) (Apart : E → E → Type 0) (laws : AreApart k Apart) where
  late_moves : (x : X) (e : E) (fs : List E) → AllByRecursion (Apart e) fs → replayed k (k.moves x e) fs ≡ k.moves (replayed k x fs) e
  late_moves x e [] apart = refl
  late_moves x e (f ∷ fs) apart = rw (laws.swap x e f apart.0) (late_moves (k.moves x f) e fs apart.1)

  late_answer : (x : X) (e : E) (fs : List E) → AllByRecursion (Apart e) fs → k.answers (replayed k x fs) e ≡ k.answers x e
  late_answer x e [] apart = refl
  late_answer x e (f ∷ fs) apart = late_answer (k.moves x f) e fs apart.1 ∙ laws.first x e f apart.0

  late_keeps : (x : X) (e : E) (fs : List E) → AllByRecursion (Apart e) fs → Answered k x fs → Answered k (k.moves x e) fs
  late_keeps x e [] apart a = tt
  late_keeps x e (f ∷ fs) apart a = (laws.second x e f apart.0 ∙ a.0, rw (laws.swap x e f apart.0) (late_keeps (k.moves x f) e fs apart.1 a.1))

  -- a step that was taken last stands as well before those at the end that are apart from it
  pub inserted_answered : (x : X) (e : E) (es fs : List E) → AllByRecursion (Apart e) fs → Answered k x (es ++ fs) → k.answers (replayed k x (es ++ fs)) e ≡ k.tells e → Answered k x (es ++ e ∷ fs)
  inserted_answered x e es fs apart a told =
      let here = replayed k x es in
      let now : k.answers (replayed k here fs) e ≡ k.tells e = rw (← replayed-append k x es fs) told in
      answered-append k x es (e ∷ fs) (answered_front k x es fs a) (sym (late_answer here e fs apart) ∙ now, late_keeps here e fs apart (answered_back k x es fs a))

  pub inserted_replayed : (x : X) (e : E) (es fs : List E) → AllByRecursion (Apart e) fs → replayed k x (es ++ e ∷ fs) ≡ k.moves (replayed k x (es ++ fs)) e
  inserted_replayed x e es fs apart = rw (replayed-append k x es (e ∷ fs), replayed-append k x es fs) (late_moves (replayed k x es) e fs apart)
