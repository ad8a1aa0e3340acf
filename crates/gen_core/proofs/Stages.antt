-- Parities, exits by parity, and which processors a grace has flipped and passed.
use Rattle.std.proofs.Common.{◌≡◌, ℕ, ◌+◌, ◌<◌, ◌≢◌, Bool, true, false, not, cond, ltb, Option, Some, None, refl, arith}
use Rattle.std.specs.Option.{is_some, is_none}
use Rattle.std.proofs.lemmas.Bool.Decides.{nat_tests}
use Rattle.gen_core.specs.declared.state.GenProc.{GenProc}
use Rattle.gen_core.specs.declared.state.GraceAt.{GraceAt}
use Rattle.gen_core.specs.declared.state.GraceAt.TheVariants.{Idle, Flipping, Looking, Quiet}
use Rattle.gen_core.specs.Events.{is_even, exits_of, exit_counted, is_idle, is_flipping, is_looking, is_quiet, place_of, after_flip, after_look}
use Rattle.gen_core.specs.Sound.{is_flipped, is_passed}

pub is_even-next : (n : ℕ) → is_even (n + 1) ≡ not (is_even n)
is_even-next n = grind (arith, nat_tests)

-- which grace a test has found

pub from_is_idle : (g : GraceAt) → is_idle g ≡ true → g ≡ Idle
from_is_idle Idle e = refl
from_is_idle (Flipping p) e = cc
from_is_idle (Looking p) e = cc
from_is_idle Quiet e = cc

pub from_is_flipping : (g : GraceAt) → is_flipping g ≡ true → g ≡ Flipping (place_of g)
from_is_flipping Idle e = cc
from_is_flipping (Flipping p) e = refl
from_is_flipping (Looking p) e = cc
from_is_flipping Quiet e = cc

pub from_is_looking : (g : GraceAt) → is_looking g ≡ true → g ≡ Looking (place_of g)
from_is_looking Idle e = cc
from_is_looking (Flipping p) e = cc
from_is_looking (Looking p) e = refl
from_is_looking Quiet e = cc

pub from_is_quiet : (g : GraceAt) → is_quiet g ≡ true → g ≡ Quiet
from_is_quiet Idle e = cc
from_is_quiet (Flipping p) e = cc
from_is_quiet (Looking p) e = cc
from_is_quiet Quiet e = refl

pub from_is_none : {A : Type 0} (o : Option A) → is_none o ≡ true → o ≡ None
from_is_none None e = refl
from_is_none (Some x) e = cc

pub from_is_some : {A : Type 0} (o : Option A) → is_some o ≡ true → (x : A) × (o ≡ Some x)
from_is_some None e = cc
from_is_some (Some x) e = (x, refl)

-- the flags after a flip and after a look

module _ (p n : ℕ) (there : p < n) where
  flip_flags : (b : Bool) → ltb (p + 1) n ≡ b → (q : ℕ) → q < n
      → (is_passed (cond b (Flipping (p + 1)) (Looking 0)) q ≡ false) × (is_flipped (cond b (Flipping (p + 1)) (Looking 0)) q ≡ ltb q (p + 1))
  flip_flags true e q lt = (refl, refl)
  flip_flags false e q lt = (grind (arith, nat_tests), grind (arith, nat_tests))

  pub passed-after_flip : (q : ℕ) → q < n → is_passed (after_flip p n) q ≡ false
  passed-after_flip q lt = (flip_flags (ltb (p + 1) n) refl q lt).0

  pub flipped-after_flip_here : is_flipped (after_flip p n) p ≡ true
  flipped-after_flip_here = rw (flip_flags (ltb (p + 1) n) refl p there).1 (grind (arith, nat_tests))

  pub flipped-after_flip_else : (q : ℕ) → q < n → q ≢ p → is_flipped (after_flip p n) q ≡ ltb q p
  flipped-after_flip_else q lt other = rw (flip_flags (ltb (p + 1) n) refl q lt).1 (grind (arith, nat_tests))

  look_flags : (b : Bool) → ltb (p + 1) n ≡ b → (q : ℕ) → q < n
      → (is_flipped (cond b (Looking (p + 1)) Quiet) q ≡ true) × (is_passed (cond b (Looking (p + 1)) Quiet) q ≡ ltb q (p + 1))
  look_flags true e q lt = (refl, refl)
  look_flags false e q lt = (refl, grind (arith, nat_tests))

  pub flipped-after_look : (q : ℕ) → q < n → is_flipped (after_look p n) q ≡ true
  flipped-after_look q lt = (look_flags (ltb (p + 1) n) refl q lt).0

  pub passed-after_look_here : is_passed (after_look p n) p ≡ true
  passed-after_look_here = rw (look_flags (ltb (p + 1) n) refl p there).1 (grind (arith, nat_tests))

  pub passed-after_look_else : (q : ℕ) → q < n → q ≢ p → is_passed (after_look p n) q ≡ ltb q p
  passed-after_look_else q lt other = rw (look_flags (ltb (p + 1) n) refl q lt).1 (grind (arith, nat_tests))

-- what an exit changes of a processor
pub record CountsExit (even : Bool) (k l : GenProc) : Type 0 where
  pub generation : l.generation ≡ k.generation
  pub entered : l.entered ≡ k.entered
  pub own : exits_of l even ≡ exits_of k even + 1
  pub other : exits_of l (not even) ≡ exits_of k (not even)

pub exit_is_counted : (k : GenProc) (even : Bool) → CountsExit even k (exit_counted k even)
exit_is_counted k true = record { generation = refl; entered = refl; own = refl; other = refl }
exit_is_counted k false = record { generation = refl; entered = refl; own = refl; other = refl }
