-- A stamp that was drawn stays known, and a pass may skip to it.
use Rattle.std.proofs.Common.{◌≡◌, ℕ, suc, ◌≤◌, Bool, true, false, nat_le, ◌||◌, List, [], ◌∷◌, length, get_or, set, refl, sym, ap, ◌∙◌, arith, length-set}
use Rattle.std.specs.List.{list_any}
use Rattle.std.proofs.lemmas.Bool.Decides.{nat_tests}
use Rattle.k42_places.proofs.Written.{get_or-set_related}
use Rattle.turn_core.specs.Plain.{Caller, Turns}
use Rattle.turn_core.specs.State.{caller_at, fresh_caller}
use Rattle.turn_core.specs.Events.{is_known}

or_true : (a b : Bool) → b ≡ true → (a || b) ≡ true
or_true true b e = refl
or_true false b e = e

-- where no clock falls, what was known is known
pub known_rises : {O R : Type 0} (stamp : ℕ) (xs ys : List (Caller O R)) → length xs ≡ length ys
    → ((d : ℕ) → (get_or xs d fresh_caller).clock ≤ (get_or ys d fresh_caller).clock)
    → list_any (λ (x : Caller O R). nat_le stamp x.clock) xs ≡ true → list_any (λ (x : Caller O R). nat_le stamp x.clock) ys ≡ true
known_rises stamp [] ys many rises known = absurd (cc)
known_rises stamp (x ∷ xs) [] many rises known = absurd (omega (arith, many))
known_rises {O} {R} stamp (x ∷ xs) (y ∷ ys) many rises known =
    go (nat_le stamp x.clock) refl (λ further. known_rises stamp xs ys (omega (arith, many)) (λ d. rises (suc d)) further) where
      first : nat_le stamp x.clock ≡ true → nat_le stamp y.clock ≡ true
      first e = grind (arith, nat_tests, e, rises 0)

      go : (b : Bool) → nat_le stamp x.clock ≡ b
          → (list_any (λ (z : Caller O R). nat_le stamp z.clock) xs ≡ true → list_any (λ (z : Caller O R). nat_le stamp z.clock) ys ≡ true)
          → (nat_le stamp y.clock || list_any (λ (z : Caller O R). nat_le stamp z.clock) ys) ≡ true
      go true e behind = ap (λ b. b || list_any (λ (z : Caller O R). nat_le stamp z.clock) ys) (first e)
      go false e behind =
          or_true (nat_le stamp y.clock) (list_any (λ (z : Caller O R). nat_le stamp z.clock) ys)
          (behind (ap (λ b. b || list_any (λ (z : Caller O R). nat_le stamp z.clock) xs) (sym e) ∙ known))

-- so where one caller changes, whose clock does not fall
pub known_after : {O R : Type 0} (s : Turns O R) (c : ℕ) (x : Caller O R) (stamp : ℕ) → (caller_at s c).clock ≤ x.clock
    → is_known s stamp ≡ true → list_any (λ (y : Caller O R). nat_le stamp y.clock) (set s.callers c x) ≡ true
known_after {O} {R} s c x stamp up known =
    known_rises stamp s.callers (set s.callers c x) (sym (length-set s.callers c x))
    (λ d. get_or-set_related (λ (y z : Caller O R). y.clock ≤ z.clock) (λ y. omega arith) s.callers c d x fresh_caller up) known
