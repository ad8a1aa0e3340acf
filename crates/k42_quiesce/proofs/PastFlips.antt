-- A grace that looks at the processors, or is quiet.
use Rattle.std.proofs.Common.{◌≡◌, ℕ, ◌+◌, ◌-◌, Bool, true, false, cond, ltb, refl}
use Rattle.gen_core.specs.Events.{is_looking, is_quiet, after_look}
use Rattle.gen_core.specs.declared.state.GraceAt.{GraceAt}
use Rattle.gen_core.specs.declared.state.GraceAt.TheVariants.{Looking, Quiet}

abbrev pub is_past_flips : GraceAt → Bool
is_past_flips (Looking p) = true
is_past_flips Quiet = true
is_past_flips grace = false

-- how many processors it has not passed
abbrev pub left_of : GraceAt → ℕ → ℕ
left_of (Looking p) procs = procs - p
left_of grace procs = 0

pub looks_past : (grace : GraceAt) → is_looking grace ≡ true → is_past_flips grace ≡ true
looks_past (Looking p) e = refl
looks_past grace e = absurd (cc)

pub looks_not_quiet : (grace : GraceAt) → is_looking grace ≡ true → is_quiet grace ≡ false
looks_not_quiet (Looking p) e = refl
looks_not_quiet grace e = absurd (cc)

pub past_look : (p procs : ℕ) → is_past_flips (after_look p procs) ≡ true
past_look p procs = by_test (ltb (p + 1) procs) where
  by_test : (b : Bool) → is_past_flips (cond b (Looking (p + 1)) Quiet) ≡ true
  by_test true = refl
  by_test false = refl
