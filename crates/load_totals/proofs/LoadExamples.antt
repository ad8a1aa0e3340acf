-- The numbers of short loads, reckoned by hand from the rule of the script.
use Rattle.std.proofs.Common.{◌≡◌, ℕ, refl, ap, arith}
use Rattle.load_totals.specs.Loads.{swaps_due, summary_due}
use Rattle.load_totals.specs.declared.totals.Summary.{Summary}

abbrev numbers : ℕ → ℕ → ℕ → ℕ → ℕ → Summary
numbers calls total names dirty swaps = record { calls = calls; total = total; names = names; dirty = dirty; swaps = swaps }

one_step : summary_due 1 ≡ numbers 1 1817669548 0 0 0
one_step = refl

two_steps : summary_due 2 ≡ numbers 2 7238419246 0 0 0
two_steps = refl

-- the first steps that bind and write: names 84, 90, 75 and 99, and pages 4, 649, 38 and 703
twelve_steps : summary_due 12 ≡ numbers 12 7499615651 4 4 0
twelve_steps = refl

-- steps 252, 500 and 1000 are swaps
swaps_of_251 : swaps_due 251 ≡ 0
swaps_of_251 = refl

swaps_of_252 : swaps_due 252 ≡ 1
swaps_of_252 = refl

swaps_of_1000 : swaps_due 1000 ≡ 3
swaps_of_1000 = refl

-- one step has no other total, and is counted once
other_total : summary_due 1 ≡ numbers 1 1817669549 0 0 0 → ⊥
other_total same = omega (arith, ap (λ (summary : Summary). summary.total) same)

other_calls : summary_due 1 ≡ numbers 2 1817669548 0 0 0 → ⊥
other_calls same = omega (arith, ap (λ (summary : Summary). summary.calls) same)
