-- Whether another worker carried a swap out, told from who is known to have done so.
use Rattle.std.proofs.Common.{◌≡◌, ℕ, Bool, true, false, ◌&&◌, ◌||◌, not, List, [], ◌∷◌, fold, refl, ap, ◌∙◌, arith}
use Rattle.std.specs.Prelude.{◌==◌, Option, Some, None, if◌then◌else◌}
use Rattle.std.proofs.lemmas.Bool.Decides.{nat_tests}
use Rattle.record_text.specs.declared.record.RecordLine.{RecordLine}
use Rattle.record_text.specs.declared.judging.doers.Doer.{Doer}
use Rattle.record_text.specs.Referee.Doers.{is_swap, has_rival, joined, doer_after, doer_of}

-- another worker is among those who are known
abbrev pub knows_rival : Option Doer → ℕ → Bool
knows_rival None worker = false
knows_rival (Some doer) worker = doer.several || not (doer.first == worker)

one_more : (first worker other : ℕ) (several : Bool) → (several || not (first == other)) || not (first == worker) ≡ (several || not (first == worker)) || not (other == worker)
one_more first worker other true = refl
one_more first worker other false = grind (arith, nat_tests)

knows_joined : (known : Option Doer) (worker other : ℕ) → knows_rival (Some (joined known other)) worker ≡ knows_rival known worker || not (other == worker)
knows_joined None worker other = refl
knows_joined (Some doer) worker other = one_more doer.first worker other doer.several

or_assoc : (a b c : Bool) → (a || b) || c ≡ a || (b || c)
or_assoc true b c = refl
or_assoc false b c = refl

or_false : (a : Bool) → a ≡ a || false
or_false true = refl
or_false false = refl

module _ (object number worker : ℕ) where
  step : (known : Option Doer) (line : RecordLine) (b : Bool) → knows_rival (if b then Some (joined known line.worker) else known) worker ≡ knows_rival known worker || (b && not (line.worker == worker))
  step known line true = knows_joined known worker line.worker
  step known line false = or_false (knows_rival known worker)

  known_rival : (lines : List RecordLine) (known : Option Doer) → knows_rival (fold (doer_after object number) known lines) worker ≡ knows_rival known worker || has_rival lines worker object number
  known_rival [] known = or_false (knows_rival known worker)
  known_rival (line ∷ lines) known =
      known_rival lines (doer_after object number known line)
      ∙ ap (λ (b : Bool). b || has_rival lines worker object number) (step known line (is_swap object number line))
      ∙ or_assoc (knows_rival known worker) (is_swap object number line && not (line.worker == worker)) (has_rival lines worker object number)

  -- those who are known tell whether there is a rival
  pub rival_known : (lines : List RecordLine) → knows_rival (doer_of lines object number) worker ≡ has_rival lines worker object number
  rival_known lines = known_rival lines None
