-- What all callers share of one object is new, and that of the others stays.
use Rattle.std.proofs.Common.{◌≡◌, ℕ, ◌≢◌, cond, eqb, sym, refl, subst, ⊎_elim}
use Rattle.std.proofs.lemmas.Bool.{cases_eq, eq-eqb, ne_eqb}
use Rattle.phase_core.specs.Outlooks.{Outlook}

-- what is shared of o is new
abbrev pub put_look : (ℕ → Outlook) → ℕ → Outlook → ℕ → Outlook
put_look looks o look q = cond (eqb q o) look (looks q)

pub put_look-here : (looks : ℕ → Outlook) (o : ℕ) (look : Outlook) → put_look looks o look o ≡ look
put_look-here looks o look = rw (eq-eqb o o refl) refl

pub put_look-else : (looks : ℕ → Outlook) (o : ℕ) (look : Outlook) (q : ℕ) → q ≢ o → put_look looks o look q ≡ looks q
put_look-else looks o look q other = rw (ne_eqb q o other) refl

-- a fact of each object: the new one has it, and the others have it
pub by_object : (P : ℕ → Outlook → Type 0) (looks : ℕ → Outlook) (o : ℕ) (look : Outlook) → P o look
    → ((q : ℕ) → q ≢ o → P q (looks q)) → (q : ℕ) → P q (put_look looks o look q)
by_object P looks o look here else q =
    ⊎_elim
    (λ (same : q ≡ o). subst (λ r. P r (put_look looks o look r)) (sym same) (subst (λ l. P o l) (sym (put_look-here looks o look)) here))
    (λ (other : q ≢ o). subst (λ l. P q l) (sym (put_look-else looks o look q other)) (else q other))
    (cases_eq q o)
