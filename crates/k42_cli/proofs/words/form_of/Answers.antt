use Rattle.std.proofs.Common.{◌≡◌, ℕ, ◌≤◌, List, [], ◌∷◌, length, map, refl, arith}
use Rattle.std.specs.Prelude.{None, string_bytes}
use Rattle.k42_cli.specs.Words as asked
use Rattle.k42_cli.proofs.words.form_of.Goals as goal

-- three words and more are no form
no_form : {A : Type 0} (bytes : A → List ℕ) (words : List A) → 3 ≤ length words → None ≡ asked.form_of (map bytes words)
no_form bytes [] many = absurd (omega (arith, many))
no_form bytes (a ∷ []) many = absurd (omega (arith, many))
no_form bytes (a ∷ b ∷ []) many = absurd (omega (arith, many))
no_form bytes (a ∷ b ∷ c ∷ words) many = refl

pub returns-in_default-2-clause-form : goal.returns-in_default-2-clause-form
returns-in_default-2-clause-form c = no_form string_bytes c.args.words.now c.in_default.len_at_least
